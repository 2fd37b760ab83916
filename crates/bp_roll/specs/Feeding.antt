-- What a hasher is fed for an event: its name and the leaves of its data, in order. Equal events are
-- fed alike. Others may be: null, keys, and where lists begin and end are not fed.
use Rattle.std.specs.Prelude.{ℕ, List, [], ◌++◌, Option, Some, None, fold}
use Rattle.std.specs.Hash as fed
use Rattle.std.specs.Hash.FoldHasher.{initial, write, finish}
use Rattle.js_data.specs.Data.{PlainData, null, truth, whole, text, list, fields, DataList, no_data, item, DataFields, no_fields, field}
use Rattle.js_data.specs.Event.{PlainEvent}

-- all leaves but null, in order
abbrev mutual
  pub data_writes : PlainData → List (List ℕ)
  data_writes null = []
  data_writes (truth b) = fed.bool b
  data_writes (whole n) = fed.i64 n
  data_writes (text s) = fed.str s
  data_writes (list ds) = data_list_writes ds
  data_writes (fields fs) = data_fields_writes fs

  pub data_list_writes : DataList → List (List ℕ)
  data_list_writes no_data = []
  data_list_writes (item d ds) = data_writes d ++ data_list_writes ds

  pub data_fields_writes : DataFields → List (List ℕ)
  data_fields_writes no_fields = []
  data_fields_writes (field k d fs) = data_writes d ++ data_fields_writes fs

-- those of the data of an event, if it has some
abbrev pub extra_writes : Option PlainData → List (List ℕ)
extra_writes None = []
extra_writes (Some d) = data_writes d

abbrev pub event_writes : PlainEvent → List (List ℕ)
event_writes e = fed.str e.name ++ extra_writes e.extra

-- a hash of the event
abbrev pub event_key : PlainEvent → ℕ
event_key e = finish (fold write initial (event_writes e))
