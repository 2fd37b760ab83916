-- The JSON value that stands for data, and for an event.
use Rattle.std.specs.Prelude.{Option, Some, None}
use Rattle.serde_json.specs.Data as json
use Rattle.serde_json.specs.Find.{of_integer}
use Rattle.js_data.specs.Data.{PlainData, null, truth, whole, text, list, fields, DataList, no_data, item, DataFields, no_fields, field}
use Rattle.js_data.specs.Event.{PlainEvent}

abbrev mutual
  pub data_json : PlainData → json.Data
  data_json null = json.null
  data_json (truth b) = json.boolean b
  data_json (whole n) = json.number (of_integer n)
  data_json (text s) = json.string s
  data_json (list ds) = json.array (list_json ds)
  data_json (fields fs) = json.object (put_all fs json.no_members)

  pub list_json : DataList → json.Items
  list_json no_data = json.no_items
  list_json (item d ds) = json.item (data_json d) (list_json ds)

  -- the fields go in one after another
  pub put_all : DataFields → json.Members → json.Members
  put_all no_fields ms = ms
  put_all (field k d fs) ms = put_all fs (json.put k (data_json d) ms)

abbrev pub extra_json : Option PlainData → json.Items
extra_json None = json.no_items
extra_json (Some d) = json.item (data_json d) json.no_items

abbrev pub event_json : PlainEvent → json.Data
event_json e = json.array (json.item (json.string e.name) (extra_json e.extra))
