-- The event that some bytes are the text of, by the reading definition of `serde_json`: the value that
-- it gives is a list of a text, or of a text and data, within the limits of events.
use Rattle.std.specs.Prelude.{ℕ, ◌&&◌, ℤ, List, nat_le, if◌then◌else◌, Option, Some, None, option_map, option_and_then}
use Rattle.std.specs.Str.{is_utf8}
use Rattle.serde_json.specs.Data as json
use Rattle.serde_json.specs.Find.{as_i64, as_str, as_array}
use Rattle.serde_json.specs.Read.{read}
use Rattle.js_data.specs.Whole.{is_whole}
use Rattle.js_data.specs.Data.{PlainData, null, truth, whole, text, list, fields, DataList, no_data, item, DataFields, no_fields, field}
use Rattle.js_data.specs.Event.{PlainEvent, event_weight, event_nesting}
use Rattle.js_data.specs.declared.event.TheConstants.Event as event

abbrev pub if_whole : ℤ → Option PlainData
if_whole n = if is_whole n then Some (whole n) else None

abbrev mutual
  pub data_from : json.Data → Option PlainData
  data_from json.null = Some null
  data_from (json.boolean b) = Some (truth b)
  data_from (json.number n) = option_and_then if_whole (as_i64 n)
  data_from (json.string s) = Some (text s)
  data_from (json.array ds) = option_map list (list_from ds)
  data_from (json.object ms) = option_map fields (fields_from ms)

  pub list_from : json.Items → Option DataList
  list_from json.no_items = Some no_data
  list_from (json.item d ds) = option_and_then (λ x. option_map (item x) (list_from ds)) (data_from d)

  pub fields_from : json.Members → Option DataFields
  fields_from json.no_members = Some no_fields
  fields_from (json.member k d ms) =
      option_and_then (λ x. option_map (field k x) (fields_from ms)) (data_from d)

abbrev pub event_of_parts : List ℕ → json.Items → Option PlainEvent
event_of_parts name json.no_items = Some (record { name = name; extra = None })
event_of_parts name (json.item d json.no_items) =
    option_map (λ x. record { name = name; extra = Some x }) (data_from d)
event_of_parts name (json.item d (json.item e ds)) = None

abbrev pub event_of_items : json.Items → Option PlainEvent
event_of_items json.no_items = None
event_of_items (json.item d ds) = option_and_then (λ s. event_of_parts s ds) (as_str d)

abbrev pub event_from : json.Data → Option PlainEvent
event_from d = option_and_then event_of_items (as_array d)

abbrev pub within_limits : PlainEvent → Option PlainEvent
within_limits e =
    if nat_le (event_weight e) event.MOST_WEIGHT && nat_le (event_nesting e) event.MOST_NESTING then Some e
    else None

-- the event that these bytes are the text of
abbrev pub event_at : List ℕ → Option PlainEvent
event_at bytes =
    if is_utf8 bytes then option_and_then within_limits (option_and_then event_from (read bytes))
    else None
