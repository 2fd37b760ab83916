-- The definitions on worked examples.
use Rattle.std.specs.Prelude.{◌≡◌, pos, negsuc, [], ◌∷◌, true, false, Some, None, codes, refl}
use Rattle.std.specs.Fmt.{digits}
use Rattle.js_data.specs.Whole.{is_whole}
use Rattle.js_data.specs.Data.{PlainData, null, truth, whole, text, list, fields, no_data, item, no_fields, field, data_weight, data_nesting, same_data, IsSortedData}
use Rattle.js_data.specs.Event.{PlainEvent, event_weight, event_nesting, same_event}
use Rattle.js_data.specs.JsonText.{quoted_text, event_text}

greatest : is_whole (pos 9_007_199_254_740_991) ≡ true
greatest = refl

past_greatest : is_whole (pos 9_007_199_254_740_992) ≡ false
past_greatest = refl

least : is_whole (negsuc 9_007_199_254_740_990) ≡ true
least = refl

past_least : is_whole (negsuc 9_007_199_254_740_991) ≡ false
past_least = refl

-- {"a":1,"b":[null,"hi"]}
abbrev some_data : PlainData
some_data =
    fields (field (codes "a") (whole (pos 1)) (field (codes "b") (list (item null (item (text (codes "hi")) no_data))) no_fields))

-- the fields 1; the key a 2, the number 1; the key b 2, the list 1, null 1, the text 3
weight_of_data : data_weight some_data ≡ 11
weight_of_data = refl

nesting_of_data : data_nesting some_data ≡ 3
nesting_of_data = refl

empty_list : data_nesting (list no_data) ≡ 1
empty_list = refl

sorted : IsSortedData some_data
sorted = ((refl, tt), tt, (tt, (tt, (tt, tt)), tt))

not_same : same_data some_data null ≡ false
not_same = refl

abbrev go : PlainEvent
go = record { name = codes "go"; extra = None }

abbrev go_with : PlainEvent
go_with = record { name = codes "go"; extra = Some some_data }

weight_of_event : event_weight go ≡ 4
weight_of_event = refl

weight_with_data : event_weight go_with ≡ 15
weight_with_data = refl

nesting_of_event : event_nesting go ≡ 2
nesting_of_event = refl

nesting_with_data : event_nesting go_with ≡ 4
nesting_with_data = refl

-- no data is not null
abbrev go_null : PlainEvent
go_null = record { name = codes "go"; extra = Some null }

none_and_null : same_event go go_null ≡ false
none_and_null = refl

same_name_and_data : same_event go_with go_with ≡ true
same_name_and_data = refl

other_name : same_event go (record { name = codes "go "; extra = None }) ≡ false
other_name = refl

text_of_event : event_text go ≡ codes "[\"go\"]"
text_of_event = refl

text_with_data : event_text go_with ≡ codes "[\"go\",{\"a\":1,\"b\":[null,\"hi\"]}]"
unfolding digits
text_with_data = refl

escapes : quoted_text (34 ∷ 92 ∷ 8 ∷ 9 ∷ 10 ∷ 12 ∷ 13 ∷ 0 ∷ 31 ∷ 47 ∷ 126 ∷ []) ≡ codes "\"\\\"\\\\\\b\\t\\n\\f\\r\\u0000\\u001f/~\""
escapes = refl

below_zero : event_text (record { name = []; extra = Some (list (item (whole (negsuc 6)) (item (truth true) (item (fields no_fields) no_data)))) }) ≡ codes "[\"\",[-7,true,{}]]"
unfolding digits
below_zero = refl
