-- Texts, data and events as compact JSON: no space, keys in the order of the fields.
use Rattle.std.specs.Prelude.{ℕ, ◌||◌, ◌==◌, ◌/◌, ◌%◌, List, [], ◌∷◌, ◌++◌, flat_map, Bool, true, false, nat_lt, if◌then◌else◌, Option, Some, None, codes}
use Rattle.std.specs.Fmt.{signed_decimal}
use Rattle.std.specs.Char.{digit_char}
use Rattle.js_data.specs.Data.{PlainData, null, truth, whole, text, list, fields, DataList, no_data, item, DataFields, no_fields, field}
use Rattle.js_data.specs.Event.{PlainEvent}

-- The bytes: 34 is the quotation mark, 92 the backslash, 44 the comma, 58 the colon, 91 and 93 the
-- square brackets, 123 and 125 the curly ones; 8, 9, 10, 12 and 13 are backspace, tab, LF, form feed
-- and CR.

-- what stands in a text for the byte x
abbrev pub escaped_byte : ℕ → List ℕ
escaped_byte x =
    if (x == 34) || (x == 92) then 92 ∷ x ∷ [] else
    (if x == 8 then codes "\\b" else
    (if x == 9 then codes "\\t" else
    (if x == 10 then codes "\\n" else
    (if x == 12 then codes "\\f" else
    (if x == 13 then codes "\\r" else
    (if nat_lt x 32 then codes "\\u00" ++ (digit_char (x / 16) ∷ digit_char (x % 16) ∷ [])
    else x ∷ []))))))

abbrev pub quoted_text : List ℕ → List ℕ
quoted_text s = 34 ∷ (flat_map escaped_byte s ++ 34 ∷ [])

abbrev pub truth_text : Bool → List ℕ
truth_text true = codes "true"
truth_text false = codes "false"

abbrev pub comma : Bool → List ℕ
comma later = if later then 44 ∷ [] else []

-- compact JSON; a list and fields with their closing bracket, and with whether something stands before
abbrev mutual
  pub data_text : PlainData → List ℕ
  data_text null = codes "null"
  data_text (truth b) = truth_text b
  data_text (whole n) = signed_decimal n
  data_text (text s) = quoted_text s
  data_text (list ds) = 91 ∷ data_list_text false ds
  data_text (fields fs) = 123 ∷ data_fields_text false fs

  pub data_list_text : Bool → DataList → List ℕ
  data_list_text later no_data = 93 ∷ []
  data_list_text later (item d ds) = comma later ++ (data_text d ++ data_list_text true ds)

  pub data_fields_text : Bool → DataFields → List ℕ
  data_fields_text later no_fields = 125 ∷ []
  data_fields_text later (field k d fs) =
      comma later ++ (quoted_text k ++ 58 ∷ (data_text d ++ data_fields_text true fs))

abbrev pub extra_text : Option PlainData → List ℕ
extra_text None = 93 ∷ []
extra_text (Some d) = 44 ∷ (data_text d ++ 93 ∷ [])

abbrev pub event_text : PlainEvent → List ℕ
event_text e = 91 ∷ (quoted_text e.name ++ extra_text e.extra)
