-- What the data of an event that is read holds: its texts are UTF-8, and its numbers in range.
use Rattle.std.proofs.Common.{◌≡◌, ℕ, suc, ◌<◌, Bool, true, false, List, [], ◌∷◌, ◌++◌, Some, ℤ, pos, negsuc, IsUtf8, IsAscii, codes, refl, subst, arith, append_assoc, option_map}
use Rattle.std.specs.Prelude.{decimal}
use Rattle.std.specs.Fmt.{signed_decimal}
use Rattle.std.proofs.lemmas.Bool.{ltb-true, lt-ltb}
use Rattle.std.proofs.lemmas.Fmt.{IsAscii-decimal}
use Rattle.std.proofs.lemmas.Str.{is_utf8-from_IsUtf8}
use Rattle.std.proofs.lemmas.Option.{same_Some, cond_some, none-some}
use Rattle.json.proofs.Printed.Utf8.{are_ascii}
use Rattle.serde_json.specs.Data as json
use Rattle.serde_json.specs.Find.{as_i64, as_str, as_array}
use Rattle.js_data.specs.Whole.{is_whole, IsWhole}
use Rattle.js_data.specs.Data.{PlainData, null, truth, whole, text as words, list, fields, DataList, no_data, item, DataFields, no_fields, field, IsHeld, AreHeld, AreHeldFields}
use Rattle.js_data.specs.Event.{PlainEvent, IsHeldExtra}
use Rattle.js_data.specs.JsonText.{data_text, data_list_text, data_fields_text, extra_text, quoted_text, comma}
use Rattle.js_data.proofs.Shared.{chained, mapped}
use Rattle.js_json.specs.Json.{if_whole, data_from, list_from, fields_from, event_of_parts, event_of_items, event_from}
use Rattle.bp_reading.proofs.Unquoted.{past_ascii, utf8_unquoted}

-- where its text begins what is UTF-8, the data is held, and UTF-8 stands after it
abbrev Held : PlainData → Type 0
Held d = (rest : List ℕ) → IsUtf8 (data_text d ++ rest) → IsHeld d × IsUtf8 rest

abbrev HeldList : DataList → Type 0
HeldList ds = (later : Bool) (rest : List ℕ) → IsUtf8 (data_list_text later ds ++ rest) → AreHeld ds × IsUtf8 rest

abbrev HeldFields : DataFields → Type 0
HeldFields fs = (later : Bool) (rest : List ℕ) → IsUtf8 (data_fields_text later fs ++ rest) → AreHeldFields fs × IsUtf8 rest

-- ---- the parts of a text

are_ascii-IsAscii : (bytes : List ℕ) → IsAscii bytes → are_ascii bytes ≡ true
are_ascii-IsAscii [] h = refl
are_ascii-IsAscii (b ∷ bytes) h = rw (lt-ltb b 128 (h 0), are_ascii-IsAscii bytes (λ i. h (suc i))) refl

ascii_whole : (z : ℤ) → IsWhole z → are_ascii (signed_decimal z) ≡ true
ascii_whole (pos n) h = let k : n < 9_007_199_254_740_992 = ltb-true n 9_007_199_254_740_992 h in are_ascii-IsAscii (decimal n) (IsAscii-decimal n (omega arith))
ascii_whole (negsuc n) h = let k : n < 9_007_199_254_740_991 = ltb-true n 9_007_199_254_740_991 h in are_ascii-IsAscii (decimal (suc n)) (IsAscii-decimal (suc n) (omega arith))

held_whole : (z : ℤ) → IsWhole z → Held (whole z)
held_whole z h rest u = (h, past_ascii (signed_decimal z) rest (ascii_whole z h) u)

held_words : (s : List ℕ) → Held (words s)
held_words s rest u = let p = utf8_unquoted s rest u in (is_utf8-from_IsUtf8 s p.0, p.1)

held_truth : (b : Bool) → Held (truth b)
held_truth true rest u = (tt, past_ascii (codes "true") rest refl u)
held_truth false rest u = (tt, past_ascii (codes "false") rest refl u)

held_in_list : (ds : DataList) → HeldList ds → Held (list ds)
held_in_list ds h rest u = h false rest (past_ascii (91 ∷ []) (data_list_text false ds ++ rest) refl u)

held_in_fields : (fs : DataFields) → HeldFields fs → Held (fields fs)
held_in_fields fs h rest u = h false rest (past_ascii (123 ∷ []) (data_fields_text false fs ++ rest) refl u)

past_comma : (later : Bool) (text rest : List ℕ) → IsUtf8 ((comma later ++ text) ++ rest) → IsUtf8 (text ++ rest)
past_comma true text rest u = past_ascii (44 ∷ []) (text ++ rest) refl u
past_comma false text rest u = u

no_more_data : HeldList no_data
no_more_data later rest u = (tt, past_ascii (93 ∷ []) rest refl u)

no_more_fields : HeldFields no_fields
no_more_fields later rest u = (tt, past_ascii (125 ∷ []) rest refl u)

one_item : (d : PlainData) (ds : DataList) → Held d → HeldList ds → HeldList (item d ds)
one_item d ds h k later rest u =
    let items = past_comma later (data_text d ++ data_list_text true ds) rest u in
    let first = h (data_list_text true ds ++ rest) (subst IsUtf8 (append_assoc (data_text d) (data_list_text true ds) rest) items) in
    let more = k true rest first.1 in
    ((first.0, more.0), more.1)

one_field : (key : List ℕ) (d : PlainData) (fs : DataFields) → Held d → HeldFields fs → HeldFields (field key d fs)
one_field key d fs h k later rest u =
    let behind_key = 58 ∷ (data_text d ++ data_fields_text true fs) in
    let items = past_comma later (quoted_text key ++ behind_key) rest u in
    let name = utf8_unquoted key (behind_key ++ rest) (subst IsUtf8 (append_assoc (quoted_text key) behind_key rest) items) in
    let values = past_ascii (58 ∷ []) ((data_text d ++ data_fields_text true fs) ++ rest) refl name.1 in
    let first = h (data_fields_text true fs ++ rest) (subst IsUtf8 (append_assoc (data_text d) (data_fields_text true fs) rest) values) in
    let more = k true rest first.1 in
    ((is_utf8-from_IsUtf8 key name.0, first.0, more.0), more.1)

-- ---- what is read as data

mutual
  held_data : (j : json.Data) (d : PlainData) → data_from j ≡ Some d → Held d
  held_data json.null d h = subst Held (same_Some null d h) (λ rest u. (tt, past_ascii (codes "null") rest refl u))
  held_data (json.boolean b) d h = subst Held (same_Some (truth b) d h) (held_truth b)
  held_data (json.number n) d h =
      let a = chained if_whole (as_i64 n) d h in
      let b = cond_some (is_whole a.0) (whole a.0) d a.2 in
      subst Held b.1 (held_whole a.0 b.0)
  held_data (json.string s) d h = subst Held (same_Some (words s) d h) (held_words s)
  held_data (json.array js) d h =
      let a = mapped list (list_from js) d h in
      subst Held a.2 (held_in_list a.0 (held_list js a.0 a.1))
  held_data (json.object ms) d h =
      let a = mapped fields (fields_from ms) d h in
      subst Held a.2 (held_in_fields a.0 (held_fields ms a.0 a.1))

  held_list : (js : json.Items) (ds : DataList) → list_from js ≡ Some ds → HeldList ds
  held_list json.no_items ds h = subst HeldList (same_Some no_data ds h) no_more_data
  held_list (json.item j js) ds h =
      let a = chained (λ (x : PlainData). option_map (item x) (list_from js)) (data_from j) ds h in
      let b = mapped (item a.0) (list_from js) ds a.2 in
      subst HeldList b.2 (one_item a.0 b.0 (held_data j a.0 a.1) (held_list js b.0 b.1))

  held_fields : (ms : json.Members) (fs : DataFields) → fields_from ms ≡ Some fs → HeldFields fs
  held_fields json.no_members fs h = subst HeldFields (same_Some no_fields fs h) no_more_fields
  held_fields (json.member k j ms) fs h =
      let a = chained (λ (x : PlainData). option_map (field k x) (fields_from ms)) (data_from j) fs h in
      let b = mapped (field k a.0) (fields_from ms) fs a.2 in
      subst HeldFields b.2 (one_field k a.0 b.0 (held_data j a.0 a.1) (held_fields ms b.0 b.1))

-- ---- events

-- where the text of its data is UTF-8, the data of the event is held
abbrev HasHeld : PlainEvent → Type 0
HasHeld e = IsUtf8 (extra_text e.extra) → IsHeldExtra e.extra

held_parts : (name : List ℕ) (js : json.Items) (e : PlainEvent) → event_of_parts name js ≡ Some e → HasHeld e
held_parts name json.no_items e h = subst HasHeld (same_Some _ e h) (λ u. tt)
held_parts name (json.item j json.no_items) e h =
    let a = mapped _ (data_from j) e h in
    subst HasHeld a.2 (λ u. (held_data j a.0 a.1 (93 ∷ []) (past_ascii (44 ∷ []) (data_text a.0 ++ (93 ∷ [])) refl u)).0)
held_parts name (json.item j (json.item k js)) e h = absurd (none-some _ h)

held_items : (js : json.Items) (e : PlainEvent) → event_of_items js ≡ Some e → HasHeld e
held_items json.no_items e h = absurd (none-some _ h)
held_items (json.item j js) e h =
    let a = chained (λ (name : List ℕ). event_of_parts name js) (as_str j) e h in
    held_parts a.0 js e a.2

pub held_event : (j : json.Data) (e : PlainEvent) → event_from j ≡ Some e → IsUtf8 (extra_text e.extra) → IsHeldExtra e.extra
held_event j e h =
    let a = chained event_of_items (as_array j) e h in
    held_items a.0 e a.2
