-- The event of an event's text is that event.
use Rattle.std.proofs.Common.{◌≡◌, ℕ, suc, ◌<◌, ◌≤◌, ◌^◌, List, [], ◌∷◌, ◌++◌, Bool, true, false, Option, Some, None, option_map, option_and_then, refl, sym, ap, subst, ◌∙◌, arith, append-nil, ℤ, pos, negsuc}
use Rattle.std.specs.Str.{is_utf8, IsUtf8}
use Rattle.std.proofs.lemmas.Bool.{ltb-true, lt-ltb}
use Rattle.std.proofs.lemmas.Str.{IsUtf8-from_is_utf8, IsUtf8-append, IsUtf8-from_ascii}
use Rattle.std.proofs.lemmas.Fmt.{IsAscii-signed}
use Rattle.json.specs.Json as source
use Rattle.json.specs.Print.{print}
use Rattle.json.specs.Tree as tree
use Rattle.json.specs.Tree.{json_tokens, HasNumbers, ItemsHaveNumbers, MembersHaveNumbers}
use Rattle.json.proofs.Printed.Decimals.{IsNumber-decimal, IsNumber-signed_decimal}
use Rattle.json.proofs.Printed.Tokens.{tokens-print}
use Rattle.json.proofs.Printed.Trees.{ArePrintable-json_tokens, value-json_tokens}
use Rattle.serde_json.specs.Data as json
use Rattle.serde_json.specs.Data.{depth, items_depth, members_depth, put}
use Rattle.serde_json.specs.Find.{of_integer, as_i64}
use Rattle.serde_json.specs.Read.{of_json, of_items, of_members, read, max_depth}
use Rattle.serde_json.specs.Written.{outline, items_outline, members_outline}
use Rattle.serde_json.proofs.Numbers.{number_of-decimal, number_of-negative}
use Rattle.serde_json.proofs.Texts.{print-outline}
use Rattle.js_data.specs.Whole.{IsWhole}
use Rattle.js_data.specs.Data.{PlainData, null, truth, whole, text, list, fields, DataList, no_data, item, DataFields, no_fields, field, IsSortedData, AreSortedData, AreSortedDataFields, IsHeld, AreHeld, AreHeldFields}
use Rattle.js_data.specs.Event.{PlainEvent, IsEvent, IsSortedExtra, IsHeldExtra}
use Rattle.js_data.specs.JsonText.{event_text, data_text, data_list_text, data_fields_text, extra_text, quoted_text, comma}
use Rattle.js_json.specs.inner.Built.{data_json, list_json, put_all, event_json}
use Rattle.js_json.specs.Json.{event_at, data_from, list_from, fields_from, event_from, if_whole}
use Rattle.json.proofs.Printed.Utf8.{are_ascii, IsUtf8-are_ascii, IsUtf8-quoted}
use Rattle.js_json.proofs.Escapes.{quoted_is}
use Rattle.js_json.proofs.Reading.{accepted}
use Rattle.js_json.proofs.Texts.{in_order, put_all_is, event_text_is, event_depth_is}

small : (n : ℕ) → IsWhole (pos n) → n < 2 ^ 63
small n h = let k : n < 9_007_199_254_740_992 = ltb-true n 9_007_199_254_740_992 h in omega arith

small_negative : (n : ℕ) → IsWhole (negsuc n) → suc n < 2 ^ 63
small_negative n h = let k : n < 9_007_199_254_740_991 = ltb-true n 9_007_199_254_740_991 h in omega arith

-- ---- the value of `serde_json` is read from its own text

number_read : (z : ℤ) → IsWhole z → of_json (outline (json.number (of_integer z))) ≡ Some (json.number (of_integer z))
number_read (pos n) h = ap (option_map json.number) (number_of-decimal n (let k = small n h in omega arith))
number_read (negsuc n) h = ap (option_map json.number) (number_of-negative n (let k = small_negative n h in omega arith))

number_spelled : (z : ℤ) → IsWhole z → HasNumbers (outline (json.number (of_integer z)))
number_spelled (pos n) h = IsNumber-decimal n (let k = small n h in omega arith)
number_spelled (negsuc n) h = IsNumber-signed_decimal (negsuc n) (let k = small_negative n h in omega arith)

mutual
  data_read : (d : PlainData) → IsSortedData d → IsHeld d → of_json (outline (data_json d)) ≡ Some (data_json d)
  data_read null s h = refl
  data_read (truth b) s h = refl
  data_read (whole z) s h = number_read z h
  data_read (text t) s h = refl
  data_read (list ds) s h = ap (option_map json.array) (list_read ds s h)
  data_read (fields fs) s h = rw (put_all_is fs s) (ap (option_map json.object) (fields_read fs json.no_members s h ∙ ap Some (put_all_is fs s)))

  list_read : (ds : DataList) → AreSortedData ds → AreHeld ds → of_items (items_outline (list_json ds)) ≡ Some (list_json ds)
  list_read no_data s h = refl
  list_read (item d ds) s h = rw (data_read d s.0 h.0, list_read ds s.1 h.1)

  fields_read : (fs : DataFields) (found : json.Members) → AreSortedDataFields fs → AreHeldFields fs → of_members (members_outline (in_order fs)) found ≡ Some (put_all fs found)
  fields_read no_fields found s h = refl
  fields_read (field k d fs) found s h = rw (data_read d s.1 h.1) (fields_read fs (put k (data_json d) found) s.2 h.2)

mutual
  data_spelled : (d : PlainData) → IsSortedData d → IsHeld d → HasNumbers (outline (data_json d))
  data_spelled null s h = tt
  data_spelled (truth b) s h = tt
  data_spelled (whole z) s h = number_spelled z h
  data_spelled (text t) s h = tt
  data_spelled (list ds) s h = list_spelled ds s h
  data_spelled (fields fs) s h = rw (put_all_is fs s) (fields_spelled fs s h)

  list_spelled : (ds : DataList) → AreSortedData ds → AreHeld ds → ItemsHaveNumbers (items_outline (list_json ds))
  list_spelled no_data s h = tt
  list_spelled (item d ds) s h = (data_spelled d s.0 h.0, list_spelled ds s.1 h.1)

  fields_spelled : (fs : DataFields) → AreSortedDataFields fs → AreHeldFields fs → MembersHaveNumbers (members_outline (in_order fs))
  fields_spelled no_fields s h = tt
  fields_spelled (field k d fs) s h = (data_spelled d s.1 h.1, fields_spelled fs s.2 h.2)

mutual
  outline_depth : (d : json.Data) → tree.depth (outline d) ≡ depth d
  outline_depth json.null = refl
  outline_depth (json.boolean b) = refl
  outline_depth (json.number n) = refl
  outline_depth (json.string s) = refl
  outline_depth (json.array ds) = ap suc (items_outline_depth ds)
  outline_depth (json.object ms) = ap suc (members_outline_depth ms)

  items_outline_depth : (ds : json.Items) → tree.items_depth (items_outline ds) ≡ items_depth ds
  items_outline_depth json.no_items = refl
  items_outline_depth (json.item d ds) = rw (outline_depth d, items_outline_depth ds)

  members_outline_depth : (ms : json.Members) → tree.members_depth (members_outline ms) ≡ members_depth ms
  members_outline_depth json.no_members = refl
  members_outline_depth (json.member k d ms) = rw (outline_depth d, members_outline_depth ms)

-- a value is read from the text of its outline
pub read_print : (j : source.Json) (d : json.Data) → HasNumbers j → tree.depth j ≤ max_depth → of_json j ≡ Some d → read (print (json_tokens j)) ≡ Some d
read_print j d n h is =
    ap (λ o. option_and_then of_json (option_and_then (λ p. source.if_last p.0 p.1) o))
    (ap (source.value max_depth) (tokens-print (json_tokens j) (ArePrintable-json_tokens j n) ∙ sym (append-nil (json_tokens j)))
    ∙ value-json_tokens j max_depth [] h)
    ∙ is

extra_read : (n : List ℕ) (x : Option PlainData) → IsSortedExtra x → IsHeldExtra x → of_json (outline (event_json (record { name = n; extra = x }))) ≡ Some (event_json (record { name = n; extra = x }))
extra_read n None s h = refl
extra_read n (Some d) s h = rw (data_read d s h)

extra_spelled : (n : List ℕ) (x : Option PlainData) → IsSortedExtra x → IsHeldExtra x → HasNumbers (outline (event_json (record { name = n; extra = x })))
extra_spelled n None s h = (tt, tt)
extra_spelled n (Some d) s h = (tt, (data_spelled d s h, tt))

pub event_read : (e : PlainEvent) → IsEvent e → read (event_text e) ≡ Some (event_json e)
event_read e h =
    let shallow : tree.depth (outline (event_json e)) ≤ max_depth = omega (arith, outline_depth (event_json e), event_depth_is e h) in
    ap read (sym (event_text_is e h) ∙ sym (print-outline (event_json e)))
    ∙ read_print (outline (event_json e)) (event_json e) (extra_spelled e.name e.extra h.sorted h.held) shallow (extra_read e.name e.extra h.sorted h.held)

-- ---- and back to the event

number_back : (z : ℤ) → IsWhole z → option_and_then if_whole (as_i64 (of_integer z)) ≡ Some (whole z)
number_back (pos n) h = let k : n < 2 ^ 63 = small n h in rw (lt-ltb n (2 ^ 63) k, h)
number_back (negsuc n) h = rw h

mutual
  data_back : (d : PlainData) → IsSortedData d → IsHeld d → data_from (data_json d) ≡ Some d
  data_back null s h = refl
  data_back (truth b) s h = refl
  data_back (whole z) s h = number_back z h
  data_back (text t) s h = refl
  data_back (list ds) s h = ap (option_map list) (list_back ds s h)
  data_back (fields fs) s h = rw (put_all_is fs s) (ap (option_map fields) (fields_back fs s h))

  list_back : (ds : DataList) → AreSortedData ds → AreHeld ds → list_from (list_json ds) ≡ Some ds
  list_back no_data s h = refl
  list_back (item d ds) s h = rw (data_back d s.0 h.0, list_back ds s.1 h.1)

  fields_back : (fs : DataFields) → AreSortedDataFields fs → AreHeldFields fs → fields_from (in_order fs) ≡ Some fs
  fields_back no_fields s h = refl
  fields_back (field k d fs) s h = rw (data_back d s.1 h.1, fields_back fs s.2 h.2)

extra_back : (n : List ℕ) (x : Option PlainData) → IsSortedExtra x → IsHeldExtra x → event_from (event_json (record { name = n; extra = x })) ≡ Some (record { name = n; extra = x })
extra_back n None s h = refl
extra_back n (Some d) s h = rw (data_back d s h)

-- ---- the text is UTF-8

ascii : (xs : List ℕ) → are_ascii xs ≡ true → IsUtf8 xs
ascii = IsUtf8-are_ascii

-- one ASCII byte before a text
after_byte : (x : ℕ) (xs : List ℕ) → are_ascii (x ∷ []) ≡ true → IsUtf8 xs → IsUtf8 (x ∷ xs)
after_byte x xs a h = IsUtf8-append (x ∷ []) xs (ascii (x ∷ []) a) h

utf8_quoted : (s : List ℕ) → is_utf8 s ≡ true → IsUtf8 (quoted_text s)
utf8_quoted s h = subst IsUtf8 (quoted_is s) (IsUtf8-quoted s (IsUtf8-from_is_utf8 s h))

utf8_whole : (z : ℤ) → IsWhole z → IsUtf8 (data_text (whole z))
utf8_whole (pos n) h = IsUtf8-from_ascii _ (IsAscii-signed (pos n) (let k = small n h in omega arith))
utf8_whole (negsuc n) h = IsUtf8-from_ascii _ (IsAscii-signed (negsuc n) (let k = small_negative n h in omega arith))

utf8_comma : (later : Bool) (t : List ℕ) → IsUtf8 t → IsUtf8 (comma later ++ t)
utf8_comma true t h = after_byte 44 t refl h
utf8_comma false t h = h

mutual
  utf8_data : (d : PlainData) → IsHeld d → IsUtf8 (data_text d)
  utf8_data null h = ascii _ refl
  utf8_data (truth true) h = ascii _ refl
  utf8_data (truth false) h = ascii _ refl
  utf8_data (whole z) h = utf8_whole z h
  utf8_data (text t) h = utf8_quoted t h
  utf8_data (list ds) h = after_byte 91 _ refl (utf8_list false ds h)
  utf8_data (fields fs) h = after_byte 123 _ refl (utf8_fields false fs h)

  utf8_list : (later : Bool) (ds : DataList) → AreHeld ds → IsUtf8 (data_list_text later ds)
  utf8_list later no_data h = ascii _ refl
  utf8_list later (item d ds) h = utf8_comma later _ (IsUtf8-append (data_text d) (data_list_text true ds) (utf8_data d h.0) (utf8_list true ds h.1))

  utf8_fields : (later : Bool) (fs : DataFields) → AreHeldFields fs → IsUtf8 (data_fields_text later fs)
  utf8_fields later no_fields h = ascii _ refl
  utf8_fields later (field k d fs) h =
      utf8_comma later _ (IsUtf8-append (quoted_text k) _ (utf8_quoted k h.0) (after_byte 58 _ refl (IsUtf8-append (data_text d) (data_fields_text true fs) (utf8_data d h.1) (utf8_fields true fs h.2))))

utf8_extra : (x : Option PlainData) → IsHeldExtra x → IsUtf8 (extra_text x)
utf8_extra None h = ascii _ refl
utf8_extra (Some d) h = after_byte 44 _ refl (IsUtf8-append (data_text d) _ (utf8_data d h) (ascii _ refl))

utf8_event : (e : PlainEvent) → IsEvent e → IsUtf8 (event_text e)
utf8_event e h = after_byte 91 _ refl (IsUtf8-append (quoted_text e.name) (extra_text e.extra) (utf8_quoted e.name h.utf8) (utf8_extra e.extra h.held))

-- the event of an event's text is that event
pub event_back : (e : PlainEvent) → IsEvent e → event_at (event_text e) ≡ Some e
event_back e h = accepted (event_text e) (event_json e) e (utf8_event e h) (event_read e h) (extra_back e.name e.extra h.sorted h.held) h
