-- The text of an event, and the event of a text.
use Rattle.std.proofs.Common.{◌≡◌, ℕ, suc, ◌≤◌, List, ◌∷◌, Bool, true, false, Option, Some, None, refl, ap, ◌∙◌, arith, ℤ, pos, negsuc}
use Rattle.std.proofs.lemmas.Cmp.{nat_list_cmp_total}
use Rattle.std.specs.Ordering.{nat_cmp, ordering_reverse}
use Rattle.std.specs.declared.cmp.Ordering.TheVariants.{Less, Greater}
use Rattle.std.specs.Cmp.Lexicographic.{slice_cmp}
use Rattle.serde_json.specs.Data as json
use Rattle.serde_json.specs.Data.{depth, items_depth, members_depth, put}
use Rattle.serde_json.specs.Find.{of_integer}
use Rattle.serde_json.specs.Written.{has_float, items_have_float, members_have_float, compact_text, items_text, members_text, number_text}
use Rattle.js_data.specs.Data.{PlainData, null, truth, whole, text, list, fields, DataList, no_data, item, DataFields, no_fields, field, data_nesting, data_list_nesting, data_fields_nesting, IsBefore, IsSortedData, AreSortedData, AreSortedDataFields}
use Rattle.js_data.specs.Event.{PlainEvent, IsEvent, IsSortedExtra, extra_nesting}
use Rattle.serde_json.specs.Read.{max_depth}
use Rattle.js_data.specs.JsonText.{data_text, data_list_text, data_fields_text, event_text}
use Rattle.js_json.specs.inner.Built.{data_json, list_json, put_all, event_json}
use Rattle.js_json.proofs.Escapes.{quoted_is, escape_is}

-- ---- the members of sorted fields stand in order

abbrev pub in_order : DataFields → json.Members
in_order no_fields = json.no_members
in_order (field k d fs) = json.member k (data_json d) (in_order fs)

abbrev followed : json.Members → json.Members → json.Members
followed json.no_members ns = ns
followed (json.member k d ms) ns = json.member k d (followed ms ns)

abbrev AreBelow : json.Members → List ℕ → Type 0
AreBelow json.no_members k = Unit {0}
AreBelow (json.member l d ms) k = (slice_cmp nat_cmp l k ≡ Less) × AreBelow ms k

abbrev AreBefore : json.Members → DataFields → Type 0
AreBefore json.no_members fs = Unit {0}
AreBefore (json.member l d ms) fs = IsBefore l fs × AreBefore ms fs

put_last : (ms : json.Members) (k : List ℕ) (d : json.Data) → AreBelow ms k → put k d ms ≡ followed ms (json.member k d json.no_members)
put_last json.no_members k d h = refl
put_last (json.member l e ms) k d h =
    let above : slice_cmp nat_cmp k l ≡ Greater = nat_list_cmp_total.antisymm k l ∙ ap ordering_reverse h.0 in
    rw above (ap (json.member l e) (put_last ms k d h.1))

below_first : (ms : json.Members) (k : List ℕ) (d : PlainData) (fs : DataFields) → AreBefore ms (field k d fs) → AreBelow ms k
below_first json.no_members k d fs h = tt
below_first (json.member l e ms) k d fs h = (h.0.0, below_first ms k d fs h.1)

before_more : (ms : json.Members) (k : List ℕ) (d : PlainData) (e : json.Data) (fs : DataFields) → AreBefore ms (field k d fs) → IsBefore k fs → AreBefore (followed ms (json.member k e json.no_members)) fs
before_more json.no_members k d e fs h b = (b, tt)
before_more (json.member l x ms) k d e fs h b = (h.0.1, before_more ms k d e fs h.1 b)

followed_one : (ms ns : json.Members) (k : List ℕ) (d : json.Data) → followed (followed ms (json.member k d json.no_members)) ns ≡ followed ms (json.member k d ns)
followed_one json.no_members ns k d = refl
followed_one (json.member l e ms) ns k d = ap (json.member l e) (followed_one ms ns k d)

put_all_after : (fs : DataFields) (ms : json.Members) → AreSortedDataFields fs → AreBefore ms fs → put_all fs ms ≡ followed ms (in_order fs)
put_all_after no_fields json.no_members s b = refl
put_all_after no_fields (json.member l e ms) s b = ap (json.member l e) (put_all_after no_fields ms tt b.1)
put_all_after (field k d fs) ms s b =
    rw (put_last ms k (data_json d) (below_first ms k d fs b))
    (put_all_after fs _ s.2 (before_more ms k d (data_json d) fs b s.0) ∙ followed_one ms (in_order fs) k (data_json d))

pub put_all_is : (fs : DataFields) → AreSortedDataFields fs → put_all fs json.no_members ≡ in_order fs
put_all_is fs s = put_all_after fs json.no_members s tt

-- ---- the text

number_is : (n : ℤ) → number_text (of_integer n) ≡ data_text (whole n)
number_is (pos n) = refl
number_is (negsuc n) = refl

mutual
  pub text_is : (d : PlainData) → IsSortedData d → compact_text (data_json d) ≡ data_text d
  text_is null s = refl
  text_is (truth true) s = refl
  text_is (truth false) s = refl
  text_is (whole n) s = number_is n
  text_is (text t) s = quoted_is t
  text_is (list ds) s = ap (λ t. 91 ∷ t) (list_text_is false ds s)
  text_is (fields fs) s = rw (put_all_is fs s) (ap (λ t. 123 ∷ t) (fields_text_is false fs s))

  list_text_is : (later : Bool) (ds : DataList) → AreSortedData ds → items_text later (list_json ds) ≡ data_list_text later ds
  list_text_is later no_data s = refl
  list_text_is later (item d ds) s = rw (text_is d s.0, list_text_is true ds s.1)

  fields_text_is : (later : Bool) (fs : DataFields) → AreSortedDataFields fs → members_text later (in_order fs) ≡ data_fields_text later fs
  fields_text_is later no_fields s = refl
  fields_text_is later (field k d fs) s = rw (escape_is k, text_is d s.1, fields_text_is true fs s.2)

mutual
  pub no_float : (d : PlainData) → IsSortedData d → has_float (data_json d) ≡ false
  no_float null s = refl
  no_float (truth b) s = refl
  no_float (whole (pos n)) s = refl
  no_float (whole (negsuc n)) s = refl
  no_float (text t) s = refl
  no_float (list ds) s = list_no_float ds s
  no_float (fields fs) s = rw (put_all_is fs s) (fields_no_float fs s)

  list_no_float : (ds : DataList) → AreSortedData ds → items_have_float (list_json ds) ≡ false
  list_no_float no_data s = refl
  list_no_float (item d ds) s = rw (no_float d s.0, list_no_float ds s.1)

  fields_no_float : (fs : DataFields) → AreSortedDataFields fs → members_have_float (in_order fs) ≡ false
  fields_no_float no_fields s = refl
  fields_no_float (field k d fs) s = rw (no_float d s.1, fields_no_float fs s.2)

mutual
  pub depth_is : (d : PlainData) → IsSortedData d → depth (data_json d) ≤ data_nesting d
  depth_is null s = omega arith
  depth_is (truth b) s = omega arith
  depth_is (whole n) s = omega arith
  depth_is (text t) s = omega arith
  depth_is (list ds) s = omega (arith, list_depth_is ds s)
  depth_is (fields fs) s = rw (put_all_is fs s) (omega (arith, fields_depth_is fs s))

  list_depth_is : (ds : DataList) → AreSortedData ds → items_depth (list_json ds) ≤ data_list_nesting ds
  list_depth_is no_data s = omega arith
  list_depth_is (item d ds) s = omega (arith, depth_is d s.0, list_depth_is ds s.1)

  fields_depth_is : (fs : DataFields) → AreSortedDataFields fs → members_depth (in_order fs) ≤ data_fields_nesting fs
  fields_depth_is no_fields s = omega arith
  fields_depth_is (field k d fs) s = omega (arith, depth_is d s.1, fields_depth_is fs s.2)

-- ---- events

extra_text_is : (n : List ℕ) (x : Option PlainData) → IsSortedExtra x → compact_text (event_json (record { name = n; extra = x })) ≡ event_text (record { name = n; extra = x })
extra_text_is n None s = rw (escape_is n)
extra_text_is n (Some d) s = rw (escape_is n, text_is d s)

pub event_text_is : (e : PlainEvent) → IsEvent e → compact_text (event_json e) ≡ event_text e
event_text_is e h = extra_text_is e.name e.extra h.sorted

extra_no_float : (n : List ℕ) (x : Option PlainData) → IsSortedExtra x → has_float (event_json (record { name = n; extra = x })) ≡ false
extra_no_float n None s = refl
extra_no_float n (Some d) s = rw (no_float d s)

pub event_no_float : (e : PlainEvent) → IsEvent e → has_float (event_json e) ≡ false
event_no_float e h = extra_no_float e.name e.extra h.sorted

extra_depth_is : (n : List ℕ) (x : Option PlainData) → IsSortedExtra x → depth (event_json (record { name = n; extra = x })) ≤ suc (extra_nesting x)
extra_depth_is n None s = omega arith
extra_depth_is n (Some d) s = omega (arith, depth_is d s)

pub event_depth_is : (e : PlainEvent) → IsEvent e → depth (event_json e) ≤ max_depth
event_depth_is e h = omega (arith, extra_depth_is e.name e.extra h.sorted, h.nesting)
