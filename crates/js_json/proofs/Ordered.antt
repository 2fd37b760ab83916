-- What is read has its keys in order at every level.
use Rattle.std.proofs.Common.{◌≡◌, ℕ, List, [], ◌∷◌, Option, Some, None, option_map, option_and_then, Bool, true, false, refl, ap, subst, ◌∙◌, ℤ}
use Rattle.std.specs.Prelude.{if◌then◌else◌}
use Rattle.json.specs.Token.{Token}
use Rattle.std.proofs.lemmas.Cmp.{nat_list_cmp_total}
use Rattle.std.specs.Ordering.{nat_cmp, ordering_reverse, match_ordering}
use Rattle.std.specs.declared.cmp.Ordering.TheVariants.{the_data as Ordering, Less, Greater, Equal}
use Rattle.std.specs.Cmp.Lexicographic.{slice_cmp}
use Rattle.json.specs.Json as source
use Rattle.json.specs.Json.{if_last}
use Rattle.json.specs.Lex.{tokens}
use Rattle.serde_json.specs.Data as json
use Rattle.serde_json.specs.Data.{put}
use Rattle.serde_json.specs.Find.{as_i64, as_str}
use Rattle.serde_json.specs.Read.{of_json, of_items, of_members, number_of, read, max_depth}
use Rattle.js_data.specs.Whole.{is_whole}
use Rattle.js_data.specs.Data.{whole, list, fields, item, field, IsBefore, IsSortedData, AreSortedData, AreSortedDataFields}
use Rattle.js_data.specs.Event.{PlainEvent, IsSortedExtra}
use Rattle.js_data.proofs.Shared.{OfSome}
use Rattle.js_json.specs.Json.{data_from, list_from, fields_from, if_whole, event_of_parts, event_of_items, event_from}

abbrev IsKeyBefore : List ℕ → json.Members → Type 0
IsKeyBefore k json.no_members = Unit {0}
IsKeyBefore k (json.member l d ms) = (slice_cmp nat_cmp k l ≡ Less) × IsKeyBefore k ms

abbrev mutual
  IsOrdered : json.Data → Type 0
  IsOrdered json.null = Unit {0}
  IsOrdered (json.boolean b) = Unit {0}
  IsOrdered (json.number n) = Unit {0}
  IsOrdered (json.string s) = Unit {0}
  IsOrdered (json.array ds) = AreOrdered ds
  IsOrdered (json.object ms) = AreOrderedMembers ms

  AreOrdered : json.Items → Type 0
  AreOrdered json.no_items = Unit {0}
  AreOrdered (json.item d ds) = IsOrdered d × AreOrdered ds

  AreOrderedMembers : json.Members → Type 0
  AreOrderedMembers json.no_members = Unit {0}
  AreOrderedMembers (json.member k d ms) = IsKeyBefore k ms × IsOrdered d × AreOrderedMembers ms

if_map : {A B : Type 0} (P : A → Type 0) (Q : B → Type 0) (f : A → B) (o : Option A) → OfSome P o → ((x : A) → P x → Q (f x)) → OfSome Q (option_map f o)
if_map P Q f None h k = tt
if_map P Q f (Some x) h k = k x h

if_then : {A B : Type 0} (P : A → Type 0) (Q : B → Type 0) (f : A → Option B) (o : Option A) → OfSome P o → ((x : A) → P x → OfSome Q (f x)) → OfSome Q (option_and_then f o)
if_then P Q f None h k = tt
if_then P Q f (Some x) h k = k x h

abbrev IsAny : {A : Type 0} → A → Type 0
IsAny x = Unit {0}

always : {A : Type 0} (o : Option A) → OfSome IsAny o
always None = tt
always (Some x) = tt

-- ---- an object keeps its order

later_keys : (k l : List ℕ) (ms : json.Members) → slice_cmp nat_cmp k l ≡ Less → IsKeyBefore l ms → IsKeyBefore k ms
later_keys k l json.no_members h b = tt
later_keys k l (json.member m d ms) h b = (nat_list_cmp_total.trans k l m h b.0, later_keys k l ms h b.1)

before_put_at : (o : Ordering) (l k m : List ℕ) (d e : json.Data) (ms rest : json.Members) → slice_cmp nat_cmp l k ≡ Less → IsKeyBefore l (json.member m e ms) → IsKeyBefore l rest
    → IsKeyBefore l (match_ordering o (json.member k d (json.member m e ms)) (json.member m d ms) (json.member m e rest))
before_put_at Less l k m d e ms rest h b r = (h, b)
before_put_at Equal l k m d e ms rest h b r = b
before_put_at Greater l k m d e ms rest h b r = (b.0, r)

before_put : (l k : List ℕ) (d : json.Data) (ms : json.Members) → slice_cmp nat_cmp l k ≡ Less → IsKeyBefore l ms → IsKeyBefore l (put k d ms)
before_put l k d json.no_members h b = (h, tt)
before_put l k d (json.member m e ms) h b = before_put_at (slice_cmp nat_cmp k m) l k m d e ms (put k d ms) h b (before_put l k d ms h b.1)

put_ordered_at : (o : Ordering) (k m : List ℕ) (d e : json.Data) (ms : json.Members) → slice_cmp nat_cmp k m ≡ o → IsOrdered d → AreOrderedMembers (json.member m e ms) → AreOrderedMembers (put k d ms)
    → AreOrderedMembers (match_ordering o (json.member k d (json.member m e ms)) (json.member m d ms) (json.member m e (put k d ms)))
put_ordered_at Less k m d e ms is x h r = ((is, later_keys k m ms is h.0), x, h)
put_ordered_at Equal k m d e ms is x h r = (h.0, x, h.2)
put_ordered_at Greater k m d e ms is x h r =
    (before_put m k d ms (nat_list_cmp_total.antisymm m k ∙ ap ordering_reverse is) h.0, h.1, r)

put_ordered : (k : List ℕ) (d : json.Data) (ms : json.Members) → IsOrdered d → AreOrderedMembers ms → AreOrderedMembers (put k d ms)
put_ordered k d json.no_members x h = (tt, x, tt)
put_ordered k d (json.member m e ms) x h = put_ordered_at (slice_cmp nat_cmp k m) k m d e ms refl x h (put_ordered k d ms x h.2)

numbers_ordered : (o : Option json.Num) → OfSome IsOrdered (option_map json.number o)
numbers_ordered None = tt
numbers_ordered (Some n) = tt

mutual
  json_ordered : (j : source.Json) → OfSome IsOrdered (of_json j)
  json_ordered source.null = tt
  json_ordered (source.boolean b) = tt
  json_ordered (source.number s) = numbers_ordered (number_of s)
  json_ordered (source.string s) = tt
  json_ordered (source.array js) = if_map AreOrdered IsOrdered json.array (of_items js) (items_ordered js) (λ x h. h)
  json_ordered (source.object ms) = if_map AreOrderedMembers IsOrdered json.object (of_members ms json.no_members) (members_ordered ms json.no_members tt) (λ x h. h)

  items_ordered : (js : source.Items) → OfSome AreOrdered (of_items js)
  items_ordered source.no_items = tt
  items_ordered (source.item j js) =
      if_then IsOrdered AreOrdered (λ d. option_map (json.item d) (of_items js)) (of_json j) (json_ordered j)
      (λ d h. if_map AreOrdered AreOrdered (json.item d) (of_items js) (items_ordered js) (λ ds g. (h, g)))

  members_ordered : (ms : source.Members) (found : json.Members) → AreOrderedMembers found → OfSome AreOrderedMembers (of_members ms found)
  members_ordered source.no_members found h = h
  members_ordered (source.member k j ms) found h =
      if_then IsOrdered AreOrderedMembers (λ d. of_members ms (put k d found)) (of_json j) (json_ordered j)
      (λ d x. members_ordered ms (put k d found) (put_ordered k d found x h))

-- ---- from there to the data

both_if : {A : Type 0} (P Q : A → Type 0) (o : Option A) → OfSome P o → OfSome Q o → OfSome (λ x. P x × Q x) o
both_if P Q None p q = tt
both_if P Q (Some x) p q = (p, q)

wholes_sorted : (b : Bool) (z : ℤ) → OfSome IsSortedData (if b then Some (whole z) else None)
wholes_sorted true z = tt
wholes_sorted false z = tt

numbers_sorted : (o : Option ℤ) → OfSome IsSortedData (option_and_then if_whole o)
numbers_sorted None = tt
numbers_sorted (Some z) = wholes_sorted (is_whole z) z

fields_before : (k : List ℕ) (ms : json.Members) → IsKeyBefore k ms → OfSome (IsBefore k) (fields_from ms)
fields_before k json.no_members h = tt
fields_before k (json.member l d ms) h =
    if_then IsAny (IsBefore k) (λ x. option_map (field l x) (fields_from ms)) (data_from d) (always (data_from d))
    (λ x _. if_map (IsBefore k) (IsBefore k) (field l x) (fields_from ms) (fields_before k ms h.1) (λ fs b. (h.0, b)))

mutual
  data_sorted : (d : json.Data) → IsOrdered d → OfSome IsSortedData (data_from d)
  data_sorted json.null h = tt
  data_sorted (json.boolean b) h = tt
  data_sorted (json.number n) h = numbers_sorted (as_i64 n)
  data_sorted (json.string s) h = tt
  data_sorted (json.array ds) h = if_map AreSortedData IsSortedData list (list_from ds) (list_sorted ds h) (λ x g. g)
  data_sorted (json.object ms) h = if_map AreSortedDataFields IsSortedData fields (fields_from ms) (fields_sorted ms h) (λ x g. g)

  list_sorted : (ds : json.Items) → AreOrdered ds → OfSome AreSortedData (list_from ds)
  list_sorted json.no_items h = tt
  list_sorted (json.item d ds) h =
      if_then IsSortedData AreSortedData (λ x. option_map (item x) (list_from ds)) (data_from d) (data_sorted d h.0)
      (λ x g. if_map AreSortedData AreSortedData (item x) (list_from ds) (list_sorted ds h.1) (λ xs gs. (g, gs)))

  fields_sorted : (ms : json.Members) → AreOrderedMembers ms → OfSome AreSortedDataFields (fields_from ms)
  fields_sorted json.no_members h = tt
  fields_sorted (json.member k d ms) h =
      if_then IsSortedData AreSortedDataFields (λ x. option_map (field k x) (fields_from ms)) (data_from d) (data_sorted d h.1)
      (λ x g. if_map (λ fs. IsBefore k fs × AreSortedDataFields fs) AreSortedDataFields (field k x) (fields_from ms)
      (both_if (IsBefore k) AreSortedDataFields (fields_from ms) (fields_before k ms h.0) (fields_sorted ms h.2)) (λ fs b. (b.0, g, b.1)))

-- ---- events

abbrev HasSorted : PlainEvent → Type 0
HasSorted e = IsSortedExtra e.extra

parts_sorted : (name : List ℕ) (ds : json.Items) → AreOrdered ds → OfSome HasSorted (event_of_parts name ds)
parts_sorted name json.no_items h = tt
parts_sorted name (json.item d json.no_items) h = if_map IsSortedData HasSorted (λ x. record { name = name; extra = Some x }) (data_from d) (data_sorted d h.0) (λ x g. g)
parts_sorted name (json.item d (json.item e ds)) h = tt

items_event_sorted : (ds : json.Items) → AreOrdered ds → OfSome HasSorted (event_of_items ds)
items_event_sorted json.no_items h = tt
items_event_sorted (json.item d ds) h = if_then IsAny HasSorted (λ s. event_of_parts s ds) (as_str d) (always (as_str d)) (λ s _. parts_sorted s ds h.1)

event_sorted : (d : json.Data) → IsOrdered d → OfSome HasSorted (event_from d)
event_sorted json.null h = tt
event_sorted (json.boolean b) h = tt
event_sorted (json.number n) h = tt
event_sorted (json.string s) h = tt
event_sorted (json.array ds) h = items_event_sorted ds h
event_sorted (json.object ms) h = tt

last_ordered : (j : source.Json) (ts : List Token) → OfSome IsOrdered (option_and_then of_json (if_last j ts))
last_ordered j [] = json_ordered j
last_ordered j (t ∷ ts) = tt

whole_ordered : (o : Option (source.Json × List Token)) → OfSome IsOrdered (option_and_then of_json (option_and_then (λ p. if_last p.0 p.1) o))
whole_ordered None = tt
whole_ordered (Some p) = last_ordered p.0 p.1

read_ordered : (text : List ℕ) → OfSome IsOrdered (read text)
read_ordered text = whole_ordered (source.value max_depth (tokens text))

pub sorted_read : (text : List ℕ) (d : json.Data) (e : PlainEvent) → read text ≡ Some d → event_from d ≡ Some e → IsSortedExtra e.extra
sorted_read text d e r f =
    let ordered : IsOrdered d = subst (OfSome IsOrdered) r (read_ordered text) in
    subst (OfSome HasSorted) f (event_sorted d ordered)
