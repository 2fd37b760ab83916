-- Fields that are put into a list, where a binary search says, and the order of their keys.
use Rattle.std.proofs.Common.{◌≡◌, ◌∙◌, ℕ, zero, suc, ◌<◌, ◌≤◌, ◌+◌, List, [], ◌∷◌, length, get_or, set, false, Ok, Err, Ordering, Less, Equal, Greater, refl, sym, ap, subst, arith, Global}
use Rattle.std.proofs.Math.Nat.{suc-add}
use Rattle.std.specs.declared.sync.Arc.{Arc}
use Rattle.std.specs.List.{insert}
use Rattle.std.specs.List.Sorted.{IsBinarySearchResult}
use Rattle.std.specs.Ordering.{nat_cmp, match_ordering, ordering_reverse, is_lt}
use Rattle.std.specs.Cmp.Lexicographic.{slice_cmp}
use Rattle.std.proofs.lemmas.Cmp.{nat_list_cmp_total}
use Rattle.std.proofs.lemmas.List.Sorted.{searchable_from_sorted}
use Rattle.std.proofs.lemmas.Map.Lookups.{exact_bytes}
use Rattle.js_value.specs.Value.{PlainValue, IsBefore, ValueFields, no_fields, field}
use Rattle.js_value.specs.Kept.{HaveSortedKeys}
use Rattle.js_value.specs.Views.{plain_value, value_fields_view}
use Rattle.js_value.specs.declared.value.Value.{Value}
use Rattle.js_ops.specs.Making.{put}

abbrev Field : Type 0
Field = Arc (List ℕ) Global × Value

abbrev pub against : List ℕ → Field → Ordering
against key f = slice_cmp nat_cmp f.0.value key

turned : (k l : List ℕ) (o : Ordering) → slice_cmp nat_cmp k l ≡ o → slice_cmp nat_cmp l k ≡ ordering_reverse o
turned k l o e = nat_list_cmp_total.antisymm l k ∙ ap ordering_reverse e

-- ---- the order of the keys

by_case : (P : ValueFields → Type 0) (o : Ordering) (a b c : ValueFields) → (o ≡ Less → P a) → (o ≡ Equal → P b) → (o ≡ Greater → P c) → P (match_ordering o a b c)
by_case P Less a b c p q r = p refl
by_case P Equal a b c p q r = q refl
by_case P Greater a b c p q r = r refl

before_later : (k l : List ℕ) (fs : ValueFields) → slice_cmp nat_cmp k l ≡ Less → IsBefore l fs → IsBefore k fs
before_later k l no_fields e h = tt
before_later k l (field m y fs) e h = (nat_list_cmp_total.trans k l m e h.0, before_later k l fs e h.1)

before_put : (l k : List ℕ) (x : PlainValue) (fs : ValueFields) → slice_cmp nat_cmp l k ≡ Less → IsBefore l fs → IsBefore l (put k x fs)
before_put l k x no_fields e h = (e, tt)
before_put l k x (field m y fs) e h =
    by_case (IsBefore l) (slice_cmp nat_cmp k m) _ _ _ (λ o. (e, h)) (λ o. h) (λ o. (h.0, before_put l k x fs e h.1))

sorted_put : (k : List ℕ) (x : PlainValue) (fs : ValueFields) → HaveSortedKeys fs → HaveSortedKeys (put k x fs)
sorted_put k x no_fields h = (tt, tt)
sorted_put k x (field m y fs) h =
    by_case HaveSortedKeys (slice_cmp nat_cmp k m) _ _ _
    (λ o. ((o, before_later k m fs o h.0), h))
    (λ o. h)
    (λ o. (before_put m k x fs (turned k m Greater o) h.0, sorted_put k x fs h.1))

-- ---- the list

-- the first key is before the key at each place after it
before_at : (k : List ℕ) (fs : List Field) (i : ℕ) (d : Field) → IsBefore k (value_fields_view fs) → i < length fs → slice_cmp nat_cmp k (get_or fs i d).0.value ≡ Less
before_at k [] i d h lt = absurd (omega arith)
before_at k (f ∷ fs) zero d h lt = h.0
before_at k (f ∷ fs) (suc i) d h lt = before_at k fs i d h.1 (omega arith)

-- no key is less than the one before it
rising : (fs : List Field) → HaveSortedKeys (value_fields_view fs) → (i : ℕ) (d : Field) → i + 1 < length fs → is_lt (slice_cmp nat_cmp (get_or fs (i + 1) d).0.value (get_or fs i d).0.value) ≡ false
rising [] h i d lt = absurd (omega arith)
rising (f ∷ fs) h zero d lt = ap is_lt (turned f.0.value (get_or fs 0 d).0.value Less (before_at f.0.value fs 0 d h.0 (omega arith)))
rising (f ∷ fs) h (suc i) d lt = rw (suc-add i 1) (rising fs h.1 i d (omega arith))

-- at the place of the key the value is put in place of the earlier one
over : (fs : List Field) (k : List ℕ) (x : Value) (i : ℕ) (d : Field) → HaveSortedKeys (value_fields_view fs) → i < length fs → against k (get_or fs i d) ≡ Equal → d ≡ get_or fs i d
    → value_fields_view (set fs i (d.0, x)) ≡ put k (plain_value x) (value_fields_view fs)
over [] k x i d h lt e is = absurd (omega arith)
over (f ∷ fs) k x zero d h lt e is =
    rw (turned f.0.value k Equal e) (ap (λ (g : Field). field g.0.value (plain_value x) (value_fields_view fs)) is)
over (f ∷ fs) k x (suc i) d h lt e is =
    let here = exact_bytes (get_or fs i d).0.value k e in
    let before : slice_cmp nat_cmp f.0.value k ≡ Less = subst (λ (l : List ℕ). slice_cmp nat_cmp f.0.value l ≡ Less) here (before_at f.0.value fs i d h.0 (omega arith)) in
    rw (turned f.0.value k Less before) (ap (field f.0.value (plain_value f.1)) (over fs k x i d h.1 (omega arith) e is))

-- between the lesser keys and the greater ones it is put in
between : (fs : List Field) (k : List ℕ) (n : Field) (i : ℕ) → n.0.value ≡ k → i ≤ length fs
    → ((j : ℕ) (d : Field) → j < i → against k (get_or fs j d) ≡ Less) → ((j : ℕ) (d : Field) → i ≤ j → j < length fs → against k (get_or fs j d) ≡ Greater)
    → value_fields_view (insert fs i n) ≡ put k (plain_value n.1) (value_fields_view fs)
between [] k n zero is le low high = ap (λ l. field l (plain_value n.1) no_fields) is
between [] k n (suc i) is le low high = absurd (omega arith)
between (f ∷ fs) k n zero is le low high =
    rw (turned f.0.value k Greater (high 0 f (omega arith) (omega arith))) (ap (λ l. field l (plain_value n.1) (value_fields_view (f ∷ fs))) is)
between (f ∷ fs) k n (suc i) is le low high =
    rw (turned f.0.value k Less (low 0 f (omega arith)))
    (ap (field f.0.value (plain_value f.1)) (between fs k n i is (omega arith) (λ j d b. low (suc j) d (omega arith)) (λ j d b lt. high (suc j) d (omega arith) (omega arith))))

-- ---- what the search says

-- the second list is the first with the value put under the key, and its keys are sorted
abbrev pub IsPut : List ℕ → Value → List Field → List Field → Type 0
IsPut k x fs gs = (value_fields_view gs ≡ put k (plain_value x) (value_fields_view fs)) × HaveSortedKeys (value_fields_view gs)

is_put : (fs gs : List Field) (k : List ℕ) (x : Value) → HaveSortedKeys (value_fields_view fs) → value_fields_view gs ≡ put k (plain_value x) (value_fields_view fs) → IsPut k x fs gs
is_put fs gs k x h e = (e, subst HaveSortedKeys (sym e) (sorted_put k (plain_value x) (value_fields_view fs) h))

pub put_over : (fs seen : List Field) (k : List ℕ) (x : Value) (i : ℕ) (d : Field) → HaveSortedKeys (value_fields_view fs) → seen ≡ fs → i < length seen → IsBinarySearchResult (against k) seen (Ok i) → d ≡ get_or fs i d → IsPut k x fs (set fs i (d.0, x))
put_over fs seen k x i d h same lt at is =
    let within : i < length fs = subst (λ (gs : List Field). i < length gs) same lt in
    let found : IsBinarySearchResult (against k) fs (Ok i) = subst (λ (gs : List Field). IsBinarySearchResult (against k) gs (Ok i)) same at in
    is_put fs (set fs i (d.0, x)) k x h (over fs k x i d h within (found d) is)

pub put_between : (fs seen gs : List Field) (k : List ℕ) (n : Field) (i : ℕ) → HaveSortedKeys (value_fields_view fs) → seen ≡ fs → i ≤ length seen → IsBinarySearchResult (against k) seen (Err i) → n.0.value ≡ k → gs ≡ insert fs i n → IsPut k n.1 fs gs
put_between fs seen gs k n i h same le parted is e =
    let within : i ≤ length fs = subst (λ (hs : List Field). i ≤ length hs) same le in
    let found : IsBinarySearchResult (against k) fs (Err i) = subst (λ (hs : List Field). IsBinarySearchResult (against k) hs (Err i)) same parted in
    let (front, back) = found (searchable_from_sorted nat_list_cmp_total (λ (f : Field). f.0.value) fs k (λ j d low lt. rising fs h j d lt)) in
    is_put fs gs k n.1 h (ap value_fields_view e ∙ between fs k n i is within (λ j d b. front j d (omega arith) b) (λ j d b lt. back j d b lt))
