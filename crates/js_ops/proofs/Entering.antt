-- A map of fields: what an insertion does, and the order of its keys.
use Rattle.std.proofs.Common.{◌≡◌, ◌∙◌, ℕ, List, [], ◌∷◌, Bor, Global, Ordering, Less, Equal, Greater, refl, sym, ap, subst}
use Rattle.std.specs.declared.sync.Arc.{Arc}
use Rattle.std.specs.Ordering.{nat_cmp, match_ordering}
use Rattle.std.specs.Cmp.Lexicographic.{slice_cmp}
use Rattle.std.specs.BTreeMap.{insert_entry}
use Rattle.std.specs.List.{AllByRecursion}
use Rattle.std.specs.List.Sorted.{IsStrictlySortedBy}
use Rattle.std.specs.Map.{keys_of}
use Rattle.std.proofs.lemmas.Map.Lookups.{exact_bytes}
use Rattle.js_value.specs.Value.{IsBefore, ValueFields, no_fields, field}
use Rattle.js_value.specs.Kept.{HaveSortedKeys}
use Rattle.js_value.specs.Views.{plain_value}
use Rattle.js_value.specs.declared.value.Value.{Value}
use Rattle.js_ops.specs.Making.{put}
use Rattle.js_ops.specs.inner.Entered.{Entry, entries_view, AreUnderTheirKeys}

abbrev Key : Type 0
Key = Bor (List ℕ)

abbrev Field : Type 0
Field = Arc (List ℕ) Global × Value

abbrev by_bytes : Key → Key → Ordering
by_bytes k l = slice_cmp nat_cmp k.now l.now

by_order : (o : Ordering) (a b c : List Entry) (d e f : ValueFields) → entries_view a ≡ d → (o ≡ Equal → entries_view b ≡ e) → entries_view c ≡ f → entries_view (match_ordering o a b c) ≡ match_ordering o d e f
by_order Less a b c d e f p q r = p
by_order Equal a b c d e f p q r = q refl
by_order Greater a b c d e f p q r = r

under_by_order : (o : Ordering) (a b c : List Entry) → AreUnderTheirKeys a → (o ≡ Equal → AreUnderTheirKeys b) → AreUnderTheirKeys c → AreUnderTheirKeys (match_ordering o a b c)
under_by_order Less a b c p q r = p
under_by_order Equal a b c p q r = q refl
under_by_order Greater a b c p q r = r

pub entries_view-insert_entry : (es : List Entry) (k : Key) (f : Field) → AreUnderTheirKeys es → f.0.value ≡ k.now → entries_view (insert_entry by_bytes es k f) ≡ put k.now (plain_value f.1) (entries_view es)
entries_view-insert_entry [] k f h is = ap (λ n. field n (plain_value f.1) no_fields) is
entries_view-insert_entry (e ∷ es) k f h is =
    let x = plain_value f.1 in
    let l = e.1.0.value in
    let old = entries_view (e ∷ es) in
    let rest = entries_view es in
    let later = field l (plain_value e.1.1) (put k.now x rest) in
    by_order (by_bytes k e.0) _ _ _ (field k.now x old) (field l x rest) later
    (ap (λ n. field n x old) is)
    (λ c. ap (λ n. field n x rest) (is ∙ exact_bytes k.now e.0.now c ∙ sym h.0))
    (ap (field l (plain_value e.1.1)) (entries_view-insert_entry es k f h.1 is))
    ∙ ap (λ n. match_ordering (slice_cmp nat_cmp k.now n) (field k.now x old) (field l x rest) later) (sym h.0)

pub under_keys-insert_entry : (es : List Entry) (k : Key) (f : Field) → AreUnderTheirKeys es → f.0.value ≡ k.now → AreUnderTheirKeys (insert_entry by_bytes es k f)
under_keys-insert_entry [] k f h is = (is, tt)
under_keys-insert_entry (e ∷ es) k f h is =
    under_by_order (by_bytes k e.0) ((k, f) ∷ e ∷ es) ((e.0, f) ∷ es) (e ∷ insert_entry by_bytes es k f) (is, h) (λ c. (is ∙ exact_bytes k.now e.0.now c, h.1)) (h.0, under_keys-insert_entry es k f h.1 is)

before_all : (k : Key) (es : List Entry) → AreUnderTheirKeys es → AllByRecursion (λ y. by_bytes k y ≡ Less) (keys_of es) → IsBefore k.now (entries_view es)
before_all k [] u h = tt
before_all k (e ∷ es) u h = (subst (λ n. slice_cmp nat_cmp k.now n ≡ Less) (sym u.0) h.0, before_all k es u.1 h.1)

pub sorted_entries : (es : List Entry) → AreUnderTheirKeys es → IsStrictlySortedBy by_bytes (keys_of es) → HaveSortedKeys (entries_view es)
unfolding IsStrictlySortedBy
sorted_entries [] u h = tt
sorted_entries (e ∷ es) u h = (subst (λ n. IsBefore n (entries_view es)) (sym u.0) (before_all e.0 es u.1 h.0), sorted_entries es u.1 h.1)
