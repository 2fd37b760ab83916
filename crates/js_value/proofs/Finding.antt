-- What a binary search in fields with sorted keys finds is the value under the key.
use Rattle.std.proofs.Common.{◌≡◌, ℕ, zero, suc, ◌<◌, ◌+◌, List, [], ◌∷◌, length, get_or, true, false, Some, None, Ok, Err, refl, sym, ap, subst, ◌∙◌, inl, inr, arith, Global}
use Rattle.std.specs.declared.sync.Arc.{Arc}
use Rattle.std.proofs.lemmas.Bool.{cases_lt}
use Rattle.std.proofs.Math.Nat.{suc-add}
use Rattle.std.specs.Ordering.{nat_cmp, is_lt, is_eq, ordering_index, ordering_reverse}
use Rattle.std.specs.declared.cmp.Ordering.{Ordering}
use Rattle.std.specs.declared.cmp.Ordering.TheVariants.{Less, Equal}
use Rattle.std.specs.Cmp.Lexicographic.{slice_cmp}
use Rattle.std.specs.Str.{bytes_eq}
use Rattle.std.specs.List.Sorted.{IsBinarySearchResult, IsNonDecreasingBy}
use Rattle.std.proofs.lemmas.Cmp.{nat_list_cmp_total}
use Rattle.std.proofs.lemmas.List.Sorted.{searchable_from_sorted}
use Rattle.std.proofs.lemmas.Map.Text.{is_eq-slice_cmp}
use Rattle.std.proofs.lemmas.Map.Lookups.{exact_bytes}
use Rattle.js_value.specs.Value.{IsBefore, AreSortedFields}
use Rattle.js_value.specs.Parts.{field_at}
use Rattle.js_value.specs.Views.{plain_value, value_fields_view}
use Rattle.js_value.specs.declared.value.Value.{Value}

abbrev Fields : Type 0
Fields = List (Arc (List ℕ) Global × Value)

abbrev against : List ℕ → Arc (List ℕ) Global × Value → Ordering
against key f = slice_cmp nat_cmp f.0.value key

-- a key that is before or after is another key
other_key : (k key : List ℕ) (o : Ordering) → slice_cmp nat_cmp k key ≡ o → is_eq o ≡ false → bytes_eq k key ≡ false
other_key k key o e h = sym (is_eq-slice_cmp k key) ∙ ap is_eq e ∙ h

same_key : (k key : List ℕ) → slice_cmp nat_cmp k key ≡ Equal → bytes_eq k key ≡ true
same_key k key e = sym (is_eq-slice_cmp k key) ∙ ap is_eq e

-- the first key is before the key at each place after it
before_at : (k : List ℕ) (fs : Fields) (i : ℕ) (d : Arc (List ℕ) Global × Value) → IsBefore k (value_fields_view fs) → i < length fs → slice_cmp nat_cmp k (get_or fs i d).0.value ≡ Less
before_at k [] i d h lt = absurd (omega arith)
before_at k (f ∷ fs) zero d h lt = h.0
before_at k (f ∷ fs) (suc i) d h lt = before_at k fs i d h.1 (omega arith)

found : (fs : Fields) (key : List ℕ) (i : ℕ) (d : Arc (List ℕ) Global × Value) → AreSortedFields (value_fields_view fs) → i < length fs → against key (get_or fs i d) ≡ Equal → Some (plain_value (get_or fs i d).1) ≡ field_at (value_fields_view fs) key
found [] key i d h lt e = absurd (omega arith)
found (f ∷ fs) key zero d h lt e = rw (same_key f.0.value key e) refl
found (f ∷ fs) key (suc i) d h lt e =
    let here = exact_bytes (get_or fs i d).0.value key e in
    let before : slice_cmp nat_cmp f.0.value key ≡ Less = subst (λ (k : List ℕ). slice_cmp nat_cmp f.0.value k ≡ Less) here (before_at f.0.value fs i d h.0 (omega arith)) in
    rw (other_key f.0.value key Less before refl) (found fs key i d h.2 (omega arith) e)

absent : (fs : Fields) (key : List ℕ) → ((i : ℕ) (d : Arc (List ℕ) Global × Value) → i < length fs → is_eq (against key (get_or fs i d)) ≡ false) → None ≡ field_at (value_fields_view fs) key
absent [] key h = refl
absent (f ∷ fs) key h = rw (other_key f.0.value key (against key f) refl (h 0 f (omega arith))) (absent fs key (λ i d lt. h (suc i) d (omega arith)))

before_is_not_behind : (k l : List ℕ) → slice_cmp nat_cmp k l ≡ Less → is_lt (slice_cmp nat_cmp l k) ≡ false
before_is_not_behind k l e = ap is_lt (nat_list_cmp_total.antisymm l k ∙ ap ordering_reverse e)

-- no key is less than the one before it
rising : (fs : Fields) → AreSortedFields (value_fields_view fs) → (i : ℕ) (d : Arc (List ℕ) Global × Value) → i + 1 < length fs → is_lt (slice_cmp nat_cmp (get_or fs (i + 1) d).0.value (get_or fs i d).0.value) ≡ false
rising [] h i d lt = absurd (omega arith)
rising (f ∷ fs) h zero d lt = before_is_not_behind f.0.value (get_or fs 0 d).0.value (before_at f.0.value fs 0 d h.0 (omega arith))
rising (f ∷ fs) h (suc i) d lt = rw (suc-add i 1) (rising fs h.2 i d (omega arith))

searchable : (fs : Fields) (key : List ℕ) → AreSortedFields (value_fields_view fs) → IsNonDecreasingBy (λ f. ordering_index (against key f)) fs
searchable fs key h = searchable_from_sorted nat_list_cmp_total (λ f. f.0.value) fs key (λ i d low lt. rising fs h i d lt)

pub found_at : (fs : Fields) (key : List ℕ) (i : ℕ) (d : Arc (List ℕ) Global × Value) → AreSortedFields (value_fields_view fs) → i < length fs → IsBinarySearchResult (against key) fs (Ok i) → Some (plain_value (get_or fs i d).1) ≡ field_at (value_fields_view fs) key
found_at fs key i d h lt at = found fs key i d h lt (at d)

pub not_found : (fs : Fields) (key : List ℕ) (i : ℕ) → AreSortedFields (value_fields_view fs) → IsBinarySearchResult (against key) fs (Err i) → None ≡ field_at (value_fields_view fs) key
not_found fs key i h parted =
    let (front, back) = parted (searchable fs key h) in
    absent fs key (λ j d lt. elim (cases_lt j i) [
      | inl below ↦ ap is_eq (front j d (omega arith) below)
      | inr behind ↦ ap is_eq (back j d behind lt)
    ])
