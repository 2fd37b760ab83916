-- Sets that are made alike are equal.
use Rattle.std.proofs.Common.{◌≡◌, ◌≢◌, suc, List, [], ◌∷◌, length, true, false, refl, sym, ap, true≢false}
use Rattle.std.specs.Cmp.{booleans_Decides, signed_Decides, unsigned_Decides}
use Rattle.std.proofs.lemmas.Bool.{and_parts}
use Rattle.std.proofs.Math.Bool.{and-false}
use Rattle.std.proofs.lemmas.Slice.Eq.{bytes_eq-Decides}
use Rattle.js_data.proofs.SameEvent.{same_event-sound}
use Rattle.js_value.specs.Value.{PlainValue, undefined, null, truth, whole, text, event, ValueList, no_values, value, PlainSet, only, any, all, nothing, or, and, xor, negate, predicate, SetList, no_sets, set_in}
use Rattle.js_value.specs.Views.{value_list_view, set_list_of}
use Rattle.js_value.specs.declared.value.Value.{Value}
use Rattle.bp_known.specs.Same.{same_leaf, same_leaves, same_set, same_sets}

pub leaves_differ : (xs ys : List Value) → length xs ≢ length ys → same_leaves (value_list_view xs) (value_list_view ys) ≡ false
leaves_differ [] [] h = absurd (h refl)
leaves_differ [] (y ∷ ys) h = refl
leaves_differ (x ∷ xs) [] h = refl
leaves_differ (x ∷ xs) (y ∷ ys) h = rw (leaves_differ xs ys (λ e. h (ap suc e))) (and-false _)

pub sets_differ : (xs ys : List PlainSet) → length xs ≢ length ys → same_sets (set_list_of xs) (set_list_of ys) ≡ false
sets_differ [] [] h = absurd (h refl)
sets_differ [] (y ∷ ys) h = refl
sets_differ (x ∷ xs) [] h = refl
sets_differ (x ∷ xs) (y ∷ ys) h = rw (sets_differ xs ys (λ e. h (ap suc e))) (and-false _)

same_leaf-sound : (v w : PlainValue) → same_leaf v w ≡ true → v ≡ w
same_leaf-sound undefined undefined h = refl
same_leaf-sound null null h = refl
same_leaf-sound (truth a) (truth b) h = ap truth ((booleans_Decides a b).0 h)
same_leaf-sound (whole m) (whole n) h = ap whole ((signed_Decides m n).0 h)
same_leaf-sound (text s) (text t) h = ap text ((bytes_eq-Decides s t).0 h)
same_leaf-sound (event e) (event f) h = ap event (same_event-sound e f h)
same_leaf-sound _ _ h = absurd (true≢false (sym h))

same_leaves-sound : (vs ws : ValueList) → same_leaves vs ws ≡ true → vs ≡ ws
same_leaves-sound no_values no_values h = refl
same_leaves-sound (value v vs) (value w ws) h =
    let p = and_parts _ _ h in
    let x = same_leaf-sound v w p.0 in
    let y = same_leaves-sound vs ws p.1 in
    cc
same_leaves-sound _ _ h = absurd (true≢false (sym h))

mutual
  pub same_set-sound : (s t : PlainSet) → same_set s t ≡ true → s ≡ t
  same_set-sound (only e) (only f) h = ap only (same_event-sound e f h)
  same_set-sound (any ss) (any ts) h = ap any (same_sets-sound ss ts h)
  same_set-sound all all h = refl
  same_set-sound nothing nothing h = refl
  same_set-sound (or s t) (or u v) h =
      let p = and_parts _ _ h in
      let x = same_set-sound s u p.0 in
      let y = same_set-sound t v p.1 in
      cc
  same_set-sound (and s t) (and u v) h =
      let p = and_parts _ _ h in
      let x = same_set-sound s u p.0 in
      let y = same_set-sound t v p.1 in
      cc
  same_set-sound (xor s t) (xor u v) h =
      let p = and_parts _ _ h in
      let x = same_set-sound s u p.0 in
      let y = same_set-sound t v p.1 in
      cc
  same_set-sound (negate s) (negate t) h = ap negate (same_set-sound s t h)
  same_set-sound (predicate n c vs) (predicate m d ws) h =
      let p = and_parts _ _ h in
      let q = and_parts _ _ p.0 in
      let r = (unsigned_Decides c d).0 q.0 in
      let x = (bytes_eq-Decides n m).0 q.1 in
      let y = same_leaves-sound vs ws p.1 in
      cc
  same_set-sound _ _ h = absurd (true≢false (sym h))

  same_sets-sound : (ss ts : SetList) → same_sets ss ts ≡ true → ss ≡ ts
  same_sets-sound no_sets no_sets h = refl
  same_sets-sound (set_in s ss) (set_in t ts) h =
      let p = and_parts _ _ h in
      let x = same_set-sound s t p.0 in
      let y = same_sets-sound ss ts p.1 in
      cc
  same_sets-sound _ _ h = absurd (true≢false (sym h))
