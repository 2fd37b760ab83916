-- What is seen by a look.
use Rattle.std.proofs.Common.{arith, ◌≡◌, suc, ◌-◌, List, [], ◌∷◌, ◌++◌, length, Option, None, Some, IfSome, slice_get, refl, ap, ◌∙◌, subst}
use Rattle.bp_view.specs.declared.summary.Summary.{Summary}
use Rattle.bp_view.specs.Growing.{last_of}
use Rattle.bp_view.specs.inner.Published.{IsLook}

at_end : (x : Summary) (xs : List Summary) → slice_get (x ∷ xs) (length xs) ≡ last_of (x ∷ xs)
at_end x [] = refl
at_end x (y ∷ ys) = at_end y ys

-- the last of a list is at its last place
pub last_is : (list : List Summary) → slice_get list (length list - 1) ≡ last_of list
last_is [] = refl
last_is (x ∷ xs) = let e : suc (length xs) - 1 ≡ length xs = omega arith in ap (slice_get (x ∷ xs)) e ∙ at_end x xs

no_none : (x : Summary) (xs : List Summary) → last_of (x ∷ xs) ≡ None → ⊥
no_none x [] e = cc
no_none x (y ∷ ys) e = no_none y ys e

-- a list whose front has a last one has a last one
has_last : (xs ys rest : List Summary) (s r : Summary) → last_of xs ≡ Some s → xs ++ rest ≡ ys → (o : Option Summary) → last_of ys ≡ o → IfSome o (λ t. t ≡ r) → last_of ys ≡ Some r
has_last [] ys rest s r e is o l h = cc
has_last (x ∷ xs) [] rest s r e is o l h = cc
has_last (x ∷ xs) (y ∷ ys) rest s r e is None l h = absurd (no_none y ys l)
has_last (x ∷ xs) (y ∷ ys) rest s r e is (Some t) l h = l ∙ ap (λ u. Some u) h

-- what a look answers was shown last
pub looked : (v w list slice : List Summary) (s r : Summary) → last_of v ≡ Some s → IsLook v list w → slice ≡ list → IfSome (last_of slice) (λ t. t ≡ r) → last_of w ≡ Some r
looked v w list slice s r e look is h =
    let e' : IfSome (last_of list) (λ t. t ≡ r) = subst (λ l. IfSome (last_of l) (λ t. t ≡ r)) is h in
    ap last_of look.all ∙ has_last v list look.begins.0 s r e look.begins.1 (last_of list) refl e'
