-- The parts of a node of a sound program are smaller than the node.
use Rattle.std.proofs.Common.{◌≡◌, ◌∙◌, ℕ, zero, suc, ◌+◌, ◌<◌, List, [], ◌∷◌, sym, ap, subst, length, arith, Some, Bool, true}
use Rattle.std.proofs.lemmas.Bool.{and_parts, ltb-true}
use Rattle.std.proofs.lemmas.Option.{slice_get_within, get_or_from_slice_get}
use Rattle.std.proofs.lemmas.List.Sums.{AllPass-from_list_all}
use Rattle.std.specs.Prelude.{nat_lt, slice_get}
use Rattle.std.specs.List.{list_all}
use Rattle.js_program.specs.PlainProgram.{PlainNode, PlainProgram, parts_of}
use Rattle.js_program.specs.Sound.{all_below, ordered, IsSound}

-- what holds of all elements holds of each
pub all_at : {A : Type 0} (test : A → Bool) (xs : List A) (i : ℕ) (x : A) → slice_get xs i ≡ Some x → list_all test xs ≡ true → test x ≡ true
all_at test xs i x e h = ap test (sym (get_or_from_slice_get xs i x x e)) ∙ AllPass-from_list_all test xs h i x (slice_get_within xs i x e)

ordered_at : (b : ℕ) (xs : List PlainNode) (i : ℕ) (x : PlainNode) → ordered b xs ≡ true → slice_get xs i ≡ Some x → all_below (b + i) (parts_of x.form) ≡ true
unfolding ordered
ordered_at b [] i x h e = cc
ordered_at b (y ∷ ys) zero x h e =
    let is : y ≡ x = cc in
    let same : b ≡ b + 0 = omega arith in
    subst (λ n. all_below n (parts_of x.form) ≡ true) same (subst (λ (z : PlainNode). all_below b (parts_of z.form) ≡ true) is (and_parts _ _ h).0)
ordered_at b (y ∷ ys) (suc i) x h e =
    let same : suc b + i ≡ b + suc i = omega arith in
    subst (λ n. all_below n (parts_of x.form) ≡ true) same (ordered_at (suc b) ys i x (and_parts _ _ h).1 e)

-- each part of a node has a smaller number than the node
pub part_smaller : (p : PlainProgram) (n : ℕ) (x : PlainNode) (i k : ℕ) → IsSound p → slice_get p.nodes n ≡ Some x → slice_get (parts_of x.form) i ≡ Some k → k < n
part_smaller p n x i k h at e =
    let same : 0 + n ≡ n = omega arith in
    ltb-true k n (all_at (λ m. nat_lt m n) (parts_of x.form) i k e (subst (λ z. all_below z (parts_of x.form) ≡ true) same (ordered_at 0 p.nodes n x h.order at)))

-- and is there
pub part_there : (p : PlainProgram) (n : ℕ) (x : PlainNode) (i k : ℕ) → IsSound p → slice_get p.nodes n ≡ Some x → slice_get (parts_of x.form) i ≡ Some k → k < length p.nodes
part_there p n x i k h at e = omega (arith, part_smaller p n x i k h at e, slice_get_within p.nodes n x at)
