use Rattle.std.proofs.Common.{◌≡◌, ◌∙◌, ℕ, suc, arith, Bool, true, false, List, [], ◌∷◌, length, nat_eq, refl, ap, sym}
use Rattle.std.proofs.lemmas.Bool.{eqb-true}
use Rattle.js_value.specs.Value.{PlainSet, any}
use Rattle.js_value.specs.Views.{plain_set, set_list_of}
use Rattle.bp_select.specs.EmptySets.{is_empty}
use Rattle.bp_select.proofs.asking.is_empty_set.Goals as goal

not_none : (n : ℕ) (b : Bool) → nat_eq (suc n) 0 ≡ b → b ≡ false
not_none n false h = refl
not_none n true h = let e = eqb-true (suc n) 0 h in absurd (omega (arith, e))

none_of : (sets : List PlainSet) → nat_eq (length sets) 0 ≡ is_empty (any (set_list_of sets))
none_of [] = refl
none_of (s ∷ ss) = not_none (length ss) (nat_eq (suc (length ss)) 0) refl

pub returns-in-Any : goal.returns-in-Any
returns-in-Any c =
    ap (λ (sets : List PlainSet). nat_eq (length sets) 0) c.as_slice.ensures.value
    ∙ none_of c.in-Any.sets.items
    ∙ ap (λ (s : PlainSet). is_empty s) (sym (ap plain_set c.in-Any.is) ∙ c.tree.ensures)
