use Rattle.std.proofs.Common.{◌∙◌, ℕ, List, Option, Vec, [], ap, sym}
use Rattle.std.specs.declared.alloc.Global.{Global}
use Rattle.std.specs.Option.{option_map_or}
use Rattle.bp_roll.specs.Rolls.{PlainRoll, is_in, is_noted}
use Rattle.bp_roll.proofs.Listing.{plain_listed}
use Rattle.bp_roll.proofs.roll.Roll.keeps.Goals as goal

pub returns-in-Some : goal.returns-in-Some
returns-in-Some c = λ same k h.
    let number = c.args.number in
    ap (λ (r : PlainRoll). is_noted r k number) (sym c.self.view_is) ∙ plain_listed c.self.inside.lists.entries k number
    ∙ c.self.invariant number k
    (ap (λ (o : Option (Vec ℕ Global)). is_in k (option_map_or (λ v. v.items) o [])) (sym c.in-Some.ensures.value)
    ∙ ap (λ (ks : List ℕ). is_in k ks) (sym c.as_slice.ensures.value ∙ c.are_same.ensures same) ∙ h)
