use Rattle.std.proofs.Common.{◌∙◌, ℕ, Option, Vec, [], ap, sym}
use Rattle.std.specs.declared.alloc.Global.{Global}
use Rattle.std.specs.Option.{option_map_or}
use Rattle.bp_roll.specs.Rolls.{PlainRoll, numbers_at}
use Rattle.bp_roll.proofs.Listing.{plain_at}
use Rattle.bp_roll.proofs.roll.Roll.at.Goals as goal

pub returns-in-None : goal.returns-in-None
returns-in-None c =
    let es = c.self.inside.lists.entries in
    sym (ap (λ (r : PlainRoll). numbers_at r c.args.key) (sym c.self.view_is) ∙ plain_at es c.args.key ∙ ap (λ (o : Option (Vec ℕ Global)). option_map_or (λ v. v.items) o []) (sym c.in-None.ensures.value))

pub returns-in-Some : goal.returns-in-Some
returns-in-Some c =
    let es = c.self.inside.lists.entries in
    c.as_slice.ensures.value
    ∙ sym (ap (λ (r : PlainRoll). numbers_at r c.args.key) (sym c.self.view_is) ∙ plain_at es c.args.key ∙ ap (λ (o : Option (Vec ℕ Global)). option_map_or (λ v. v.items) o []) (sym c.in-Some.ensures.value))
