use Rattle.std.proofs.Common.{◌∙◌, List, ℕ, ap, get_or}
use Rattle.bp_roll.specs.Rolls.{is_in}
use Rattle.bp_select.proofs.Finding.{there_when}
use Rattle.bp_select.proofs.heeds.places_at.Goals as goal

pub returns-clause-there : goal.returns-clause-there
returns-clause-there c =
    there_when c.in_order.result c.args.live.now c.args.roll.now c.args.key c.add_places.new.places.items
    (λ i d low h. c.in_ok-add_places.ensures.there i d low (ap (λ (xs : List ℕ). is_in (get_or c.args.live.now i d).number xs) c.at-numbers.ensures ∙ h)) c.in_order.ensures.same
