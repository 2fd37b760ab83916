use Rattle.std.proofs.Common.{◌∙◌, ℕ, List, ap, get_or}
use Rattle.bp_roll.specs.Rolls.{is_in, numbers_at}
use Rattle.bp_select.proofs.Finding.{found_when}
use Rattle.bp_select.proofs.heeds.places_of.Goals as goal

pub returns-clause-others : goal.returns-clause-others
returns-clause-others c =
    let named = λ (n : ℕ). ap (λ (xs : List ℕ). is_in n xs) (c.at-named.ensures ∙ ap (λ (k : ℕ). numbers_at c.args.roll.now k) c.hash_of.ensures) in
    let any = λ (n : ℕ). ap (λ (xs : List ℕ). is_in n xs) c.at-any.ensures in
    found_when c.in_order.result c.args.live.now c.args.roll.now c.args.event.now c.add_places.new.places.items c.add_places-2.new.places.items c.requires.noted
    (λ i d low h. c.in_ok-add_places.ensures.there i d low (named (get_or c.args.live.now i d).number ∙ h))
    c.add_places-2.ensures.others
    (λ i d low h. c.in_ok-add_places-2.ensures.there i d low (any (get_or c.args.live.now i d).number ∙ h))
    c.in_order.ensures.same
