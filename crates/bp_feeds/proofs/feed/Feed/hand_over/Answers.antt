use Rattle.std.proofs.Common.{rules, ◌≡◌, Some, true, false, refl, sym, ◌∙◌}
use Rattle.bp_feeds.specs.Items.{is_last, ends}
use Rattle.bp_feeds.proofs.feed.Feed.hand_over.Goals as goal

pub returns-then-is_read-clause-offers : goal.returns-then-is_read-clause-offers
returns-then-is_read-clause-offers g c =
    let last : is_last c.args.item ≡ true = search rules in (Some c.args.item, c.in-Ok.ensures.offers, (λ _. last, λ _. refl))

pub returns-else-is_read-clause-offers : goal.returns-else-is_read-clause-offers
returns-else-is_read-clause-offers g c =
    let more : is_last c.args.item ≡ false = search rules in
    (Some c.args.item, c.in-Ok.ensures.offers, (λ e. cc, λ (t : ends (Some c.args.item) ≡ true). (let f : false ≡ true = sym more ∙ t in cc)))
