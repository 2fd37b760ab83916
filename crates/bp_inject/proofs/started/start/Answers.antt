use Rattle.std.proofs.Common.{◌≡◌, None, subst, sym}
use Rattle.bp_inject.proofs.Joined.{unread}
use Rattle.bp_inject.proofs.started.start.Goals as goal

pub returns-in-Some-clause-unread : goal.returns-in-Some-clause-unread
returns-in-Some-clause-unread g c = unread _ _ c.args.berth.mouth (subst (λ f. (f.lines.source ≡ c.args.source) × (f.mouth ≡ c.args.berth.mouth) × (f.kept ≡ None)) (sym c.of-handed.ensures) c.new-feed.ensures.parts) c.args.berth.unoffered

pub returns-in-None-clause-unread : goal.returns-in-None-clause-unread
returns-in-None-clause-unread g c = unread _ _ c.args.berth.mouth c.new-feed.ensures.parts c.args.berth.unoffered
