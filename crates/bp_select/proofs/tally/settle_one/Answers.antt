use Rattle.std.proofs.Common.{Option, ℕ, map, subst}
use Rattle.std.specs.Prelude.{IfSome}
use Rattle.js_frames.specs.Places.{plain_ground}
use Rattle.bp_known.specs.Known.{sets_in}
use Rattle.bp_live.specs.Lives.{live_of}
use Rattle.bp_select.specs.inner.Counted.{IsCounted}
use Rattle.bp_select.proofs.TallyLemmas.{counted_when}
use Rattle.bp_select.proofs.tally.settle_one.Goals as goal

pub returns-clause-counted : goal.returns-clause-counted
returns-clause-counted c =
    let base = plain_ground c.args.ground.now in
    let sets = sets_in c.args.blocks.now.sets in
    let ts = map live_of c.args.live.now in
    counted_when base c.args.budget sets ts c.args.number c.in-Some.count c.set.new.self c.set.result
    (subst (λ (o : Option ℕ). IfSome o (λ count. IsCounted base c.args.budget sets ts c.args.number count)) c.in-Some.is c.in_ok-count.ensures.counted) c.set.ensures.own
