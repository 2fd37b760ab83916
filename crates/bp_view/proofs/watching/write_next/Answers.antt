use Rattle.std.proofs.Common.{false, Err, ap}
use Rattle.bp_view.specs.Ends.{seen}
use Rattle.bp_view.proofs.Growths.{SeesOn}
use Rattle.bp_view.proofs.Watches.{watched_still, after_watched, followed, not_followed}
use Rattle.bp_view.proofs.watching.write_next.Goals as goal

pub returns-then-summary-last-clause-goes_on : goal.returns-then-summary-last-clause-goes_on
returns-then-summary-last-clause-goes_on g c = λ first before w.
    let sees : SeesOn (seen c.args.watcher.now) (seen c.look-summary.new.self) c.last-last.result c.look-summary.result
    = record { grow = c.look-summary.ensures.good; was = c.last-last.ensures.last; is = c.look-summary.ensures.last; longer = c.look-summary.ensures.longer } in
    watched_still first _ _ _ _ false before _ sees c.if-summary-last.true w

pub returns-in-Ok-clause-goes_on : goal.returns-in-Ok-clause-goes_on
returns-in-Ok-clause-goes_on g c = λ first before w.
    let sees : SeesOn (seen c.args.watcher.now) (seen c.look-summary.new.self) c.last-last.result c.look-summary.result
    = record { grow = c.look-summary.ensures.good; was = c.last-last.ensures.last; is = c.look-summary.ensures.last; longer = c.look-summary.ensures.longer } in
    followed first _ _ false before _ _ (after_watched first _ _ _ _ false before _ sees c.if-summary-last.false w) c.in-Ok.ensures.whole

pub returns-in-Err-clause-breaks : goal.returns-in-Err-clause-breaks
returns-in-Err-clause-breaks g c = λ first before w.
    let sees : SeesOn (seen c.args.watcher.now) (seen c.look-summary.new.self) c.last-last.result c.look-summary.result
    = record { grow = c.look-summary.ensures.good; was = c.last-last.ensures.last; is = c.look-summary.ensures.last; longer = c.look-summary.ensures.longer } in
    not_followed first _ _ before _ _ c.in-Err.fault (after_watched first _ _ _ _ false before _ sees c.if-summary-last.false w) (λ e. c.in-Err.ensures.front (ap (λ x. Err x) e)) (λ e. c.in-Err.ensures.nothing (ap (λ x. Err x) e))
