use Rattle.bp_view.specs.Ends.{seen}
use Rattle.bp_view.proofs.Growths.{SeesOn}
use Rattle.bp_view.proofs.Watches.{due_seeing, due_memory, watched_part, viewed_more, viewed_part, viewed_still, viewed_not}
use Rattle.bp_view.proofs.ending.catch_up.Goals as goal

pub returns-in_err-learn-clause-part : goal.returns-in_err-learn-clause-part
returns-in_err-learn-clause-part g c = viewed_not c.from_residual.result (seen c.args.watcher.now) (seen c.learn.new.self) _ c.args.watched c.learn.ensures.longer

pub returns-in-Write-clause-part : goal.returns-in-Write-clause-part
returns-in-Write-clause-part g c = λ first before w. watched_part first _ _ before _ c.args.watched c.learn.ensures.longer w

pub returns-in-Memory-clause-whole : goal.returns-in-Memory-clause-whole
returns-in-Memory-clause-whole g c =
    let sees : SeesOn (seen c.args.watcher.now) (seen c.learn.new.self) c.last-last.result c.last-summary.result
    = record { grow = c.learn.ensures.good; was = c.last-last.ensures.last; is = c.last-summary.ensures.last; longer = c.learn.ensures.longer } in
    viewed_more c.write_line.result _ _ _ _ _ _ c.args.watched sees (due_memory c.args.watched _ _ c.in-Memory.is) c.write_line.ensures.whole

pub returns-in-Memory-clause-part : goal.returns-in-Memory-clause-part
returns-in-Memory-clause-part g c =
    let sees : SeesOn (seen c.args.watcher.now) (seen c.learn.new.self) c.last-last.result c.last-summary.result
    = record { grow = c.learn.ensures.good; was = c.last-last.ensures.last; is = c.last-summary.ensures.last; longer = c.learn.ensures.longer } in
    viewed_part c.write_line.result _ _ _ _ _ _ c.args.watched sees (due_memory c.args.watched _ _ c.in-Memory.is) c.write_line.ensures.front c.write_line.ensures.nothing

pub returns-then-summary-last-clause-whole : goal.returns-then-summary-last-clause-whole
returns-then-summary-last-clause-whole g c =
    let sees : SeesOn (seen c.args.watcher.now) (seen c.learn.new.self) c.last-last.result c.last-summary.result
    = record { grow = c.learn.ensures.good; was = c.last-last.ensures.last; is = c.last-summary.ensures.last; longer = c.learn.ensures.longer } in
    viewed_still _ _ _ _ _ c.args.watched sees c.in-All.is c.if-summary-last.true

pub returns-else-summary-last-clause-whole : goal.returns-else-summary-last-clause-whole
returns-else-summary-last-clause-whole g c =
    let sees : SeesOn (seen c.args.watcher.now) (seen c.learn.new.self) c.last-last.result c.last-summary.result
    = record { grow = c.learn.ensures.good; was = c.last-last.ensures.last; is = c.last-summary.ensures.last; longer = c.learn.ensures.longer } in
    viewed_more c.write_line-in-All.result _ _ _ _ _ _ c.args.watched sees (due_seeing c.args.watched _ _ c.in-All.is c.if-summary-last.false) c.write_line-in-All.ensures.whole

pub returns-else-summary-last-clause-part : goal.returns-else-summary-last-clause-part
returns-else-summary-last-clause-part g c =
    let sees : SeesOn (seen c.args.watcher.now) (seen c.learn.new.self) c.last-last.result c.last-summary.result
    = record { grow = c.learn.ensures.good; was = c.last-last.ensures.last; is = c.last-summary.ensures.last; longer = c.learn.ensures.longer } in
    viewed_part c.write_line-in-All.result _ _ _ _ _ _ c.args.watched sees (due_seeing c.args.watched _ _ c.in-All.is c.if-summary-last.false) c.write_line-in-All.ensures.front c.write_line-in-All.ensures.nothing
