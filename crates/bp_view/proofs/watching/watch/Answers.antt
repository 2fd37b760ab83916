use Rattle.std.proofs.Common.{arith, [], refl, ◌∙◌, subst, append-nil, le_refl}
use Rattle.bp_view.specs.Ends.{seen}
use Rattle.bp_view.specs.Sinks.{written_to}
use Rattle.bp_view.specs.Watching.{IsWatched}
use Rattle.bp_view.proofs.Growths.{prefix_on}
use Rattle.bp_view.proofs.Watches.{watched_none, keeps_on}
use Rattle.bp_view.proofs.watching.watch.Goals as goal

pub loop-init : goal.loop-init
loop-init g c = record {
  longer = ([], append-nil (seen c.args.watcher.now));
  watched = λ first e. watched_none first (seen c.args.watcher.now) (written_to g.V.Sink c.args.sink.now) e;
  keeps = record { counts = le_refl _; named = refl };
  halts = le_refl (g.W.Wake.halts c.args.wake.now);
  orders = refl;
}

pub returns-in-Ok-true-clause-ends : goal.returns-in-Ok-true-clause-ends
returns-in-Ok-true-clause-ends g c = λ first e.
    subst (λ b. IsWatched first (seen c.write_next.new.watcher) b (written_to g.V.Sink c.args.sink.now) (written_to g.V.Sink c.write_next.new.sink)) c.in-Ok-true.field-0-test
    (c.in-Ok-true.ensures.goes_on first (written_to g.V.Sink c.args.sink.now) (c.loop.invariant.watched first e))

pub returns-then-halted-clause-ends : goal.returns-then-halted-clause-ends
returns-then-halted-clause-ends g c = λ first e.
    subst (λ b. IsWatched first (seen c.write_next.new.watcher) b (written_to g.V.Sink c.args.sink.now) (written_to g.V.Sink c.write_next.new.sink)) c.in-Ok-false.field-0-test
    (c.in-Ok-false.ensures.goes_on first (written_to g.V.Sink c.args.sink.now) (c.loop.invariant.watched first e))

pub loop-preserved : goal.loop-preserved
loop-preserved g c = record {
  longer = prefix_on _ _ _ c.loop.invariant.longer c.write_next.ensures.longer;
  watched = λ first e.
      subst (λ b. IsWatched first (seen c.write_next.new.watcher) b (written_to g.V.Sink c.args.sink.now) (written_to g.V.Sink c.write_next.new.sink)) c.in-Ok-false.field-0-test
      (c.in-Ok-false.ensures.goes_on first (written_to g.V.Sink c.args.sink.now) (c.loop.invariant.watched first e));
  keeps = keeps_on g.V.Sink _ _ _ c.loop.invariant.keeps c.write_next.ensures.keeps;
  halts = omega (arith, c.loop.invariant.halts, c.halted.ensures.counts, c.wait.ensures.found);
  orders = c.wait.ensures.ordered ∙ c.halted.ensures.ordered ∙ c.loop.invariant.orders;
}
