use Rattle.std.specs.Vec.Iter.{into_iter_items}
use Rattle.bp_core.proofs.Playing.{Playing}
use Rattle.bp_core.proofs.stepping.Core.play.Given as goal

abbrev pub invariant-loop-step : goal.invariant-loop-step
invariant-loop-step l = record { playing : Playing l.fn.self l.self l.fn.steps.items (into_iter_items l.step-iterator) l.at }
