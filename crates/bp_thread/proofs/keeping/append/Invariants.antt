use Rattle.std.proofs.Common.{◌≡◌, ◌++◌, map}
use Rattle.std.specs.Vec.Iter.{into_iter_items}
use Rattle.js_frames.specs.Places.{plain_effect, plain_effects}
use Rattle.bp_thread.proofs.keeping.append.Given as goal

abbrev pub invariant-loop-effect : goal.invariant-loop-effect
invariant-loop-effect l = plain_effects l.effects ++ map plain_effect (into_iter_items l.effect-iterator) ≡ plain_effects l.initial.effects ++ map plain_effect l.fn.fresh.items.items
