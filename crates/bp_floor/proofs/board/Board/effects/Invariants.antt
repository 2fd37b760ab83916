use Rattle.std.proofs.Common.{◌≡◌, map}
use Rattle.std.specs.Vec.Iter.{into_iter_items}
use Rattle.js_frames.specs.Places.{plain_effect, plain_effects, plain_ground}
use Rattle.bp_run.specs.Settling.{with_effects}
use Rattle.bp_meaning.specs.After.{effect_of}
use Rattle.bp_floor.specs.inner.Boards.{pair_of}
use Rattle.bp_floor.proofs.Onward.{Onward}
use Rattle.bp_floor.proofs.board.Board.effects.Given as goal

abbrev pub invariant-loop-effect : goal.invariant-loop-effect
invariant-loop-effect l = record {
  merged : with_effects l.at (map effect_of (map plain_effect (into_iter_items l.effect-iterator))) (pair_of l.self) ≡ with_effects l.at (map effect_of (plain_effects l.fn.effects)) (pair_of l.fn.self);
  onward : Onward (plain_ground l.ground) l.options l.fn.self l.self;
}
