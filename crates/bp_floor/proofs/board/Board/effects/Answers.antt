use Rattle.std.proofs.Common.{◌∙◌, List, sym, ap, map}
use Rattle.std.specs.Vec.Iter.{into_iter_items}
use Rattle.js_frames.specs.declared.effect.Effect as made
use Rattle.js_frames.specs.Places.{plain_effect}
use Rattle.js_meaning.specs.Bodies.{Origin}
use Rattle.bp_run.specs.Settling.{Pair, with_effects}
use Rattle.bp_meaning.specs.After.{effect_of}
use Rattle.bp_floor.specs.inner.Boards.{pair_of}
use Rattle.bp_floor.proofs.Lists.{nothing_to_come}
use Rattle.bp_floor.proofs.Onward.{onward_same, onward_then}
use Rattle.bp_floor.proofs.board.Board.effects.Goals as goal

pub loop-effect-init : goal.loop-effect-init
loop-effect-init c = record {
  merged = ap (λ (xs : List made.Effect). with_effects c.args.at.now (map effect_of (map plain_effect xs)) (pair_of c.args.self.now)) c.into_iter-effect-iterator.ensures.into_iter_gives.0;
  onward = onward_same _ _ _;
}

pub loop-effect-preserved : goal.loop-effect-preserved
loop-effect-preserved c = record {
  merged = ap (λ (p : Pair Origin). with_effects c.args.at.now (map effect_of (map plain_effect (into_iter_items c.next.new.self))) p) c.in_ok-effect.ensures.merged
      ∙ ap (λ (xs : List made.Effect). with_effects c.args.at.now (map effect_of (map plain_effect xs)) (pair_of c.loop-effect.self)) (sym c.in-Some.ensures.steps.0)
      ∙ c.loop-effect.invariant.merged;
  onward = onward_then _ _ _ _ _ c.loop-effect.invariant.onward c.in_ok-effect.ensures.keeps;
}

pub returns : goal.returns
returns c = record {
  merged = ap (λ (xs : List made.Effect). with_effects c.args.at.now (map effect_of (map plain_effect xs)) (pair_of c.loop-effect.self)) (sym (nothing_to_come c.loop-effect.effect-iterator c.in-None.ensures.steps.0))
      ∙ c.loop-effect.invariant.merged;
  keeps = c.loop-effect.invariant.onward.keeps;
}
