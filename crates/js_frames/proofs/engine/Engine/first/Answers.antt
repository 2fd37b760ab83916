use Rattle.std.proofs.Common.{refl, subst, [], ◌∷◌}
use Rattle.js_value.specs.Views.{plain_value}
use Rattle.js_ops.specs.Answers.{AnswersAs}
use Rattle.js_ops.specs.Operators.{unary_of}
use Rattle.js_frames.specs.Places.{plain_ground, place_of, here}
use Rattle.js_frames.specs.Fits.{IsDouble, IsShort}
use Rattle.js_frames.proofs.Steps.{becomes_ok, means_ok, part_is, has_form}
use Rattle.js_frames.proofs.BeginLemmas.{parts_with, second_waits, short_only, form_here}
use Rattle.js_frames.proofs.engine.Engine.first.Goals as goal

pub returns-in-Member : goal.returns-in-Member
returns-in-Member c = becomes_ok (plain_ground c.args.base.now) (place_of c.args.self.now) _ _ c.answered.result c.requires.fits (c.answered.ensures _ c.member.ensures)
    (λ s. parts_with (here c.args.base.now c.args.self.now) c.args.number c.node_of-node.result.now c.node_of-node.ensures.node _ c.in-Member.is s (plain_value c.args.value ∷ []))

pub returns-in-Unary : goal.returns-in-Unary
returns-in-Unary c = becomes_ok (plain_ground c.args.base.now) (place_of c.args.self.now) _ _ c.answered-in-Unary.result c.requires.fits (c.answered-in-Unary.ensures _ (subst (λ u. AnswersAs (unary_of u (plain_value c.args.value)) c.unary.result) c.unary_for.ensures c.unary.ensures.answer))
    (λ s. parts_with (here c.args.base.now c.args.self.now) c.args.number c.node_of-node.result.now c.node_of-node.ensures.node _ c.in-Unary.is s (plain_value c.args.value ∷ []))

pub begin_second-requires : goal.begin_second-requires
begin_second-requires c = record {
  number = c.requires.number;
  form = has_form (plain_ground c.args.base.now) (place_of c.args.self.now) c.args.number c.node_of-node.result.now c.node_of-node.ensures.node _ c.in-Index.is IsDouble tt;
  part = part_is (plain_ground c.args.base.now) (place_of c.args.self.now) c.args.number c.node_of-node.result.now c.node_of-node.ensures.node _ c.in-Index.is c.node_of-node.ensures.parts 1 _ refl;
  fits = c.requires.fits;
}

pub returns-in-Index : goal.returns-in-Index
returns-in-Index c = means_ok (plain_ground c.args.base.now) _ _ _ _ c.begin_second.result c.begin_second.ensures (λ s. second_waits (here c.args.base.now c.args.self.now) c.args.number c.node_of-node.result.now c.node_of-node.ensures.node _ c.in-Index.is s c.args.value _ refl)

pub begin_second-requires-in-Binary : goal.begin_second-requires-in-Binary
begin_second-requires-in-Binary c = record {
  number = c.requires.number;
  form = has_form (plain_ground c.args.base.now) (place_of c.args.self.now) c.args.number c.node_of-node.result.now c.node_of-node.ensures.node _ c.in-Binary.is IsDouble tt;
  part = part_is (plain_ground c.args.base.now) (place_of c.args.self.now) c.args.number c.node_of-node.result.now c.node_of-node.ensures.node _ c.in-Binary.is c.node_of-node.ensures.parts 1 _ refl;
  fits = c.requires.fits;
}

pub returns-in-Binary : goal.returns-in-Binary
returns-in-Binary c = means_ok (plain_ground c.args.base.now) _ _ _ _ c.begin_second-in-Binary.result c.begin_second-in-Binary.ensures (λ s. second_waits (here c.args.base.now c.args.self.now) c.args.number c.node_of-node.result.now c.node_of-node.ensures.node _ c.in-Binary.is s c.args.value _ refl)

pub unreachable-unreachable : goal.unreachable-unreachable
unreachable-unreachable c = short_only (let n = c.node_of-node.result.now in n.form) (form_here IsShort (let b = c.args.base.now in b.program) c.args.number c.node_of-node.result.now c.node_of-node.ensures.node c.requires.form) c.in_default.not-Member c.in_default.not-Unary c.in_default.not-Index c.in_default.not-Binary

pub node_of-node-requires : goal.node_of-node-requires
node_of-node-requires c = c.requires.number
