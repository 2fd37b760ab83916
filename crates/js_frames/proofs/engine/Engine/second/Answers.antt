use Rattle.std.proofs.Common.{subst, [], ◌∷◌}
use Rattle.js_value.specs.Views.{plain_value}
use Rattle.js_meaning.specs.Expressions.{by_rule}
use Rattle.js_ops.specs.Answers.{AnswersAs}
use Rattle.js_frames.specs.Places.{plain_ground, place_of, here}
use Rattle.js_frames.proofs.Steps.{becomes_ok}
use Rattle.js_frames.proofs.BeginLemmas.{parts_with, double_only, form_here}
use Rattle.js_frames.specs.Fits.{IsDouble}
use Rattle.js_frames.proofs.engine.Engine.second.Goals as goal

pub returns-in-Index : goal.returns-in-Index
returns-in-Index c = becomes_ok (plain_ground c.args.base.now) (place_of c.args.self.now) _ _ c.answered.result c.requires.fits (c.answered.ensures _ c.index.ensures)
    (λ s. parts_with (here c.args.base.now c.args.self.now) c.args.number c.node_of-node.result.now c.node_of-node.ensures.node _ c.in-Index.is s (plain_value c.args.first ∷ plain_value c.args.value ∷ []))

pub returns-in-Binary : goal.returns-in-Binary
returns-in-Binary c = becomes_ok (plain_ground c.args.base.now) (place_of c.args.self.now) _ _ c.answered-in-Binary.result c.requires.fits (c.answered-in-Binary.ensures _ (subst (λ o. AnswersAs (by_rule o (plain_value c.args.first) (plain_value c.args.value)) c.by_rule.result) c.op_for.ensures c.by_rule.ensures))
    (λ s. parts_with (here c.args.base.now c.args.self.now) c.args.number c.node_of-node.result.now c.node_of-node.ensures.node _ c.in-Binary.is s (plain_value c.args.first ∷ plain_value c.args.value ∷ []))

pub unreachable-unreachable : goal.unreachable-unreachable
unreachable-unreachable c = double_only (let n = c.node_of-node.result.now in n.form) (form_here IsDouble (let b = c.args.base.now in b.program) c.args.number c.node_of-node.result.now c.node_of-node.ensures.node c.requires.form) c.in_default.not-Index c.in_default.not-Binary

pub node_of-node-requires : goal.node_of-node-requires
node_of-node-requires c = c.requires.number
