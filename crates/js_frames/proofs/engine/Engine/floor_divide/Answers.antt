use Rattle.std.proofs.Common.{sym, ap, subst, ◌∙◌}
use Rattle.std.specs.Prelude.{IfOk}
use Rattle.js_value.specs.Views.{plain_value}
use Rattle.js_value.specs.declared.op.Op.TheVariants as op
use Rattle.js_ops.specs.Operators.{value_of}
use Rattle.js_meaning.specs.State.{answered}
use Rattle.js_meaning.specs.Forms.{argument}
use Rattle.js_frames.specs.Places.{plain_ground, place_of}
use Rattle.js_frames.specs.inner.Leads.{Leads}
use Rattle.js_frames.proofs.Lists.{argument_taken}
use Rattle.js_frames.proofs.Steps.{becomes_ok}
use Rattle.js_frames.proofs.engine.Engine.floor_divide.Goals as goal

pub returns : goal.returns
returns c =
    let base = plain_ground c.args.base.now in
    let old = place_of c.args.self.now in
    subst (λ q. IfOk c.answered.result (λ step. Leads base old (answered c.args.line (value_of op.FloorDivide (argument 0 c.args.done) (argument 1 c.args.done))) q step)) (sym c.done_with.ensures)
    (becomes_ok base old _ _ c.answered.result c.requires (c.answered.ensures _ c.apply_by-answer.ensures) (λ s.
    ap (λ x. answered c.args.line (value_of op.FloorDivide x (plain_value c.take-divisor.result)) s) (c.take-dividend.ensures.value ∙ ap (argument 0) c.take-divisor.ensures.rest ∙ argument_taken c.args.done)
    ∙ ap (λ y. answered c.args.line (value_of op.FloorDivide (argument 0 c.args.done) y) s) c.take-divisor.ensures.value))
