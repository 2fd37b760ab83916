use Rattle.std.proofs.Common.{subst}
use Rattle.std.specs.Prelude.{IfOk}
use Rattle.js_value.specs.Views.{plain_value}
use Rattle.js_ops.specs.Answers.{AnswersAs}
use Rattle.js_ops.specs.Operators.{unary_of}
use Rattle.js_meaning.specs.Expressions.{step_for, updates}
use Rattle.js_frames.specs.Places.{plain_ground, place_of}
use Rattle.js_frames.specs.inner.Leads.{Leads}
use Rattle.js_frames.proofs.Steps.{on_ok}
use Rattle.js_frames.proofs.SlotLemmas.{early, declared_goes}
use Rattle.js_frames.proofs.engine.Engine.update.Goals as goal

pub returns-in_default : goal.returns-in_default
returns-in_default c = early (plain_ground c.args.base.now) (place_of c.args.self.now) c.args.slot c.args.line c.requires _ c.in_default.ensures

pub change-requires : goal.change-requires
change-requires c = c.requires

pub returns : goal.returns
returns c =
    let base = plain_ground c.args.base.now in
    let old = place_of c.args.self.now in
    on_ok c.change.result (λ step l. declared_goes base old c.args.slot c.args.line c.requires (λ v. updates c.args.line c.args.fix c.args.slot v (unary_of (step_for c.args.step) v)) (plain_value c.in-Some.held.now) _ step c.in-Some.ensures l)
    (subst (λ y. IfOk c.change.result (λ step. Leads base old (updates c.args.line c.args.fix c.args.slot y (unary_of (step_for c.args.step) y)) (place_of c.change.new.self) step)) c.in_ok-old.ensures
    (c.change.ensures _ (subst (λ u. AnswersAs (unary_of u (plain_value c.in_ok-old.old)) c.unary-new.result) c.step_for.ensures c.unary-new.ensures.answer)))
