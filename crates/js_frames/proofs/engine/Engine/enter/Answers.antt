use Rattle.std.proofs.Common.{refl, sym, ap, subst, ◌∙◌}
use Rattle.std.proofs.lemmas.Bool.{false≢true}
use Rattle.std.specs.Prelude.{IsSome}
use Rattle.js_program.specs.Views.{plain_body, plain_content}
use Rattle.js_value.specs.Lists.{values_in}
use Rattle.js_frames.specs.Places.{plain_ground, place_of}
use Rattle.js_frames.specs.inner.Leads.{IsBegin, entered}
use Rattle.js_frames.proofs.Steps.{on_ok}
use Rattle.js_frames.proofs.CallLemmas.{same_effects, enter_nothing, enter_leads, first_part, statements_fit, statements_wait, value_fits, value_waits}
use Rattle.js_frames.proofs.engine.Engine.enter.Goals as goal

pub returns-in_default : goal.returns-in_default
returns-in_default c = record {
  goes = enter_nothing (plain_ground c.args.base.now) (place_of c.args.self.now) (plain_body c.args.body.now) c.args.active (values_in c.args.captured.now) c.args.args _ c.leave.ensures c.requires.fits (sym c.in_default.ensures);
  begins = λ h. absurd (false≢true (subst IsSome (sym c.in_default.ensures) h));
  effects = refl;
}

pub returns-in-Statements : goal.returns-in-Statements
returns-in-Statements c = record {
  goes = enter_leads (plain_ground c.args.base.now) (place_of c.args.self.now) (plain_body c.args.body.now) c.args.active (values_in c.args.captured.now) c.args.args (place_of c.push_call.new.self) (place_of c.wait.new.self) c.in_ok-slots.slots c.args.sequence c.in-Some.first c.wait.result
      c.in_ok-slots.ensures (c.in_ok-push_call.ensures ∙ ap (λ q. entered q c.in_ok-slots.slots c.args.active) c.done_with.ensures) c.requires.fits c.requires.sequence (statements_fit _ _ _ _ c.in-Statements.is c.requires.sequence)
      (c.requires.parts 0 c.in-Some.first (first_part (plain_content (let b = c.args.body.now in b.content)) c.in-Some.first (sym c.in-Some.ensures))) c.requires.statements (sym c.in-Some.ensures)
      (statements_wait _ _ _ _ _ _ _ c.in-Statements.is c.wait.ensures);
  begins = λ h. on_ok c.wait.result (λ step e. subst IsBegin (sym e.0) tt) c.wait.ensures;
  effects = same_effects c.args.self.now c.push_call.new.self c.wait.new.self c.in_ok-slots.slots c.args.active _ _ c.wait.result (c.in_ok-push_call.ensures ∙ ap (λ q. entered q c.in_ok-slots.slots c.args.active) c.done_with.ensures) c.wait.ensures;
}

pub returns-in-OneValue : goal.returns-in-OneValue
returns-in-OneValue c = record {
  goes = enter_leads (plain_ground c.args.base.now) (place_of c.args.self.now) (plain_body c.args.body.now) c.args.active (values_in c.args.captured.now) c.args.args (place_of c.push_call.new.self) (place_of c.wait-in-OneValue.new.self) c.in_ok-slots.slots c.args.sequence c.in-Some.first c.wait-in-OneValue.result
      c.in_ok-slots.ensures (c.in_ok-push_call.ensures ∙ ap (λ q. entered q c.in_ok-slots.slots c.args.active) c.done_with.ensures) c.requires.fits c.requires.sequence (value_fits _ _ _ _ c.in-OneValue.is)
      (c.requires.parts 0 c.in-Some.first (first_part (plain_content (let b = c.args.body.now in b.content)) c.in-Some.first (sym c.in-Some.ensures))) c.requires.statements (sym c.in-Some.ensures)
      (value_waits _ _ _ _ _ _ _ c.in-OneValue.is c.wait-in-OneValue.ensures);
  begins = λ h. on_ok c.wait-in-OneValue.result (λ step e. subst IsBegin (sym e.0) tt) c.wait-in-OneValue.ensures;
  effects = same_effects c.args.self.now c.push_call.new.self c.wait-in-OneValue.new.self c.in_ok-slots.slots c.args.active _ _ c.wait-in-OneValue.result (c.in_ok-push_call.ensures ∙ ap (λ q. entered q c.in_ok-slots.slots c.args.active) c.done_with.ensures) c.wait-in-OneValue.ensures;
}
