use Rattle.std.proofs.Common.{sym, ap, ◌∙◌}
use Rattle.js_data.specs.declared.fault.Fault.TheVariants as fault
use Rattle.js_value.specs.Value.{is_truthy}
use Rattle.js_value.specs.Views.{plain_value}
use Rattle.js_value.specs.declared.value.Value.TheVariants.{Undefined}
use Rattle.js_meaning.specs.State.{leaves, violated, left_of}
use Rattle.js_meaning.specs.Forms.{asserted}
use Rattle.js_frames.proofs.Steps.{if_true, if_false}
use Rattle.js_frames.proofs.EffectLemmas.{no_text}
use Rattle.js_frames.proofs.BecomesLemmas.{gives_so, fails_so, violates_so}
use Rattle.js_frames.proofs.forms.assert_with.Goals as goal

pub returns-in_default : goal.returns-in_default
returns-in_default c = fails_so _ _ fault.Mistyped c.args.line c.mistyped.ensures (λ g s. no_text c.args.line (plain_value c.args.condition.now) c.args.text.now s c.in_default.not-Text)

pub returns-then-truthy : goal.returns-then-truthy
returns-then-truthy c = gives_so _ _ Undefined c.leave.ensures (λ g s.
    if_true (is_truthy (plain_value c.args.condition.now)) leaves _ s c.if-truthy.ensures
    ∙ ap (λ t. asserted c.args.line (plain_value c.args.condition.now) (plain_value t) s) (sym c.in-Text.is))

pub returns-in_ok-copied : goal.returns-in_ok-copied
returns-in_ok-copied c = violates_so _ c.in_ok-copied.copied (λ g s.
    ap (λ t. violated t (left_of s)) (c.in_ok-copied.ensures ∙ c.deref.ensures)
    ∙ if_false (is_truthy (plain_value c.args.condition.now)) leaves _ s c.if-truthy.ensures
    ∙ ap (λ t. asserted c.args.line (plain_value c.args.condition.now) (plain_value t) s) (sym c.in-Text.is))
