use Rattle.std.proofs.Common.{sym, ap, ◌∙◌}
use Rattle.js_data.specs.declared.fault.Fault.TheVariants as fault
use Rattle.js_value.specs.Views.{plain_value}
use Rattle.js_value.specs.declared.value.Value.TheVariants as value
use Rattle.js_meaning.specs.Forms.{floors}
use Rattle.js_frames.proofs.EffectLemmas.{no_whole}
use Rattle.js_frames.proofs.BecomesLemmas.{gives_so, fails_so}
use Rattle.js_frames.proofs.forms.floored.Goals as goal

pub returns : goal.returns
returns c = gives_so _ _ (value.Whole c.in-Whole.n) c.give.ensures (λ g s.
    ap (λ x. floors c.args.line (plain_value x) s) (sym c.in-Whole.is) ∙ ap (λ x. floors c.args.line x s) c.take.ensures.value)

pub returns-in_default : goal.returns-in_default
returns-in_default c = fails_so _ _ fault.Mistyped c.args.line c.mistyped.ensures (λ g s.
    no_whole c.args.line c.take.result s c.in_default.not-Whole ∙ ap (λ x. floors c.args.line x s) c.take.ensures.value)
