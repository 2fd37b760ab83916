use Rattle.std.proofs.Common.{ap, ◌∙◌}
use Rattle.js_data.specs.declared.fault.Fault.TheVariants as fault
use Rattle.js_value.specs.Views.{plain_value}
use Rattle.js_ops.specs.Methods.{method_of, method_named}
use Rattle.js_meaning.specs.State.{answered}
use Rattle.js_meaning.specs.Calls.{applies}
use Rattle.js_frames.proofs.BecomesLemmas.{fails_so, becomes_as}
use Rattle.js_frames.proofs.parts.method_step.Goals as goal

pub returns-in-None : goal.returns-in-None
returns-in-None c = fails_so _ _ fault.Mistyped c.args.line c.mistyped.ensures (λ g s. ap (λ m. applies c.args.line m (plain_value c.args.on.now) c.args.args.now s) (c.in-None.ensures ∙ ap method_named c.as_str.ensures))

pub returns-in-Some : goal.returns-in-Some
returns-in-Some c = becomes_as _ _ c.answered.result (λ g s.
    ap (λ vs. answered c.args.line (method_of c.in-Some.name (plain_value c.args.on.now) vs) s) c.as_slice.ensures
    ∙ ap (λ m. applies c.args.line m (plain_value c.args.on.now) c.args.args.now s) (c.in-Some.ensures ∙ ap method_named c.as_str.ensures)) (c.answered.ensures _ c.method.ensures)
