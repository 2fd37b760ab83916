use Rattle.std.proofs.Common.{[], ◌∷◌, ap, ◌∙◌, refl}
use Rattle.js_value.specs.Value as v
use Rattle.js_value.specs.Views.{plain_value}
use Rattle.js_program.specs.declared.builtin.Mode.TheVariants.{Predicate}
use Rattle.js_program.specs.PlainProgram.{PlainProgram}
use Rattle.js_meaning.specs.Calls.{body_of}
use Rattle.js_meaning.specs.Bodies.{function}
use Rattle.bp_sets.proofs.Asking.{ended, as_given}
use Rattle.bp_sets.proofs.predicate.call.Goals as goal

pub returns-in-Ended : goal.returns-in-Ended
returns-in-Ended c = λ e h.
    let runs = rw c.in-Ended.is at (c.in_ok-run.ensures.stands c.args.budget (function Predicate (v.function c.args.code c.in_ok-copy.field-0) (plain_value c.in_ok-copy-2.field-0 ∷ [])) [] 0 [] c.in_ok-restart.ensures.stands) in
    as_given _ _ _ _ _ _ _ _ _ _ c.in_ok-copy.ensures refl (c.in_ok-copy-2.ensures ∙ h)
    (c.line_of-line.ensures ∙ ap (λ (p : PlainProgram). (body_of p c.args.code).line) c.program.ensures)
    (ended _ _ _ _ _ _ runs.says c.answer.ensures c.truth_in.ensures)
