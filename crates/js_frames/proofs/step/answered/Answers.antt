use Rattle.std.proofs.Common.{sym, ap, subst}
use Rattle.js_ops.specs.Answers.{AnswersAs}
use Rattle.js_meaning.specs.State.{answered}
use Rattle.js_frames.proofs.BecomesLemmas.{gives_so, fails_as}
use Rattle.js_frames.proofs.step.answered.Goals as goal

pub returns-in-Ok : goal.returns-in-Ok
returns-in-Ok c = λ a h. gives_so _ _ c.in-Ok.value c.give.ensures (λ g s. ap (λ q. answered c.args.line q s) (sym (subst (AnswersAs a) c.in-Ok.is h)))

pub returns-in-Err : goal.returns-in-Err
returns-in-Err c = λ a h. fails_as a c.in-Err.fault c.args.line c.failed.result (subst (AnswersAs a) c.in-Err.is h) c.failed.ensures
