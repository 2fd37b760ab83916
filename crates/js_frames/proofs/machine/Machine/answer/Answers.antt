use Rattle.std.proofs.Common.{Some, ap, ◌∙◌, subst}
use Rattle.std.proofs.lemmas.Bool.{false≢true}
use Rattle.std.specs.Prelude.{IsSome}
use Rattle.js_frames.specs.declared.step.Step.TheVariants.{Give}
use Rattle.js_frames.specs.Runs.{answer_at, answer_by}
use Rattle.js_frames.proofs.Pauses.{completes_only, answers_only}
use Rattle.js_frames.proofs.machine.Machine.answer.Goals as goal

pub returns : goal.returns
unfolding answer_by
returns c = ap answer_at c.in-Some.is ∙ ap (λ q. answer_at (Some q)) c.in-Give.is ∙ ap (λ q. answer_at (Some (Give q))) c.in-Normal.is

pub unreachable-requires : goal.unreachable-requires
unfolding answer_by
unreachable-requires c = answers_only c.in-Give.completion (subst (λ q. IsSome (answer_at (Some q))) c.in-Give.is (subst (λ o. IsSome (answer_at o)) c.in-Some.is c.requires)) c.in_default-completion.not-Normal

pub unreachable-requires-in_default : goal.unreachable-requires-in_default
unfolding answer_by
unreachable-requires-in_default c = completes_only c.in-Some.step (subst (λ o. IsSome (answer_at o)) c.in-Some.is c.requires) c.in_default.not-Give

pub unreachable-requires-in-None : goal.unreachable-requires-in-None
unfolding answer_by
unreachable-requires-in-None c = false≢true (subst (λ o. IsSome (answer_at o)) c.in-None.is c.requires)
