use Rattle.std.proofs.Common.{Some, ap, ◌∙◌, subst}
use Rattle.std.proofs.lemmas.Bool.{false≢true}
use Rattle.std.specs.Prelude.{IsSome}
use Rattle.js_frames.specs.Runs.{asked_at, asked_by, line_asked, line_at}
use Rattle.js_frames.proofs.Pauses.{asks_only}
use Rattle.js_frames.proofs.machine.Machine.line.Goals as goal

pub returns : goal.returns
unfolding line_asked
returns c = ap line_at c.in-Some.is ∙ ap (λ q. line_at (Some q)) c.in-Ask.is

pub unreachable-requires : goal.unreachable-requires
unfolding asked_by
unreachable-requires c = asks_only c.in-Some.step (subst (λ o. IsSome (asked_at o)) c.in-Some.is c.requires) c.in_default.not-Ask

pub unreachable-requires-in-None : goal.unreachable-requires-in-None
unfolding asked_by
unreachable-requires-in-None c = false≢true (subst (λ o. IsSome (asked_at o)) c.in-None.is c.requires)
