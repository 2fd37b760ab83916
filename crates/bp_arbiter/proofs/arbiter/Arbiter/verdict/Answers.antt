use Rattle.std.proofs.Common.{ap, ◌∙◌}
use Rattle.bp_log.specs.Records.{verdict_of}
use Rattle.bp_arbiter.specs.Arbiters.{PlainArbiter, is_over}
use Rattle.bp_arbiter.proofs.Standing.{over_exactly}
use Rattle.bp_arbiter.proofs.arbiter.Arbiter.verdict.Goals as goal

pub returns-clause-over : goal.returns-clause-over
returns-clause-over c = over_exactly _ c.self.inside.run.records.items c.args.self.now.phase c.verdict_of.result (c.verdict_of.ensures ∙ ap verdict_of c.as_slice.ensures.value) ((c.self.invariant).over ∙ ap (λ (a : PlainArbiter). is_over a.phase) c.self.view_is)
