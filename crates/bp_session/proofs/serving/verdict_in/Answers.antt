use Rattle.std.proofs.Common.{ap, sym, ◌∙◌}
use Rattle.bp_log.specs.Records.{verdict_of}
use Rattle.bp_arbiter.specs.Arbiters.{PlainArbiter}
use Rattle.bp_session.proofs.Rounds.{verdict_told}
use Rattle.bp_session.proofs.serving.verdict_in.Goals as goal

pub returns : goal.returns
returns c =
    ap (λ (a : PlainArbiter). verdict_of a.records) (sym c.arbiter.ensures)
    ∙ verdict_told (λ v. v.now) c.verdict.result c.in-Some.verdict c.in_ok-copy-in-Some.field-0 (verdict_of c.arbiter.result.now.records) c.in-Some.is c.verdict.ensures.recorded c.in_ok-copy-in-Some.ensures
