use Rattle.bp_log.proofs.Equality.{told_verdict}
use Rattle.bp_log.proofs.verdict.Verdict.same.Goals as goal

pub returns-clause-equal : goal.returns-clause-equal
returns-clause-equal c = told_verdict c.same_verdict.result c.args.self.now c.args.other.now c.same_verdict.ensures
