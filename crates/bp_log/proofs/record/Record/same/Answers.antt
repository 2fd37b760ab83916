use Rattle.bp_log.proofs.Equality.{told_record}
use Rattle.bp_log.proofs.record.Record.same.Goals as goal

pub returns-clause-equal : goal.returns-clause-equal
returns-clause-equal c = told_record c.same_record.result c.args.self.now c.args.other.now c.same_record.ensures
