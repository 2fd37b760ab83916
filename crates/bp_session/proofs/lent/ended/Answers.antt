use Rattle.std.proofs.Common.{subst}
use Rattle.bp_session.specs.inner.Outlets.{stop_fault, WritesTo}
use Rattle.bp_session.specs.declared.stop.Stop.{Stop}
use Rattle.bp_session.proofs.Causes.{writes_on, ends_at}
use Rattle.bp_session.proofs.lent.ended.Goals as goal

pub returns-in-Err-Read-clause-writes : goal.returns-in-Err-Read-clause-writes
returns-in-Err-Read-clause-writes g c first w = writes_on w c.write_read.ensures.writes

pub returns-in-Err-Broken-clause-writes : goal.returns-in-Err-Broken-clause-writes
returns-in-Err-Broken-clause-writes g c first w =
    c.write_front.ensures.writes first (subst (λ (s : Stop). WritesTo g.K.Sink g.L.Sink first c.args.outlets.now (stop_fault s)) (rw c.in-Err-Broken.is at c.in-Err-Broken.field-0-is) (rw c.in-Err-Broken.is at w))

pub returns-in-Err-Unwritten-clause-writes : goal.returns-in-Err-Unwritten-clause-writes
returns-in-Err-Unwritten-clause-writes g c first w =
    ends_at c.ending_of.result c.in-Err-Unwritten.fault c.ending_of.ensures
    (subst (λ (s : Stop). WritesTo g.K.Sink g.L.Sink first c.args.outlets.now (stop_fault s)) (rw c.in-Err-Unwritten.is at c.in-Err-Unwritten.field-0-is) (rw c.in-Err-Unwritten.is at w))
