use Rattle.std.proofs.Common.{refl}
use Rattle.bp_session.proofs.Causes.{caused_by}
use Rattle.bp_session.proofs.outlets.Outlets.flush.Goals as goal

pub returns-clause-writes : goal.returns-clause-writes
returns-clause-writes g c =
    record { out_same = refl; log_same = refl; writes = record { counts = c.flush.ensures.counts; stays = c.flush.ensures.stays; cause = caused_by g.K.Sink g.L.Sink c.flush.result c.args.self.now.out.now c.flush.new.out c.args.self.now.log.now c.flush.new.log c.flush.ensures.cause c.flush.ensures.log_cause } }
