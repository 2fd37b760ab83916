use Rattle.bp_thread.proofs.Standing.{whole_done}
use Rattle.bp_thread.proofs.job.Job.keeps.Goals as goal

pub returns : goal.returns
returns c = λ base budget w s. whole_done base budget c.args.self.now w s
