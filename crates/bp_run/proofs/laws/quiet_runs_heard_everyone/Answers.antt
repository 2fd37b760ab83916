use Rattle.bp_run.proofs.Growing.{grown_settle}
use Rattle.bp_run.proofs.Injectors.{quiet_comes, quiet_heard, quiet_good, nobody_read}
use Rattle.bp_run.proofs.laws.quiet_runs_heard_everyone.Goals as goal

pub returns-clause-comes : goal.returns-clause-comes
returns-clause-comes c = λ l o records d n h k. let q = quiet_comes l o records d n h k in (λ w. nobody_read o d n w q, q.good, q.count)

pub returns-clause-heard : goal.returns-clause-heard
returns-clause-heard c = λ l o records d n j w h k less. quiet_heard l o records n j d w h k less

pub returns-clause-good : goal.returns-clause-good
returns-clause-good c = λ l o records d n h k. quiet_good l o records n d h k

pub returns-clause-merged : goal.returns-clause-merged
returns-clause-merged c = λ l p n h. (grown_settle l p).quiet n h
