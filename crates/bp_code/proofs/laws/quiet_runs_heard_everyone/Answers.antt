use Rattle.bp_run.proofs.Growing.{grown_settle}
use Rattle.bp_run.proofs.Injectors.{quiet_comes, quiet_heard, quiet_good, nobody_read}
use Rattle.bp_code.specs.Code.{code_of}
use Rattle.bp_code.proofs.laws.quiet_runs_heard_everyone.Goals as goal

pub returns-clause-comes : goal.returns-clause-comes
returns-clause-comes c = λ p o records d n h k.
    let q = quiet_comes (code_of p o) o records d n h k in
    (λ w. nobody_read o d n w q, q.good, q.count)

pub returns-clause-heard : goal.returns-clause-heard
returns-clause-heard c = λ p o records d n j w h k less. quiet_heard (code_of p o) o records n j d w h k less

pub returns-clause-good : goal.returns-clause-good
returns-clause-good c = λ p o records d n h k. quiet_good (code_of p o) o records n d h k

pub returns-clause-merged : goal.returns-clause-merged
returns-clause-merged c = λ p o q n h. (grown_settle (code_of p o) q).quiet n h
