use Rattle.bp_thread.proofs.job.Job.top.Goals as goal

pub returns-clause-fresh : goal.returns-clause-fresh
returns-clause-fresh c = c.on.ensures.fresh _ _ c.in_ok-machine.ensures.stands c.in_ok-machine.ensures.effects
