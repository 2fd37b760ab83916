use Rattle.bp_log.proofs.behind.push_verdict.Goals as goal

pub returns-in-Threads : goal.returns-in-Threads
returns-in-Threads c = rw c.in-Threads.is (rw c.from-in-Threads.ensures at c.push_counted-in-Threads.ensures)

pub returns-in-Weight : goal.returns-in-Weight
returns-in-Weight c = rw c.in-Weight.is c.push_counted-in-Weight.ensures
