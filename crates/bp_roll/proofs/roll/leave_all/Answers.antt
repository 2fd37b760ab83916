use Rattle.bp_roll.proofs.roll.leave_all.Goals as goal

pub loop-key-preserved : goal.loop-key-preserved
loop-key-preserved c = λ k n e h. c.leave.ensures k n e (c.loop-key.invariant k n e h)
