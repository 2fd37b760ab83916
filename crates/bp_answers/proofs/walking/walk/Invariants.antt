use Rattle.bp_answers.proofs.Walks.{Along}
use Rattle.bp_answers.proofs.walking.walk.Given as goal

abbrev pub invariant-loop-place : goal.invariant-loop-place
invariant-loop-place l = Along l.fn.program l.fn.options l.records l.place l.arbiter
