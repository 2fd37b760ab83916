use Rattle.bp_answers.proofs.Places.{IsSought}
use Rattle.bp_answers.proofs.reasons.place_of.Given as goal

abbrev pub invariant-loop-place : goal.invariant-loop-place
invariant-loop-place l = IsSought l.number l.records l.before l.place
