use Rattle.bp_answers.proofs.Places.{place_is}
use Rattle.bp_answers.proofs.reasons.place_of.Goals as goal

pub returns-then-before-eq0 : goal.returns-then-before-eq0
returns-then-before-eq0 c =
    place_is c.args.number c.loop-place.before c.loop-place.place c.args.records.now c.index-records-place.result c.loop-place.invariant c.loop-place-test.true c.index-records-place.is c.in-Sel.field-0 c.in-Sel.is c.if-before-eq0.true
