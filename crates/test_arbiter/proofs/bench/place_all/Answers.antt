use Rattle.test_arbiter.proofs.bench.place_all.Goals as goal

pub loop-line-preserved : goal.loop-line-preserved
loop-line-preserved c = λ base budget h. c.place.ensures base budget (c.loop-line.invariant base budget h)

pub returns-in_err-place : goal.returns-in_err-place
returns-in_err-place c = λ base budget h. c.place.ensures base budget (c.loop-line.invariant base budget h)
