use Rattle.test_cores.proofs.cores.slice_one.Goals as goal

pub returns : goal.returns
returns c = λ budget. c.in_ok-slice.ensures.carries budget
