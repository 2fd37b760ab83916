use Rattle.test_cores.proofs.Somewhere.{first_carried}
use Rattle.test_cores.proofs.cores.slice_first.Goals as goal

pub returns : goal.returns
returns c = λ budget. first_carried _ budget c.args.jobs.now.items c.index_mut.result.now c.slice_one.new.job c.index_mut.ensures.value (c.in_ok-slice_one.ensures budget)
