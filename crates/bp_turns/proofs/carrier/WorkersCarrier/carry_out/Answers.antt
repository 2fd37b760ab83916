use Rattle.std.proofs.Common.{arith}
use Rattle.bp_turns.proofs.carrier.WorkersCarrier.carry_out.Goals as goal

pub superstep-requires-clause-some_workers : goal.superstep-requires-clause-some_workers
superstep-requires-clause-some_workers g c κs within =
    let some = c.workers-workers.ensures.within.some_workers in
    let same = c.workers-workers.ensures.workers in
    omega (arith, some, same)

pub superstep-requires-clause-some_slice : goal.superstep-requires-clause-some_slice
superstep-requires-clause-some_slice g c κs within =
    let some = c.slice-slice.ensures.within.some_slice in
    let same = c.slice-slice.ensures.slice in
    omega (arith, some, same)

pub returns : goal.returns
returns g c = c.superstep.ensures c.args._budget
