use Rattle.std.proofs.Common.{arith}
use Rattle.bp_turns.proofs.carrier.AloneCarrier.carry_out.Goals as goal

pub carry_all-requires-clause-some_slice : goal.carry_all-requires-clause-some_slice
carry_all-requires-clause-some_slice c =
    let some = c.slice-slice.ensures.within.some_slice in
    let same = c.slice-slice.ensures.slice in
    omega (arith, some, same)
