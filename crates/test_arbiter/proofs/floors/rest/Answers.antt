use Rattle.std.proofs.Common.{ap}
use Rattle.bp_floor.specs.Floors.{PlainFloor}
use Rattle.test_arbiter.proofs.Turning.{goes_first}
use Rattle.test_arbiter.proofs.floors.rest.Goals as goal

pub turn-requires-clause-goes : goal.turn-requires-clause-goes
turn-requires-clause-goes c =
    let f = c.in_ok-floor.floor in
    goes_first f (ap (λ (x : PlainFloor). x.broken) c.in_ok-floor.ensures) (ap (λ (x : PlainFloor). x.pair) c.in_ok-floor.ensures)
