use Rattle.std.proofs.Common.{◌≡◌, ◌++◌, map, drop}
use Rattle.bp_answers.specs.inner.Resting.{plain_stop, stops_from}
use Rattle.bp_answers.proofs.resting.stops.Given as goal

abbrev pub invariant-loop-number : goal.invariant-loop-number
invariant-loop-number l =
    map plain_stop l.stops.items ++ stops_from l.floor.base.program l.floor.options l.number (drop l.number l.floor.pair.stand.threads)
    ≡ stops_from l.floor.base.program l.floor.options 0 l.floor.pair.stand.threads
