use Rattle.std.proofs.Common.{◌≡◌}
use Rattle.crossbeam_queue.specs.Passes.{view, IsPassOf}
use Rattle.bp_pool.specs.Shared.{all_parts}
use Rattle.bp_pool.specs.Workers.{Holds}
use Rattle.bp_pool.proofs.queue.drain.Given as goal

abbrev pub invariant-loop-pops : goal.invariant-loop-pops
invariant-loop-pops g l =
    IsPassOf l.queue l.mine × ((view l.mine).lent ≡ g.L.Lending.lent) × ((view l.mine).parts ≡ all_parts) × Holds g.L.Lending.base g.L.Lending.lent (view l.mine) l.seats.items
