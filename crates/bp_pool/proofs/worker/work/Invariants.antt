use Rattle.std.proofs.Common.{◌≡◌}
use Rattle.crossbeam_queue.specs.Passes.{view, IsPassOf}
use Rattle.bp_pool.specs.Workers.{Holds}
use Rattle.bp_pool.proofs.worker.work.Given as goal

abbrev pub invariant-loop-pops : goal.invariant-loop-pops
invariant-loop-pops g l =
    IsPassOf l.queue l.pass × ((view l.pass).lent ≡ g.L.Lending.lent) × ((view l.pass).parts ≡ 1) × Holds g.L.Lending.base g.L.Lending.lent (view l.pass) l.seats.items
