use Rattle.std.proofs.Common.{◌≡◌, ◌+◌, ◌<◌, All, IfOk}
use Rattle.crossbeam_queue.specs.Passes.{view, IsPassOf}
use Rattle.bp_pool.specs.Shared.{all_parts}
use Rattle.bp_pool.specs.Workers.{Holds, IsWork}
use Rattle.bp_pool.proofs.queue.gather.Given as goal

abbrev pub invariant-loop-part : goal.invariant-loop-part
invariant-loop-part g l =
    IsPassOf l.queue l.mine × ((view l.mine).lent ≡ g.L.Lending.lent) × (0 < (view l.mine).parts) × ((view l.mine).parts + l.part-iterator.rest.len ≡ all_parts)
    × Holds g.L.Lending.base g.L.Lending.lent (view l.mine) l.seats.items × All (λ r. IfOk r (IsWork g.L.Lending.base l.queue g.L.Lending.lent)) l.part-iterator.rest.items
