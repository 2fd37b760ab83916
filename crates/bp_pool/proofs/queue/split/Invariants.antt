use Rattle.std.proofs.Common.{◌≡◌, ◌-◌, [], All, vec_len}
use Rattle.crossbeam_queue.specs.Passes.{view, IsPassOf}
use Rattle.bp_pool.specs.Shared.{hand, places_of, all_parts}
use Rattle.bp_pool.proofs.queue.split.Given as goal

abbrev pub invariant-loop-worker : goal.invariant-loop-worker
invariant-loop-worker g l =
    IsPassOf l.queue l.mine × (view l.mine ≡ hand g.L.Lending.lent (places_of g.L.Lending.lent) (all_parts - l._worker))
    × (vec_len l.passes ≡ l._worker) × All (λ p. IsPassOf l.queue p × (view p ≡ hand g.L.Lending.lent [] 1)) l.passes.items
