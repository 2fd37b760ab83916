use Rattle.std.proofs.Common.{rules, ◌∙◌, ap, sym, length}
use Rattle.bp_pool.proofs.Moves.{fill_begins, fill_step, filled, never_full}
use Rattle.bp_pool.proofs.queue.fill.Goals as goal

pub loop-seat-init : goal.loop-seat-init
loop-seat-init g c = (c.requires.pass, fill_begins _ _ _ _ c.requires.lent c.requires.held c.into_iter-seat-iterator.ensures.into_iter_gives.0 c.requires.open)

pub push_as-requires-clause-rule : goal.push_as-requires-clause-rule
push_as-requires-clause-rule g c = fill_step _ _ _ _ _ _ _ _ _ c.loop-seat.invariant.1 c.in-Some.ensures.steps.0 c.requires.some_part

pub loop-seat-preserved : goal.loop-seat-preserved
loop-seat-preserved g c = (search rules, filled _ _ _ _ _ _ _ _ c.loop-seat.invariant.1 c.in-Some.ensures.steps.0 c.in-Ok.ensures.rule)

pub unreachable-requires : goal.unreachable-requires
unreachable-requires g c =
    let h = c.in-Err.ensures.rule in
    let held = h.2 in
    never_full _ _ _ _ _ _ _ c.loop-seat.invariant.1 (c.requires.room ∙ ap length (sym c.requires.lent)) held.1 held.2
