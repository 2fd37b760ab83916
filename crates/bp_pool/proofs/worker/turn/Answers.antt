use Rattle.std.proofs.Common.{rules, ◌∙◌}
use Rattle.js_frames.specs.Places.{plain_ground}
use Rattle.bp_pool.proofs.Moves.{turned_itself, turned_on}
use Rattle.bp_pool.proofs.worker.turn.Goals as goal

pub loop-holds-init : goal.loop-holds-init
loop-holds-init g c = (search rules, search rules, search rules, c.requires.can_turn, turned_itself (plain_ground c.args.ground.now) c.args.seat.now c.requires.can_turn)

pub returns-then-not-hold_seat-clause-turned : goal.returns-then-not-hold_seat-clause-turned
returns-then-not-hold_seat-clause-turned g c = turned_on _ _ _ _ c.loop-holds.invariant.4 c.hold_seat.ensures.turned

pub returns-then-len_as-pace-clause-turned : goal.returns-then-len_as-pace-clause-turned
returns-then-len_as-pace-clause-turned g c = turned_on _ _ _ _ c.loop-holds.invariant.4 c.hold_seat.ensures.turned

pub loop-holds-preserved : goal.loop-holds-preserved
loop-holds-preserved g c =
    let was = c.loop-holds.invariant in
    let same = c.len_as.ensures.queue.0 in (
      search rules,
      (same.0 ∙ was.1.0, same.1 ∙ was.1.1, same.2 ∙ was.1.2),
      c.len_as.ensures.queue.1 ∙ was.2,
      c.hold_seat.ensures.open (search rules),
      turned_on _ _ _ _ was.4 c.hold_seat.ensures.turned,
    )
