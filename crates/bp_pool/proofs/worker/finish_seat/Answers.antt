use Rattle.std.proofs.Common.{rules}
use Rattle.js_frames.specs.Places.{plain_ground}
use Rattle.bp_pool.proofs.Moves.{turned_itself, turned_on}
use Rattle.bp_pool.proofs.worker.finish_seat.Goals as goal

pub loop-holds-init : goal.loop-holds-init
loop-holds-init g c = (c.requires.open, turned_itself (plain_ground c.args.ground.now) c.args.seat c.requires.open)

pub returns-then-not-hold_seat-clause-turned : goal.returns-then-not-hold_seat-clause-turned
returns-then-not-hold_seat-clause-turned g c = turned_on _ _ _ _ c.loop-holds.invariant.1 c.hold_seat.ensures.turned

pub loop-holds-preserved : goal.loop-holds-preserved
loop-holds-preserved g c = (c.hold_seat.ensures.open (search rules), turned_on _ _ _ _ c.loop-holds.invariant.1 c.hold_seat.ensures.turned)
