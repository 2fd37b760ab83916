use Rattle.bp_pool.proofs.Rules.{room}
use Rattle.bp_pool.proofs.laws.a_push_from_a_hand_has_room.Goals as goal

pub returns : goal.returns
returns c = room
