use denote.Param.Send.{sendable}
use Rattle.std.proofs.Crossing.{crosses}
use Rattle.js_value.proofs.Crosses.{value_send}
use Rattle.test_values.proofs.values.read_by_two.Goals as goal

pub join-requires-send-F : goal.join-requires-send-F
join-requires-send-F c κs = search (sendable, crosses, value_send) depth 14
