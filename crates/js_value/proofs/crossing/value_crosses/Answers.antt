use denote.Param.Send.{sendable}
use Rattle.js_value.proofs.Crosses.{value_send, value_sync}
use Rattle.js_value.proofs.crossing.value_crosses.Goals as goal

pub crosses-requires-send-T : goal.crosses-requires-send-T
crosses-requires-send-T c κs = search (sendable, value_send)

pub crosses-requires-sync-T : goal.crosses-requires-sync-T
crosses-requires-sync-T c κs = search (sendable, value_sync)
