use denote.Param.Send.{sendable}
use Rattle.js_frames.proofs.Crosses.{ground_send, ground_sync}
use Rattle.js_frames.proofs.crossing.ground_crosses.Goals as goal

pub crosses-requires-send-T : goal.crosses-requires-send-T
crosses-requires-send-T c κs = search (sendable, ground_send)

pub crosses-requires-sync-T : goal.crosses-requires-sync-T
crosses-requires-sync-T c κs = search (sendable, ground_sync)
