use denote.Param.Send.{sendable}
use Rattle.js_program.proofs.Crosses.{program_send, program_sync}
use Rattle.js_program.proofs.crossing.program_crosses.Goals as goal

pub crosses-requires-send-T : goal.crosses-requires-send-T
crosses-requires-send-T c κs = search (sendable, program_send)

pub crosses-requires-sync-T : goal.crosses-requires-sync-T
crosses-requires-sync-T c κs = search (sendable, program_sync)
