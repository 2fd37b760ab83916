use denote.Param.Send.{sendable}
use Rattle.js_frames.proofs.Crosses.{machine_send}
use Rattle.js_frames.proofs.crossing.machine_moves.Goals as goal

pub moves-requires-send-T : goal.moves-requires-send-T
moves-requires-send-T c κs = search (sendable, machine_send)
