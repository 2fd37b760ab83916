use denote.Param.Send.{sendable}
use Rattle.bp_thread.proofs.Crosses.{job_send}
use Rattle.bp_thread.proofs.crossing.job_moves.Goals as goal

pub moves-requires-send-T : goal.moves-requires-send-T
moves-requires-send-T c κs = search (sendable, job_send)
