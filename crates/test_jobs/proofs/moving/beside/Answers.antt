use denote.Param.Send.{sendable}
use Rattle.std.proofs.Crossing.{crosses}
use Rattle.js_frames.proofs.Crosses.{ground_sync}
use Rattle.bp_thread.proofs.Crosses.{job_send}
use Rattle.test_jobs.proofs.moving.beside.Goals as goal

pub join-requires-send-F : goal.join-requires-send-F
join-requires-send-F c κs = search (sendable, crosses, ground_sync, job_send) depth 14

pub join-requires-send-A : goal.join-requires-send-A
join-requires-send-A c κs = search (sendable, crosses, job_send) depth 14
