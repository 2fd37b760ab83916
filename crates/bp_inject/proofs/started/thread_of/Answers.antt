use denote.Exit.{no}
use denote.Param.{param}
use denote.Param.Send.{param_send, arg_send}
use Rattle.bp_inject.proofs.Crosses.{turned_send}
use Rattle.bp_inject.proofs.started.thread_of.Goals as goal

pub spawn_with-requires-send-T : goal.spawn_with-requires-send-T
spawn_with-requires-send-T g c κs within = param_send 3 _ (arg_send _ no _ (turned_send (param 0 g.row.S) c.type_bounds.send-S))
