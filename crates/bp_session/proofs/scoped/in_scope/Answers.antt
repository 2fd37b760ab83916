use denote.Exit.{no}
use denote.Param.{layout}
use denote.Param.Send.{param_send, param_sync, arg_send, arg_sync}
use Rattle.bp_session.proofs.scoped.in_scope.Goals as goal

pub scoped-held-requires : goal.scoped-held-requires
scoped-held-requires g c =
    let send = param_send 1 _ (arg_send (layout g.row.S) no _ c.type_bounds.send-S) in
    let sync = param_sync 2 _ (arg_sync (layout g.row.R) no _ c.type_bounds.sync-R) in
    record { at = λ a. (c.requires.room, (c.requires.ready, (c.requires.fresh, (c.requires.few, (send, sync))))) }
