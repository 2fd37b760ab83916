-- Seats may move to other threads, with their jobs, and threads may share what workers capture.
use denote.RattleType.{RattleType}
use denote.Param.Send.{IsSend, IsSync, sendable}
use denote.Param.SendFields.{declared_send, declared_sync, as_row_sync}
use denote.Struct.Field.{row_field}
use denote.Struct.Tuple.{TupleAt, type_at}
use mathlib.Core.List.{[], ◌∷◌}
use mir.Syntax.{Sym}
use Rattle.bp_thread.proofs.Crosses.{job_send}
use Rattle.bp_pool.specs.contracts.pace.Pace as Pace
use Rattle.bp_pool.specs.contracts.seat.Seat as Seat

pub seat_send : IsSend Seat.the_row
seat_send = declared_send Seat.the_type (search sendable, (search (sendable, job_send), (search sendable, tt)))

pub pace_sync : IsSync Pace.the_row
pace_sync = declared_sync Pace.the_type (search sendable, (search sendable, tt))

-- six values that threads may share
pub six_sync : (name : Sym) (a b c d e f : RattleType) → IsSync a → IsSync b → IsSync c → IsSync d → IsSync e → IsSync f → IsSync (TupleAt name (a ∷ b ∷ c ∷ d ∷ e ∷ f ∷ []))
six_sync name a b c d e f x y z w u v =
    declared_sync (type_at name (a ∷ b ∷ c ∷ d ∷ e ∷ f ∷ []))
    (as_row_sync (row_field a) x, (as_row_sync (row_field b) y, (as_row_sync (row_field c) z, (as_row_sync (row_field d) w, (as_row_sync (row_field e) u, (as_row_sync (row_field f) v, tt))))))
