use denote.RattleType.{RattleType}
use denote.Param.{param}
use denote.Param.Send.{IsSync, sendable, shr_sync}
use denote.Ref.{ShrRef}
use denote.Builtin.{unit}
use denote.Param.SendFields.{declared_sync}
use mathlib.Core.List.{[]}
use mir.Syntax.{named}
use Rattle.std.proofs.Crossing.{crosses, sync as heap_sync}
use Rattle.std.specs.contracts.option.Option as Option
use Rattle.std.specs.contracts.impls.GlobalAllocator.TheImpl as heap
use Rattle.atomic_table.specs.contracts.owned.Table as Table
use Rattle.crossbeam_queue.specs.contracts.array_queue.Slotted as Slotted
use Rattle.crossbeam_queue.specs.contracts.array_queue.Doing as Doing
use Rattle.crossbeam_queue.specs.contracts.array_queue.Turns as Turns
use Rattle.crossbeam_queue.specs.contracts.array_queue.TurnsTableRuleOptionDoingUnit.TheImpl as turns
use Rattle.bp_pool.specs.contracts.seat.Seat as Seat
use Rattle.bp_pool.specs.contracts.rule.Hand as Hand
use Rattle.bp_pool.specs.contracts.pace.Pace as Pace
use Rattle.bp_pool.specs.contracts.rule.Once as Once
use Rattle.bp_pool.specs.contracts.rule.OnceProtocolSeatHand.TheImpl as once
use Rattle.std.specs.contracts.alloc.Global as Heap
use Rattle.atomic_table.proofs.shared.Seat.TheSendSync.{the_send as pass_send}
use Rattle.atomic_table.proofs.shared.Shared.TheSendSync.{the_sync as shared_sync}
use Rattle.atomic_table.proofs.send_lease.SendLease.TheSendSync.{the_sync as lease_sync}
use Rattle.js_frames.specs.contracts.ground.Ground as Ground
use Rattle.js_frames.proofs.Crosses.{ground_sync}
use Rattle.bp_pool.proofs.Crossings.{seat_send, pace_sync, six_sync}
use Rattle.bp_pool.proofs.Steps.{begins}
use Rattle.bp_pool.proofs.queue.lend.Goals as goal

pub ruled-requires-clause-rule : goal.ruled-requires-clause-rule
ruled-requires-clause-rule g c = begins _ _ c.requires.own

pub map_vec-requires-send-J : goal.map_vec-requires-send-J
map_vec-requires-send-J g c κs within = search (sendable, pass_send, seat_send) depth 24

pub map_vec-requires-send-X : goal.map_vec-requires-send-X
map_vec-requires-send-X g c κs within = search (sendable, crosses, pass_send, seat_send) depth 24

pub map_vec-requires-sync-F : goal.map_vec-requires-sync-F
map_vec-requires-sync-F g c κs within =
    let rt : RattleType = ShrRef (named 7) κs.1.1.1.1.1.1.1.0 (param 2 g.row.R) in
    let alloc : RattleType = ShrRef (named 8) κs.1.1.1.1.1.1.1.1.0 Heap.the_row in
    let ground : RattleType = ShrRef (named 9) κs.1.1.1.1.1.1.1.1.1.0 Ground.the_row in
    let queue_row : RattleType =
    Slotted.the_row (Option.the_row Seat.the_row) (Doing.the_row Seat.the_row Hand.the_row) (Turns.the_row (Once.the_row (param 0 g.row.L))) Heap.the_row
    (turns.ghosts Seat.the_row Hand.the_row (Once.the_row (param 0 g.row.L)) (once.ghosts (param 0 g.row.L) g.L.Lending once.no_dict) turns.no_dict) heap.ghosts
    in
    let queue : RattleType = ShrRef (named 10) κs.1.1.1.1.1.1.1.1.1.1.0 queue_row in
    let pace : RattleType = ShrRef (named 11) κs.1.1.1.1.1.1.1.1.1.1.1.0 Pace.the_row in
    let gate : RattleType = ShrRef (named 12) κs.1.1.1.1.1.1.1.1.1.1.1.1.0 (param 1 g.row.G) in
    let table_is : IsSync (Table.the_row (Option.the_row Seat.the_row) (Doing.the_row Seat.the_row Hand.the_row) unit (Turns.the_row (Once.the_row (param 0 g.row.L))) Heap.the_row
    (turns.ghosts Seat.the_row Hand.the_row (Once.the_row (param 0 g.row.L)) (once.ghosts (param 0 g.row.L) g.L.Lending once.no_dict) turns.no_dict) heap.ghosts) =
    declared_sync (Table.the_type (Option.the_row Seat.the_row) (Doing.the_row Seat.the_row Hand.the_row) unit (Turns.the_row (Once.the_row (param 0 g.row.L))) Heap.the_row
    (turns.ghosts Seat.the_row Hand.the_row (Once.the_row (param 0 g.row.L)) (once.ghosts (param 0 g.row.L) g.L.Lending once.no_dict) turns.no_dict) heap.ghosts)
    (search (sendable, shared_sync, seat_send) depth 18, (search sendable, (search sendable, (search (sendable, crosses, lease_sync) depth 18, (search (sendable, crosses, lease_sync, seat_send) depth 18, (heap_sync, tt))))))
    in
    let queue_is : IsSync queue_row = declared_sync
    (Slotted.the_type (Option.the_row Seat.the_row) (Doing.the_row Seat.the_row Hand.the_row) (Turns.the_row (Once.the_row (param 0 g.row.L))) Heap.the_row
    (turns.ghosts Seat.the_row Hand.the_row (Once.the_row (param 0 g.row.L)) (once.ghosts (param 0 g.row.L) g.L.Lending once.no_dict) turns.no_dict) heap.ghosts)
    (table_is, (search sendable, (search sendable, tt)))
    in
    record {
      shared = (six_sync [] rt alloc ground queue pace gate (shr_sync (named 7) κs.1.1.1.1.1.1.1.0 (param 2 g.row.R) c.type_bounds.sync-R) (shr_sync (named 8) κs.1.1.1.1.1.1.1.1.0 Heap.the_row heap_sync)
          (shr_sync (named 9) κs.1.1.1.1.1.1.1.1.1.0 Ground.the_row ground_sync) (shr_sync (named 10) κs.1.1.1.1.1.1.1.1.1.1.0 queue_row queue_is) (shr_sync (named 11) κs.1.1.1.1.1.1.1.1.1.1.1.0 Pace.the_row pace_sync)
          (shr_sync (named 12) κs.1.1.1.1.1.1.1.1.1.1.1.1.0 (param 1 g.row.G) c.type_bounds.sync-G)).shared;
    }
