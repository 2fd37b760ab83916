use Rattle.std.proofs.Common.{◌<◌, ℕ, sym, subst, length, Ok, Err}
use Rattle.bp_run.specs.Choosing.{reach}
use Rattle.bp_run.specs.Selecting.{live}
use Rattle.bp_select.specs.declared.answers.SelectFault.{SelectFault}
use Rattle.bp_select.specs.Answers.{FaultAs}
use Rattle.js_frames.specs.Places.{plain_ground}
use Rattle.bp_floor.specs.inner.Boards.{stand_of}
use Rattle.bp_floor.specs.inner.Transition.{floor_on}
use Rattle.bp_code.specs.Code.{sealed_code_of as code_of}
use Rattle.bp_floor.proofs.Onward.{pair_asked}
use Rattle.bp_floor.proofs.TransitionLemmas.{reach_at_rest, few_at_rest, faulty_at_rest, stops_at_fault, verdict_told}
use Rattle.bp_floor.proofs.board.Board.look.Goals as goal

pub weighed-requires-clause-few : goal.weighed-requires-clause-few
weighed-requires-clause-few c =
    let base = plain_ground c.args.ground.now in
    few_at_rest base c.args.options c.args.self.now c.args.event.now c.in-Ok.reach c.requires
    (reach_at_rest base c.args.options c.args.self.now c.budget.result c.args.event.now (Ok c.in-Ok.reach) c.requires c.budget.ensures.budget c.in-Ok.ensures.reached)

pub fault_verdict-requires : goal.fault_verdict-requires
fault_verdict-requires c =
    let base = plain_ground c.args.ground.now in
    let o = c.args.options in
    let b = c.args.self.now in
    subst (λ (n : ℕ). n < length b.seats) (sym c.in-Err-Set.number-is)
    (faulty_at_rest base o b c.args.event.now c.in-Err-Set.number c.in-Err-Set.fault
    (subst (λ (x : SelectFault). FaultAs (reach (code_of base.program o).has c.args.event.now (live (code_of base.program o) (stand_of b))) x) c.in-Err-Set.field-0-is
    (reach_at_rest base o b c.budget.result c.args.event.now (Err c.in-Err-Set.field-0) c.requires c.budget.ensures.budget c.in-Err-Set.ensures.reached)))

pub returns-in-Ok-clause-looks : goal.returns-in-Ok-clause-looks
returns-in-Ok-clause-looks c =
    let base = plain_ground c.args.ground.now in
    let a = reach_at_rest base c.args.options c.args.self.now c.budget.result c.args.event.now (Ok c.in-Ok.reach) c.requires c.budget.ensures.budget c.in-Ok.ensures.reached in
    c.weighed.ensures (floor_on base c.args.options c.args.self.now) a.0 (pair_asked c.args.self.now c.reach.new.self c.reach.ensures.queue) a.1 a.2

pub returns-in_ok-fault_verdict-in-Err-Set-clause-looks :
    goal.returns-in_ok-fault_verdict-in-Err-Set-clause-looks
returns-in_ok-fault_verdict-in-Err-Set-clause-looks c =
    let base = plain_ground c.args.ground.now in
    let o = c.args.options in
    let b = c.args.self.now in
    let asked = reach (code_of base.program o).has c.args.event.now (live (code_of base.program o) (stand_of b)) in
    stops_at_fault (stand_of b) c.args.event.now asked c.in-Err-Set.number c.in-Err-Set.fault c.in_ok-fault_verdict-in-Err-Set.field-0
    (subst (λ (x : SelectFault). FaultAs asked x) c.in-Err-Set.field-0-is
    (reach_at_rest base o b c.budget.result c.args.event.now (Err c.in-Err-Set.field-0) c.requires c.budget.ensures.budget c.in-Err-Set.ensures.reached))
    (verdict_told (stand_of b) c.in_ok-fault_verdict-in-Err-Set.field-0 _ c.in-Err-Set.number _ c.in-Err-Set.fault c.in-Err-Set.number-is c.in-Err-Set.fault-is c.in_ok-fault_verdict-in-Err-Set.ensures)
