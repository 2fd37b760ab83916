use Rattle.std.proofs.Common.{◌≡◌, ◌<◌, ◌∙◌, ℕ, length, ap, sym, subst, refl, IfOk, OnOk, Ok, None, Some}
use Rattle.std.proofs.lemmas.Result.{IfOk-weaker, on_ok_weaker}
use Rattle.bp_run.specs.Story.{Next}
use Rattle.bp_run.specs.Story.Next.{Ends}
use Rattle.bp_select.specs.declared.answers.Choice.{Choice}
use Rattle.bp_select.specs.declared.answers.SelectFault.{SelectFault}
use Rattle.bp_select.specs.Answers.{FaultAs, IsWithin, chosen_of}
use Rattle.bp_draw.specs.Draws.{PlainDraw}
use Rattle.bp_floor.specs.Floors.{PlainFloor}
use Rattle.bp_floor.proofs.TransitionLemmas.{verdict_for}
use Rattle.bp_floor.proofs.Lists.{found}
use Rattle.bp_arbiter.specs.declared.run.Run.{Run}
use Rattle.bp_arbiter.specs.Pick.{picked_of}
use Rattle.bp_arbiter.specs.Runs.{next_chosen_in, next_idle_in, HasCome}
use Rattle.bp_arbiter.proofs.Told.{no_verdict}
use Rattle.bp_arbiter.proofs.Comes.{IsChoosing, choice_in, can_go_on, queued_choice, fault_within, next_chosen_is, next_idle_is, next_faulty, come, chosen_goes, fault_told}
use Rattle.bp_arbiter.proofs.run.Run.pick.Goals as goal

pub select-requires-clause-can : goal.select-requires-clause-can
select-requires-clause-can c =
    can_go_on c.args.self.now c.choose.new.self c.in-Ok-Internal.event None c.choose.new.draw.drawn c.choose.ensures.same
    (c.in-Ok-Internal.ensures.chosen ∙ ap (λ (x : Choice). Ok (chosen_of c.args.self.now.floor.pair.stand.queue c.choose.new.draw.drawn x)) c.in-Ok-Internal.field-0-is)

pub select_queued-requires-clause-within : goal.select_queued-requires-clause-within
select_queued-requires-clause-within c =
    subst (λ (f : PlainFloor). c.in-Ok-External.place < length f.pair.stand.queue) (sym c.choose.ensures.same)
    (subst (λ (x : Choice). IsWithin (length c.args.self.now.floor.pair.stand.queue) x) c.in-Ok-External.field-0-is c.in-Ok-External.ensures.within)

pub select_queued-requires-clause-can : goal.select_queued-requires-clause-can
select_queued-requires-clause-can c =
    let r = c.args.self.now in
    let s : Run = record r { floor = c.choose.new.self; draw = c.choose.new.draw; records = c.reserve.new.self } in
    λ e h. can_go_on r s.floor e (Some c.in-Ok-External.place) s.draw.drawn c.choose.ensures.same
    (queued_choice r s.floor c.in-Ok-External.place s.draw.drawn e c.choose.ensures.same h
    (c.in-Ok-External.ensures.chosen ∙ ap (λ (x : Choice). Ok (chosen_of c.args.self.now.floor.pair.stand.queue c.choose.new.draw.drawn x)) c.in-Ok-External.field-0-is))

pub fault_verdict-requires : goal.fault_verdict-requires
fault_verdict-requires c =
    subst (λ (n : ℕ). n < length c.choose.new.self.pair.stand.threads) (sym c.in-Err-Set.number-is)
    (fault_within c.args.self.now c.choose.new.self c.in-Err-Set.number c.in-Err-Set.fault c.choose.ensures.same
    (subst (λ (x : SelectFault). FaultAs (choice_in c.args.self.now) x) c.in-Err-Set.field-0-is c.in-Err-Set.ensures.chosen))

pub returns-in-Ok-Internal-clause-picked : goal.returns-in-Ok-Internal-clause-picked
returns-in-Ok-Internal-clause-picked c =
    let r = c.args.self.now in
    let s : Run = record r { floor = c.choose.new.self; draw = c.choose.new.draw; records = c.reserve.new.self } in
    let none = no_verdict r.floor (c.keeps.ensures c.requires.whole) c.requires.rest in
    subst (λ (n : Next). IfOk c.select.result (λ k. k ≡ picked_of n))
    (sym (next_chosen_is r s c.in-Ok-Internal.event None none c.requires.seed c.choose.ensures.same (c.in-Ok-Internal.ensures.chosen ∙ ap (λ (x : Choice). Ok (chosen_of c.args.self.now.floor.pair.stand.queue c.choose.new.draw.drawn x)) c.in-Ok-Internal.field-0-is))) c.select.ensures.picked

pub returns-in-Ok-Internal-clause-comes : goal.returns-in-Ok-Internal-clause-comes
returns-in-Ok-Internal-clause-comes c =
    let r = c.args.self.now in
    let s : Run = record r { floor = c.choose.new.self; draw = c.choose.new.draw; records = c.reserve.new.self } in
    let none = no_verdict r.floor (c.keeps.ensures c.requires.whole) c.requires.rest in
    let choosing : IsChoosing r s = record { floor = c.choose.ensures.same; records = c.reserve.ensures.items; drawn = c.choose.ensures.drawn.0 } in
    let n = next_chosen_in s c.in-Ok-Internal.event None in
    subst (λ (n : Next). OnOk c.select.result (HasCome r n c.select.new.self))
    (sym (next_chosen_is r s c.in-Ok-Internal.event None none c.requires.seed c.choose.ensures.same (c.in-Ok-Internal.ensures.chosen ∙ ap (λ (x : Choice). Ok (chosen_of c.args.self.now.floor.pair.stand.queue c.choose.new.draw.drawn x)) c.in-Ok-Internal.field-0-is)))
    (on_ok_weaker c.select.result (come r s c.select.new.self n choosing (λ w. absurd (chosen_goes s c.in-Ok-Internal.event None w))) c.select.ensures.comes)

pub returns-in-Ok-External-clause-picked : goal.returns-in-Ok-External-clause-picked
returns-in-Ok-External-clause-picked c =
    let r = c.args.self.now in
    let s : Run = record r { floor = c.choose.new.self; draw = c.choose.new.draw; records = c.reserve.new.self } in
    let none = no_verdict r.floor (c.keeps.ensures c.requires.whole) c.requires.rest in
    let place = c.in-Ok-External.place in
    let chosen = c.in-Ok-External.ensures.chosen ∙ ap (λ (x : Choice). Ok (chosen_of r.floor.pair.stand.queue s.draw.drawn x)) c.in-Ok-External.field-0-is in
    let e = found s.floor.pair.stand.queue place
    (subst (λ (f : PlainFloor). place < length f.pair.stand.queue) (sym c.choose.ensures.same) (subst (λ (x : Choice). IsWithin (length r.floor.pair.stand.queue) x) c.in-Ok-External.field-0-is c.in-Ok-External.ensures.within)) in
    IfOk-weaker c.select_queued.result _ _
    (λ k h. h e.0 e.1 ∙ ap picked_of (sym (next_chosen_is r s e.0 (Some place) none c.requires.seed c.choose.ensures.same (queued_choice r s.floor place s.draw.drawn e.0 c.choose.ensures.same e.1 chosen))))
    c.select_queued.ensures.picked

pub returns-in-Ok-External-clause-comes : goal.returns-in-Ok-External-clause-comes
returns-in-Ok-External-clause-comes c =
    let r = c.args.self.now in
    let s : Run = record r { floor = c.choose.new.self; draw = c.choose.new.draw; records = c.reserve.new.self } in
    let none = no_verdict r.floor (c.keeps.ensures c.requires.whole) c.requires.rest in
    let choosing : IsChoosing r s = record { floor = c.choose.ensures.same; records = c.reserve.ensures.items; drawn = c.choose.ensures.drawn.0 } in
    let place = c.in-Ok-External.place in
    let chosen = c.in-Ok-External.ensures.chosen ∙ ap (λ (x : Choice). Ok (chosen_of r.floor.pair.stand.queue s.draw.drawn x)) c.in-Ok-External.field-0-is in
    let e = found s.floor.pair.stand.queue place
    (subst (λ (f : PlainFloor). place < length f.pair.stand.queue) (sym c.choose.ensures.same) (subst (λ (x : Choice). IsWithin (length r.floor.pair.stand.queue) x) c.in-Ok-External.field-0-is c.in-Ok-External.ensures.within)) in
    let n = next_chosen_in s e.0 (Some place) in
    on_ok_weaker c.select_queued.result
    (λ h.
    subst (λ (m : Next). HasCome r m c.select_queued.new.self)
    (sym (next_chosen_is r s e.0 (Some place) none c.requires.seed c.choose.ensures.same (queued_choice r s.floor place s.draw.drawn e.0 c.choose.ensures.same e.1 chosen)))
    (come r s c.select_queued.new.self n choosing (λ v. absurd (chosen_goes s e.0 (Some place) v)) (h e.0 e.1)))
    c.select_queued.ensures.comes

pub returns-in-Ok-Nothing-clause-picked : goal.returns-in-Ok-Nothing-clause-picked
returns-in-Ok-Nothing-clause-picked c =
    let r = c.args.self.now in
    let s : Run = record r { floor = c.choose.new.self; draw = c.choose.new.draw; records = c.reserve.new.self } in
    let none = no_verdict r.floor (c.keeps.ensures c.requires.whole) c.requires.rest in
    subst (λ (n : Next). IfOk c.idle.result (λ k. k ≡ picked_of n))
    (sym (next_idle_is r s none c.requires.seed c.choose.ensures.same refl refl (c.in-Ok-Nothing.ensures.chosen ∙ ap (λ (x : Choice). Ok (chosen_of c.args.self.now.floor.pair.stand.queue c.choose.new.draw.drawn x)) c.in-Ok-Nothing.field-0-is))) c.idle.ensures.picked

pub returns-in-Ok-Nothing-clause-comes : goal.returns-in-Ok-Nothing-clause-comes
returns-in-Ok-Nothing-clause-comes c =
    let r = c.args.self.now in
    let s : Run = record r { floor = c.choose.new.self; draw = c.choose.new.draw; records = c.reserve.new.self } in
    let none = no_verdict r.floor (c.keeps.ensures c.requires.whole) c.requires.rest in
    let choosing : IsChoosing r s = record { floor = c.choose.ensures.same; records = c.reserve.ensures.items; drawn = c.choose.ensures.drawn.0 } in
    let n = next_idle_in s in
    subst (λ (n : Next). OnOk c.idle.result (HasCome r n c.idle.new.self))
    (sym (next_idle_is r s none c.requires.seed c.choose.ensures.same refl refl (c.in-Ok-Nothing.ensures.chosen ∙ ap (λ (x : Choice). Ok (chosen_of c.args.self.now.floor.pair.stand.queue c.choose.new.draw.drawn x)) c.in-Ok-Nothing.field-0-is)))
    (on_ok_weaker c.idle.result (come r s c.idle.new.self n choosing (λ w. ap (λ (d : PlainDraw). d.drawn) (c.choose.ensures.nothing (c.in-Ok-Nothing.is ∙ ap (λ (x : Choice). Ok x) c.in-Ok-Nothing.field-0-is)))) c.idle.ensures.comes)

pub returns-in_ok-verdict-in-Err-Set-clause-picked : goal.returns-in_ok-verdict-in-Err-Set-clause-picked
returns-in_ok-verdict-in-Err-Set-clause-picked c =
    let r = c.args.self.now in
    let s : Run = record r { floor = c.choose.new.self; draw = c.choose.new.draw; records = c.reserve.new.self } in
    let none = no_verdict r.floor (c.keeps.ensures c.requires.whole) c.requires.rest in
    subst (λ (n : Next). IfOk c.end.result (λ k. k ≡ picked_of n))
    (sym (next_faulty r s.floor c.in-Err-Set.number c.in-Err-Set.fault c.in_ok-verdict-in-Err-Set.verdict none c.requires.seed c.choose.ensures.same
    (subst (λ (x : SelectFault). FaultAs (choice_in c.args.self.now) x) c.in-Err-Set.field-0-is c.in-Err-Set.ensures.chosen) (fault_told s.floor c.in_ok-verdict-in-Err-Set.verdict _ c.in-Err-Set.number _ c.in-Err-Set.fault c.in-Err-Set.number-is c.in-Err-Set.fault-is (verdict_for s.floor.pair.stand _ _ c.in_ok-verdict-in-Err-Set.verdict c.in_ok-verdict-in-Err-Set.ensures)))) c.end.ensures.over

pub returns-in_ok-verdict-in-Err-Set-clause-comes : goal.returns-in_ok-verdict-in-Err-Set-clause-comes
returns-in_ok-verdict-in-Err-Set-clause-comes c =
    let r = c.args.self.now in
    let s : Run = record r { floor = c.choose.new.self; draw = c.choose.new.draw; records = c.reserve.new.self } in
    let none = no_verdict r.floor (c.keeps.ensures c.requires.whole) c.requires.rest in
    let choosing : IsChoosing r s = record { floor = c.choose.ensures.same; records = c.reserve.ensures.items; drawn = c.choose.ensures.drawn.0 } in
    subst (λ (n : Next). OnOk c.end.result (HasCome r n c.end.new.self))
    (sym (next_faulty r s.floor c.in-Err-Set.number c.in-Err-Set.fault c.in_ok-verdict-in-Err-Set.verdict none c.requires.seed c.choose.ensures.same
    (subst (λ (x : SelectFault). FaultAs (choice_in c.args.self.now) x) c.in-Err-Set.field-0-is c.in-Err-Set.ensures.chosen) (fault_told s.floor c.in_ok-verdict-in-Err-Set.verdict _ c.in-Err-Set.number _ c.in-Err-Set.fault c.in-Err-Set.number-is c.in-Err-Set.fault-is (verdict_for s.floor.pair.stand _ _ c.in_ok-verdict-in-Err-Set.verdict c.in_ok-verdict-in-Err-Set.ensures))))
    (on_ok_weaker c.end.result (come r s c.end.new.self (Ends c.in_ok-verdict-in-Err-Set.verdict) choosing (λ w. absurd (cc))) c.end.ensures.ended)
