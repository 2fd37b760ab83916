use Rattle.std.proofs.Common.{◌≡◌, ◌<◌, ◌∙◌, arith, ℕ, All, length, sym, ap, subst}
use Rattle.std.proofs.lemmas.Result.{err_from_is_err_and}
use Rattle.js_meaning.specs.State.{Ground}
use Rattle.js_frames.specs.Places.{plain_ground}
use Rattle.bp_thread.specs.Jobs.{IsWhole}
use Rattle.bp_pool.specs.Carrying.{AreOf}
use Rattle.bp_steps.specs.declared.step.CoreStep.TheVariants.{Seal}
use Rattle.bp_floor.specs.declared.phase.Phase.TheVariants.{Lent}
use Rattle.bp_arbiter.specs.Arbiters.{PlainArbiter, options_in, stand_in}
use Rattle.bp_core.specs.Cores.{AreDone, Makes, Cuts}
use Rattle.bp_core.proofs.Merges.{carried_all, outcomes_all}
use Rattle.bp_turns.specs.Settled.{SettlesCore, CutsTurns}
use Rattle.bp_turns.proofs.Arbiters.{budget_of, carried_at}
use Rattle.bp_turns.proofs.Settled.{came_back, back_somewhere, turn_settles_core, turn_cut, turn_kept, turn_grows, out_cut, same_program, ok_map, err_map}
use Rattle.bp_turns.proofs.cores.turn_core.Goals as goal

pub carry_out-requires-clause-some_budget : goal.carry_out-requires-clause-some_budget
carry_out-requires-clause-some_budget g c =
    let some = (c.budget-budget.ensures.within).some_budget in
    let same = c.budget-budget.ensures.budget in
    omega (arith, some, same)

pub carry_out-requires-clause-program : goal.carry_out-requires-clause-program
carry_out-requires-clause-program g c =
    let can = c.hand_out-lent.ensures.can_run c.requires.somewhere.taken c.requires.somewhere.moment (c.requires.somewhere.here).at in
    subst (λ (b : Ground). AreOf b c.hand_out-lent.result.items) (sym (c.ground.ensures ∙ ap (λ (a : PlainArbiter). a.floor.base) (c.arbiter-2.ensures ∙ c.hand_out-lent.ensures.arbiter))) can.of_program

pub carry_out-requires-clause-open : goal.carry_out-requires-clause-open
carry_out-requires-clause-open g c =
    let can = c.hand_out-lent.ensures.can_run c.requires.somewhere.taken c.requires.somewhere.moment (c.requires.somewhere.here).at in
    can.open_still (c.requires.somewhere.here).unbegun

pub carry_out-requires-clause-whole : goal.carry_out-requires-clause-whole
carry_out-requires-clause-whole g c =
    let can = c.hand_out-lent.ensures.can_run c.requires.somewhere.taken c.requires.somewhere.moment (c.requires.somewhere.here).at in
    subst (λ (b : Ground). All (IsWhole b c.budget-budget.result) c.hand_out-lent.result.items) (sym (c.ground.ensures ∙ ap (λ (a : PlainArbiter). a.floor.base) (c.arbiter-2.ensures ∙ c.hand_out-lent.ensures.arbiter)))
    (subst (λ (n : ℕ). All (IsWhole c.args.core.now.arbiter.floor.base n) c.hand_out-lent.result.items)
    (sym (budget_of c.options.result (options_in c.args.core.now.arbiter) c.arbiter.result.now.floor c.floor.result.now c.budget-budget.result c.budget-budget.ensures.budget c.options.ensures c.floor.ensures.floor (ap (λ (a : PlainArbiter). a.floor.options) (sym c.arbiter.ensures)))) can.whole)

pub carry_out-requires-clause-distinct : goal.carry_out-requires-clause-distinct
carry_out-requires-clause-distinct g c =
    let can = c.hand_out-lent.ensures.can_run c.requires.somewhere.taken c.requires.somewhere.moment (c.requires.somewhere.here).at in
    can.distinct

pub seal-requires-clause-lent : goal.seal-requires-clause-lent
seal-requires-clause-lent g c = ap (λ (a : PlainArbiter). a.phase) (c.hand_in.ensures.arbiter ∙ c.hand_out-lent.ensures.arbiter) ∙ c.requires.lent

pub seal-requires-clause-done : goal.seal-requires-clause-done
seal-requires-clause-done g c =
    subst AreDone (sym c.hand_in.ensures.jobs) (outcomes_all (plain_ground c.ground.result.now) c.budget-budget.result c.hand_out-lent.result.items c.in_ok-done.done.items c.in_ok-done.ensures)

pub seal-requires-clause-somewhere : goal.seal-requires-clause-somewhere
seal-requires-clause-somewhere g c = λ _.
    back_somewhere c.args.core.now c.hand_in.new.self
    (came_back c.args.core.now c.hand_out-lent.new.self c.hand_in.new.self c.hand_out-lent.result.items c.in_ok-done.done.items c.hand_out-lent.ensures.arbiter c.hand_out-lent.ensures.broken c.hand_out-lent.ensures.jobs
    c.hand_in.ensures.at c.hand_in.ensures.arbiter
    (carried_all c.hand_out-lent.new.self.arbiter.floor.base (options_in c.hand_out-lent.new.self.arbiter).budget c.hand_out-lent.result.items c.in_ok-done.done.items
    (carried_at c.hand_out-lent.new.self.arbiter.floor.base (plain_ground c.ground.result.now) (options_in c.hand_out-lent.new.self.arbiter).budget c.budget-budget.result c.hand_out-lent.result.items c.in_ok-done.done.items
    (c.ground.ensures ∙ ap (λ (a : PlainArbiter). a.floor.base) c.arbiter-2.ensures)
    ((budget_of c.options.result (options_in c.args.core.now.arbiter) c.arbiter.result.now.floor c.floor.result.now c.budget-budget.result c.budget-budget.ensures.budget c.options.ensures c.floor.ensures.floor (ap (λ (a : PlainArbiter). a.floor.options) (sym c.arbiter.ensures))) ∙ ap (λ (a : PlainArbiter). (options_in a).budget) (sym c.hand_out-lent.ensures.arbiter))
    c.in_ok-done.ensures)))
    c.requires.somewhere

pub returns-in_err-done-clause-cut : goal.returns-in_err-done-clause-cut
returns-in_err-done-clause-cut g c =
    let p = err_from_is_err_and c.from_residual.result c.from_residual.ensures.1 in
    rw p.1 (out_cut c.args.core.now c.hand_out-lent.new.self c.hand_out-lent.ensures.arbiter)

pub returns-in_err-done-clause-kept : goal.returns-in_err-done-clause-kept
returns-in_err-done-clause-kept g c = same_program c.args.core.now.arbiter c.hand_out-lent.new.self.arbiter c.hand_out-lent.ensures.arbiter

pub returns-clause-settles : goal.returns-clause-settles
returns-clause-settles g c =
    ok_map c.seal.result (Makes c.hand_in.new.self c.seal.new.self Seal) (SettlesCore c.args.core.now c.seal.new.self)
    (λ h. turn_settles_core c.args.core.now c.hand_in.new.self c.seal.new.self
    (came_back c.args.core.now c.hand_out-lent.new.self c.hand_in.new.self c.hand_out-lent.result.items c.in_ok-done.done.items c.hand_out-lent.ensures.arbiter c.hand_out-lent.ensures.broken c.hand_out-lent.ensures.jobs
    c.hand_in.ensures.at c.hand_in.ensures.arbiter
    (carried_all c.hand_out-lent.new.self.arbiter.floor.base (options_in c.hand_out-lent.new.self.arbiter).budget c.hand_out-lent.result.items c.in_ok-done.done.items
    (carried_at c.hand_out-lent.new.self.arbiter.floor.base (plain_ground c.ground.result.now) (options_in c.hand_out-lent.new.self.arbiter).budget c.budget-budget.result c.hand_out-lent.result.items c.in_ok-done.done.items
    (c.ground.ensures ∙ ap (λ (a : PlainArbiter). a.floor.base) c.arbiter-2.ensures)
    ((budget_of c.options.result (options_in c.args.core.now.arbiter) c.arbiter.result.now.floor c.floor.result.now c.budget-budget.result c.budget-budget.ensures.budget c.options.ensures c.floor.ensures.floor (ap (λ (a : PlainArbiter). a.floor.options) (sym c.arbiter.ensures))) ∙ ap (λ (a : PlainArbiter). (options_in a).budget) (sym c.hand_out-lent.ensures.arbiter))
    c.in_ok-done.ensures)))
    c.seal.ensures.kept h) c.seal.ensures.leads

pub returns-clause-cut : goal.returns-clause-cut
returns-clause-cut g c =
    err_map c.seal.result (Cuts c.hand_in.new.self c.seal.new.self Seal) (CutsTurns c.args.core.now c.seal.new.self)
    (λ h. turn_cut c.args.core.now c.hand_in.new.self c.seal.new.self
    (came_back c.args.core.now c.hand_out-lent.new.self c.hand_in.new.self c.hand_out-lent.result.items c.in_ok-done.done.items c.hand_out-lent.ensures.arbiter c.hand_out-lent.ensures.broken c.hand_out-lent.ensures.jobs
    c.hand_in.ensures.at c.hand_in.ensures.arbiter
    (carried_all c.hand_out-lent.new.self.arbiter.floor.base (options_in c.hand_out-lent.new.self.arbiter).budget c.hand_out-lent.result.items c.in_ok-done.done.items
    (carried_at c.hand_out-lent.new.self.arbiter.floor.base (plain_ground c.ground.result.now) (options_in c.hand_out-lent.new.self.arbiter).budget c.budget-budget.result c.hand_out-lent.result.items c.in_ok-done.done.items
    (c.ground.ensures ∙ ap (λ (a : PlainArbiter). a.floor.base) c.arbiter-2.ensures)
    ((budget_of c.options.result (options_in c.args.core.now.arbiter) c.arbiter.result.now.floor c.floor.result.now c.budget-budget.result c.budget-budget.ensures.budget c.options.ensures c.floor.ensures.floor (ap (λ (a : PlainArbiter). a.floor.options) (sym c.arbiter.ensures))) ∙ ap (λ (a : PlainArbiter). (options_in a).budget) (sym c.hand_out-lent.ensures.arbiter))
    c.in_ok-done.ensures)))
    c.seal.ensures.kept h) c.seal.ensures.cut

pub returns-clause-grows : goal.returns-clause-grows
returns-clause-grows g c =
    ok_map c.seal.result (c.seal.new.self.arbiter.phase ≡ Lent → length (stand_in c.hand_in.new.self.arbiter).threads < length (stand_in c.seal.new.self.arbiter).threads)
    (c.seal.new.self.arbiter.phase ≡ Lent → length (stand_in c.args.core.now.arbiter).threads < length (stand_in c.seal.new.self.arbiter).threads)
    (λ h. turn_grows c.args.core.now c.hand_in.new.self c.seal.new.self
    (came_back c.args.core.now c.hand_out-lent.new.self c.hand_in.new.self c.hand_out-lent.result.items c.in_ok-done.done.items c.hand_out-lent.ensures.arbiter c.hand_out-lent.ensures.broken c.hand_out-lent.ensures.jobs
    c.hand_in.ensures.at c.hand_in.ensures.arbiter
    (carried_all c.hand_out-lent.new.self.arbiter.floor.base (options_in c.hand_out-lent.new.self.arbiter).budget c.hand_out-lent.result.items c.in_ok-done.done.items
    (carried_at c.hand_out-lent.new.self.arbiter.floor.base (plain_ground c.ground.result.now) (options_in c.hand_out-lent.new.self.arbiter).budget c.budget-budget.result c.hand_out-lent.result.items c.in_ok-done.done.items
    (c.ground.ensures ∙ ap (λ (a : PlainArbiter). a.floor.base) c.arbiter-2.ensures)
    ((budget_of c.options.result (options_in c.args.core.now.arbiter) c.arbiter.result.now.floor c.floor.result.now c.budget-budget.result c.budget-budget.ensures.budget c.options.ensures c.floor.ensures.floor (ap (λ (a : PlainArbiter). a.floor.options) (sym c.arbiter.ensures))) ∙ ap (λ (a : PlainArbiter). (options_in a).budget) (sym c.hand_out-lent.ensures.arbiter))
    c.in_ok-done.ensures)))
    c.seal.ensures.kept h) c.seal.ensures.grows

pub returns-clause-kept : goal.returns-clause-kept
returns-clause-kept g c =
    turn_kept c.args.core.now c.hand_in.new.self c.seal.new.self
    (came_back c.args.core.now c.hand_out-lent.new.self c.hand_in.new.self c.hand_out-lent.result.items c.in_ok-done.done.items c.hand_out-lent.ensures.arbiter c.hand_out-lent.ensures.broken c.hand_out-lent.ensures.jobs
    c.hand_in.ensures.at c.hand_in.ensures.arbiter
    (carried_all c.hand_out-lent.new.self.arbiter.floor.base (options_in c.hand_out-lent.new.self.arbiter).budget c.hand_out-lent.result.items c.in_ok-done.done.items
    (carried_at c.hand_out-lent.new.self.arbiter.floor.base (plain_ground c.ground.result.now) (options_in c.hand_out-lent.new.self.arbiter).budget c.budget-budget.result c.hand_out-lent.result.items c.in_ok-done.done.items
    (c.ground.ensures ∙ ap (λ (a : PlainArbiter). a.floor.base) c.arbiter-2.ensures)
    ((budget_of c.options.result (options_in c.args.core.now.arbiter) c.arbiter.result.now.floor c.floor.result.now c.budget-budget.result c.budget-budget.ensures.budget c.options.ensures c.floor.ensures.floor (ap (λ (a : PlainArbiter). a.floor.options) (sym c.arbiter.ensures))) ∙ ap (λ (a : PlainArbiter). (options_in a).budget) (sym c.hand_out-lent.ensures.arbiter))
    c.in_ok-done.ensures)))
    c.seal.ensures.kept
