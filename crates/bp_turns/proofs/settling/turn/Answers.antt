use Rattle.std.proofs.Common.{arith}
use Rattle.bp_arbiter.specs.Arbiters.{options_in}
use Rattle.bp_turns.proofs.Arbiters.{turn_records, budget_of, carried_at, can_run_here}
use Rattle.js_frames.specs.Places.{plain_ground}
use Rattle.bp_turns.proofs.Carriers.{are_of, are_open, are_whole}
use Rattle.bp_turns.proofs.Turned.{turn_settles}
use Rattle.bp_turns.proofs.settling.turn.Goals as goal

pub carry_out-requires-clause-some_budget : goal.carry_out-requires-clause-some_budget
carry_out-requires-clause-some_budget g c =
    let some = (c.budget-budget.ensures.within).some_budget in
    let same = c.budget-budget.ensures.budget in
    omega (arith, some, same)

pub carry_out-requires-clause-program : goal.carry_out-requires-clause-program
carry_out-requires-clause-program g c =
    are_of (plain_ground c.ground.result.now) c.budget-budget.result c.in_ok-lent.lent.items
    (can_run_here _ _ _ c.budget-budget.result c.in_ok-lent.lent.items c.ground.ensures
    (budget_of c.options.result (options_in c.lend.new.self) c.args.arbiter.now.floor c.floor.result.now c.budget-budget.result c.budget-budget.ensures.budget c.options.ensures c.floor.ensures.floor c.lend.ensures.options)
    (c.in_ok-lent.ensures.lent).can_run)

pub carry_out-requires-clause-open : goal.carry_out-requires-clause-open
carry_out-requires-clause-open g c =
    are_open (plain_ground c.ground.result.now) c.budget-budget.result c.in_ok-lent.lent.items
    (can_run_here _ _ _ c.budget-budget.result c.in_ok-lent.lent.items c.ground.ensures
    (budget_of c.options.result (options_in c.lend.new.self) c.args.arbiter.now.floor c.floor.result.now c.budget-budget.result c.budget-budget.ensures.budget c.options.ensures c.floor.ensures.floor c.lend.ensures.options)
    (c.in_ok-lent.ensures.lent).can_run)

pub carry_out-requires-clause-whole : goal.carry_out-requires-clause-whole
carry_out-requires-clause-whole g c =
    are_whole (plain_ground c.ground.result.now) c.budget-budget.result c.in_ok-lent.lent.items
    (can_run_here _ _ _ c.budget-budget.result c.in_ok-lent.lent.items c.ground.ensures
    (budget_of c.options.result (options_in c.lend.new.self) c.args.arbiter.now.floor c.floor.result.now c.budget-budget.result c.budget-budget.ensures.budget c.options.ensures c.floor.ensures.floor c.lend.ensures.options)
    (c.in_ok-lent.ensures.lent).can_run)

pub seal-requires-clause-back : goal.seal-requires-clause-back
seal-requires-clause-back g c = λ _.
    let u = c.requires.stands in
    record {
      lent = c.in_ok-lent.lent.items;
      taken = u.taken;
      pair = u.pair;
      stands = c.in_ok-lent.ensures.stands u.taken u.pair u.stands;
      out = c.in_ok-lent.ensures.lent;
      carried = carried_at _ _ _ c.budget-budget.result c.in_ok-lent.lent.items c.in_ok-done.done.items c.ground.ensures
          (budget_of c.options.result (options_in c.lend.new.self) c.args.arbiter.now.floor c.floor.result.now c.budget-budget.result c.budget-budget.ensures.budget c.options.ensures c.floor.ensures.floor c.lend.ensures.options)
          c.in_ok-done.ensures;
    }

pub returns-clause-settles : goal.returns-clause-settles
returns-clause-settles g c =
    let l = c.lend.ensures in
    let s = c.seal.ensures in
    turn_settles c.seal.result c.args.arbiter.now c.lend.new.self c.seal.new.self c.in_ok-lent.lent.items c.in_ok-done.done.items
    c.requires.ready c.requires.stands c.in_ok-lent.ensures.stands l.records l.ground l.options
    (carried_at _ _ _ c.budget-budget.result c.in_ok-lent.lent.items c.in_ok-done.done.items c.ground.ensures
    (budget_of c.options.result (options_in c.lend.new.self) c.args.arbiter.now.floor c.floor.result.now c.budget-budget.result c.budget-budget.ensures.budget c.options.ensures c.floor.ensures.floor l.options)
    c.in_ok-done.ensures)
    s.stands s.phase s.recorded s.program s.options

pub returns-clause-records : goal.returns-clause-records
returns-clause-records g c = turn_records c.seal.result c.args.arbiter.now c.lend.new.self c.seal.new.self c.lend.ensures.records c.seal.ensures.recorded
