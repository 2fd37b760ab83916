use Rattle.std.proofs.Common.{◌∙◌, ap, sym, arith}
use Rattle.bp_log.specs.Options.{PlainOptions}
use Rattle.js_frames.specs.Places.{plain_ground}
use Rattle.bp_turns.proofs.Carriers.{are_of, are_open, are_whole}
use Rattle.bp_turns.proofs.Arbiters.{can_run_here, carried_at}
use Rattle.test_arbiter.proofs.Turning.{IsOut, out, back, goes_on}
use Rattle.test_arbiter.proofs.floors.turn.Goals as goal

pub carry_all-requires-clause-some_budget : goal.carry_all-requires-clause-some_budget
carry_all-requires-clause-some_budget c =
    let some = (c.budget-budget.ensures.within).some_budget in
    let same = c.budget-budget.ensures.budget in
    omega (arith, some, same)

pub carry_all-requires-clause-program : goal.carry_all-requires-clause-program
carry_all-requires-clause-program c =
    let f = c.args.floor.now in
    let g = c.lend.new.self in
    let jobs = c.in_ok-jobs.jobs.items in
    let goes = c.requires.goes in
    let e = c.in_ok-jobs.ensures in
    let i : IsOut f g jobs = record { goes = goes; phased = c.keeps.ensures goes.whole; ready = c.requires.ready; lent = e.lent; filled = e.filled; stands = e.stands; phase = e.phase; whole = (e.memory).after; base = c.lend.ensures.ground; options = c.lend.ensures.options } in
    are_of (plain_ground c.ground.result.now) c.budget-budget.result jobs
    (can_run_here g.base _ g.options.budget c.budget-budget.result jobs c.ground.ensures
    (c.budget-budget.ensures.budget ∙ ap (λ (o : PlainOptions). o.budget) (c.options.ensures ∙ sym c.lend.ensures.options)) (out f g jobs i).can_run)

pub carry_all-requires-clause-open : goal.carry_all-requires-clause-open
carry_all-requires-clause-open c =
    let f = c.args.floor.now in
    let g = c.lend.new.self in
    let jobs = c.in_ok-jobs.jobs.items in
    let goes = c.requires.goes in
    let e = c.in_ok-jobs.ensures in
    let i : IsOut f g jobs = record { goes = goes; phased = c.keeps.ensures goes.whole; ready = c.requires.ready; lent = e.lent; filled = e.filled; stands = e.stands; phase = e.phase; whole = (e.memory).after; base = c.lend.ensures.ground; options = c.lend.ensures.options } in
    are_open (plain_ground c.ground.result.now) c.budget-budget.result jobs
    (can_run_here g.base _ g.options.budget c.budget-budget.result jobs c.ground.ensures
    (c.budget-budget.ensures.budget ∙ ap (λ (o : PlainOptions). o.budget) (c.options.ensures ∙ sym c.lend.ensures.options)) (out f g jobs i).can_run)

pub carry_all-requires-clause-whole : goal.carry_all-requires-clause-whole
carry_all-requires-clause-whole c =
    let f = c.args.floor.now in
    let g = c.lend.new.self in
    let jobs = c.in_ok-jobs.jobs.items in
    let goes = c.requires.goes in
    let e = c.in_ok-jobs.ensures in
    let i : IsOut f g jobs = record { goes = goes; phased = c.keeps.ensures goes.whole; ready = c.requires.ready; lent = e.lent; filled = e.filled; stands = e.stands; phase = e.phase; whole = (e.memory).after; base = c.lend.ensures.ground; options = c.lend.ensures.options } in
    are_whole (plain_ground c.ground.result.now) c.budget-budget.result jobs
    (can_run_here g.base _ g.options.budget c.budget-budget.result jobs c.ground.ensures
    (c.budget-budget.ensures.budget ∙ ap (λ (o : PlainOptions). o.budget) (c.options.ensures ∙ sym c.lend.ensures.options)) (out f g jobs i).can_run)

pub seal-requires-clause-back : goal.seal-requires-clause-back
seal-requires-clause-back c = λ _.
    let f = c.args.floor.now in
    let g = c.lend.new.self in
    let jobs = c.in_ok-jobs.jobs.items in
    let goes = c.requires.goes in
    let e = c.in_ok-jobs.ensures in
    let i : IsOut f g jobs = record { goes = goes; phased = c.keeps.ensures goes.whole; ready = c.requires.ready; lent = e.lent; filled = e.filled; stands = e.stands; phase = e.phase; whole = (e.memory).after; base = c.lend.ensures.ground; options = c.lend.ensures.options } in
    back f g jobs i c.carry_all.new.jobs.items
    (carried_at g.base _ g.options.budget c.budget-budget.result jobs c.carry_all.new.jobs.items c.ground.ensures
    (c.budget-budget.ensures.budget ∙ ap (λ (o : PlainOptions). o.budget) (c.options.ensures ∙ sym c.lend.ensures.options)) c.in_ok-carry_all.ensures)

pub returns : goal.returns
returns c =
    let f = c.args.floor.now in
    let g = c.lend.new.self in
    let jobs = c.in_ok-jobs.jobs.items in
    let goes = c.requires.goes in
    let e = c.in_ok-jobs.ensures in
    let i : IsOut f g jobs = record { goes = goes; phased = c.keeps.ensures goes.whole; ready = c.requires.ready; lent = e.lent; filled = e.filled; stands = e.stands; phase = e.phase; whole = (e.memory).after; base = c.lend.ensures.ground; options = c.lend.ensures.options } in
    goes_on f g jobs i c.carry_all.new.jobs.items
    (carried_at g.base _ g.options.budget c.budget-budget.result jobs c.carry_all.new.jobs.items c.ground.ensures
    (c.budget-budget.ensures.budget ∙ ap (λ (o : PlainOptions). o.budget) (c.options.ensures ∙ sym c.lend.ensures.options)) c.in_ok-carry_all.ensures)
    c.seal.new.self c.in_ok-seal.ensures.stands c.seal.ensures.program c.seal.ensures.options (c.in_ok-seal.ensures.memory).after
