use Rattle.std.proofs.Common.{rules, Ok}
use Rattle.bp_reader.proofs.Cuts.{in_limits, in_injectors}
use Rattle.bp_reader.proofs.Headed.{injectors_refused, injectors_found}
use Rattle.bp_reader.proofs.head.options_of.Goals as goal

pub returns-in_err-budget-clause-failed : goal.returns-in_err-budget-clause-failed
returns-in_err-budget-clause-failed g c =
    λ e. in_limits c.args.input.now.left c.choice_of.new.input.left c.limits_of.new.input.left (c.in_ok-strategy.strategy, c.in_ok-strategy.seed) c.in_ok-strategy.ensures.gets (c.in_err-budget.ensures.failed (search rules))

pub returns-in_err-injectors-clause-gets : goal.returns-in_err-injectors-clause-gets
returns-in_err-injectors-clause-gets g c =
    injectors_refused c.args.input.now.left c.choice_of.new.input.left c.limits_of.new.input.left c.field_of.new.input.left
    (c.in_ok-strategy.strategy, c.in_ok-strategy.seed) (c.in_ok-budget.budget, c.in_ok-budget.steps) c.in_err-injectors.field-0.0 c.from_residual-in_err-injectors.result
    (c.in_ok-strategy.ensures.gets, c.in_ok-budget.ensures.gets) (rw c.from.ensures at c.in_err-injectors.ensures.gets) (search rules)

pub returns-in_err-injectors-clause-failed : goal.returns-in_err-injectors-clause-failed
returns-in_err-injectors-clause-failed g c =
    λ e. in_injectors c.args.input.now.left c.choice_of.new.input.left c.limits_of.new.input.left c.field_of.new.input.left (c.in_ok-strategy.strategy, c.in_ok-strategy.seed) (c.in_ok-budget.budget, c.in_ok-budget.steps)
    c.in_ok-strategy.ensures.gets c.in_ok-budget.ensures.gets (rw c.from.ensures at (c.in_err-injectors.ensures.failed (search rules)))

pub returns-in-Some-clause-gets : goal.returns-in-Some-clause-gets
returns-in-Some-clause-gets g c =
    injectors_found c.args.input.now.left c.choice_of.new.input.left c.limits_of.new.input.left c.field_of.new.input.left
    (c.in_ok-strategy.strategy, c.in_ok-strategy.seed) (c.in_ok-budget.budget, c.in_ok-budget.steps) c.in_ok-injectors.injectors (Ok c.in-Some.options)
    (c.in_ok-strategy.ensures.gets, c.in_ok-budget.ensures.gets) (rw c.from.ensures at c.in_ok-injectors.ensures.gets) (search rules)
