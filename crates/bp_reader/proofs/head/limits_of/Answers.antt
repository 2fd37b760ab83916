use Rattle.std.proofs.Common.{rules}
use Rattle.bp_reader.proofs.Cuts.{in_steps}
use Rattle.bp_reader.proofs.head.limits_of.Goals as goal

pub returns-in_err-steps-clause-failed : goal.returns-in_err-steps-clause-failed
returns-in_err-steps-clause-failed g c =
    λ e. in_steps c.args.input.now.left c.field_of.new.input.left c.field_of-2.new.input.left c.in_ok-budget.budget c.in_ok-budget.ensures.gets (rw c.from.ensures at (c.in_err-steps.ensures.failed (search rules)))
