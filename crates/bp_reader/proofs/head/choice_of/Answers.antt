use Rattle.std.proofs.Common.{rules}
use Rattle.bp_reader.proofs.Cuts.{in_seed}
use Rattle.bp_reader.proofs.head.choice_of.Goals as goal

pub returns-in_err-seed-clause-failed : goal.returns-in_err-seed-clause-failed
returns-in_err-seed-clause-failed g c =
    λ e. in_seed c.args.input.now.left c.strategy_of.new.input.left c.field_of.new.input.left c.in_ok-strategy.strategy c.in_ok-strategy.ensures.gets (c.in_err-seed.ensures.failed (search rules))
