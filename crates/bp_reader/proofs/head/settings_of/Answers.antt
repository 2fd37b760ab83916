use Rattle.std.proofs.Common.{rules}
use Rattle.bp_reader.proofs.Cuts.{in_wait}
use Rattle.bp_reader.proofs.head.settings_of.Goals as goal

pub returns-in_err-wait-clause-failed : goal.returns-in_err-wait-clause-failed
returns-in_err-wait-clause-failed g c =
    λ e. in_wait c.args.input.now.left c.options_of.new.input.left c.wait_of.new.input.left c.args.version c.in_ok-options.options c.in_ok-options.ensures.gets (c.in_err-wait.ensures.failed (search rules))
