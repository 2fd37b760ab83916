use Rattle.std.proofs.Common.{rules}
use Rattle.bp_reader.proofs.Cuts.{in_body}
use Rattle.bp_reader.proofs.head.header_of.Goals as goal

pub returns-in_err-header-clause-failed : goal.returns-in_err-header-clause-failed
returns-in_err-header-clause-failed g c =
    λ e. in_body c.args.input.now.left c.version_of.new.input.left c.body_of.new.input.left c.in_ok-version.version c.in_ok-version.ensures.gets (c.in_err-header.ensures.failed (search rules))
