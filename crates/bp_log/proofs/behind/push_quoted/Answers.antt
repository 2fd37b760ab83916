use Rattle.std.proofs.Common.{rules}
use Rattle.std.specs.Prelude.{All}
use Rattle.bp_log.specs.inner.Plain.{StandsAsItIs}
use Rattle.bp_log.proofs.Plain.{quoted_plain}
use Rattle.bp_log.proofs.behind.push_quoted.Goals as goal

pub returns : goal.returns
returns c =
    let plain : All StandsAsItIs c.args.text.now = search rules in
    rw (quoted_plain c.args.text.now plain) (rw c.as_str-plain.ensures at c.push_between.ensures)
