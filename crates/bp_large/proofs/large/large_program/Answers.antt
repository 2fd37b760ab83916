use Rattle.std.proofs.Common.{rules}
use Rattle.bp_large.proofs.Accepted.{never_refused}
use Rattle.bp_large.proofs.large.large_program.Goals as goal

pub unreachable-requires : goal.unreachable-requires
unreachable-requires c =
    never_refused c.args.count c.as_bytes.result.now c.in-Err-Refused.field-0-0 (search rules) c.ranges.count.fits
    (rw c.in-Err-Refused.field-0-is at c.in-Err-Refused.ensures.refused)
