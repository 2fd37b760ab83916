use Rattle.bp_large.proofs.Accepted.{accepted}
use Rattle.bp_large.proofs.large.large_is_accepted.Goals as goal

pub returns : goal.returns
returns c = accepted c.args.count c.ranges.count.fits
