use Rattle.bp_loading.proofs.Refused.{too_long}
use Rattle.bp_loading.proofs.loading.bytes_of.Goals as goal

pub returns-clause-too_long : goal.returns-clause-too_long
returns-clause-too_long g c =
    λ e. too_long _ c.args.name.now _ c.from.result c.in-Ok.ensures.content c.from.ensures (c.read_all-read.ensures.too_long e)
