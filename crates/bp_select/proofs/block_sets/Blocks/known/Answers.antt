use Rattle.std.proofs.Common.{ap}
use Rattle.bp_select.specs.inner.BlockSets.{PlainBlocks}
use Rattle.bp_known.proofs.Knowing.{known_here}
use Rattle.bp_select.proofs.block_sets.Blocks.known.Goals as goal

pub returns-in-Some : goal.returns-in-Some
returns-in-Some c = λ base budget sets k.
    known_here base budget sets c.args.self.now.told c.self.inside.told.items c.in-Some.at c.index.result.now c.args.event.now (ap (λ (b : PlainBlocks). b.told) c.self.view_is) c.in-Some.ensures.0 c.in-Some.ensures.1 c.index.ensures k
