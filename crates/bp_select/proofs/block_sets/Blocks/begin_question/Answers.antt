use Rattle.std.proofs.Common.{List, ap, sym, subst}
use Rattle.bp_known.specs.declared.known.Told.{Told}
use Rattle.bp_known.specs.Known.{AreKnown}
use Rattle.bp_select.specs.inner.BlockSets.{PlainBlocks}
use Rattle.bp_select.proofs.block_sets.Blocks.begin_question.Goals as goal

pub returns-clause-known : goal.returns-clause-known
returns-clause-known c = λ base budget sets k.
    subst (λ (ts : List Told). AreKnown base budget sets ts) (sym (ap (λ (b : PlainBlocks). b.told) c.self-2.view_is)) (c.forget_beyond.ensures.known base budget sets k)
