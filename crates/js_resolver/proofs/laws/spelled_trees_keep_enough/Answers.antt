use Rattle.js_resolver.proofs.Lone.{items_scoped}
use Rattle.js_resolver.proofs.laws.spelled_trees_keep_enough.Goals as goal

pub returns : goal.returns
returns c = λ ts items s. c.blocks_keep_enough.ensures.programs items (items_scoped s)
