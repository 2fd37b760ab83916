use Rattle.js_grammar.proofs.Unique.{tree_once}
use Rattle.js_grammar.proofs.laws.one_tree.Goals as goal

pub returns : goal.returns
returns c = tree_once
