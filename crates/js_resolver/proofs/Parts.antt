-- The program that parts are which are made from the mentions of a tree.
use Rattle.std.proofs.Common.{◌≡◌, List, ◌∙◌, ap, sym, Some, None}
use Rattle.js_tree.specs.Plain.{PlainItem}
use Rattle.js_program.specs.PlainProgram.{PlainProgram}
use Rattle.js_names.specs.Mentions.{Mention, mentions}
use Rattle.js_names.specs.Rules.{name_fault}
use Rattle.js_resolver.specs.Resolved.{program_from, program_of_tree, resolved, unless_fault}

-- from items and mentions that are those of the tree
pub tree_program : (items tree : List PlainItem) (ps : List Mention) → items ≡ tree → ps ≡ mentions tree → program_from items ps ≡ program_of_tree tree
unfolding program_of_tree
tree_program items tree ps e h = ap (λ z. program_from z ps) e ∙ ap (program_from tree) h

pub resolved_is : (tree : List PlainItem) (p : PlainProgram) → name_fault tree ≡ None → p ≡ program_of_tree tree → resolved tree ≡ Some p
unfolding resolved
resolved_is tree p e h = ap (λ o. unless_fault o (program_of_tree tree)) e ∙ ap Some (sym h)
