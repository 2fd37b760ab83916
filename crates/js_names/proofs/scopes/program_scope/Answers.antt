use Rattle.std.proofs.Common.{◌∙◌, ap, true, map}
use Rattle.std.specs.List.{flat_map}
use Rattle.js_tree.specs.Views.{plain_item}
use Rattle.js_names.specs.Entries.{own_of_item, top}
use Rattle.js_names.specs.Scopes.{program_scope, scope_with}
use Rattle.js_names.specs.Taken.{own_of_tree_item, vars_of_tree_item}
use Rattle.js_names.proofs.Making.{scope_made, own_of_tree, vars_of_tree}
use Rattle.js_names.proofs.scopes.program_scope.Goals as goal

pub returns : goal.returns
unfolding program_scope
returns c =
    let is = c.args.tree.now.items.items in
    let xs = c.deref.result.now in
    let ys = c.deref-2.result.now in
    scope_made c.new.result c.own_of_items.new.own c.new-2.result c.vars_of_items.new.vars (flat_map own_of_tree_item xs) (flat_map vars_of_tree_item ys) true top
    c.new.ensures.empty c.new-2.ensures.empty c.in_ok-own_of_items.ensures c.in_ok-vars_of_items.ensures
    ∙ (ap (λ z. scope_with (flat_map own_of_tree_item z) (flat_map vars_of_tree_item ys) true top) c.deref.ensures.value
    ∙ (ap (λ z. scope_with (flat_map own_of_tree_item is) (flat_map vars_of_tree_item z) true top) c.deref-2.ensures.value
    ∙ (ap (λ z. scope_with z (flat_map vars_of_tree_item is) true top) (own_of_tree is)
    ∙ ap (λ z. scope_with (flat_map own_of_item (map plain_item is)) z true top) (vars_of_tree is))))
