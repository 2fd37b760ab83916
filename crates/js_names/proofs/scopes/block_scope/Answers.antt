use Rattle.std.proofs.Common.{◌∙◌, ap, sym, false, map}
use Rattle.js_tree.specs.Plain.{stmts_of}
use Rattle.js_tree.specs.Views.{plain_stmt}
use Rattle.std.specs.List.{flat_map}
use Rattle.js_names.specs.Entries.{vars_of_all}
use Rattle.js_names.specs.Scopes.{block_scope, inner_scope}
use Rattle.js_names.specs.Taken.{own_of_stmt, vars_of_stmt}
use Rattle.js_names.proofs.Making.{inner_made}
use Rattle.js_names.proofs.Taking.{own_of_stmts, vars_of_stmts}
use Rattle.js_names.proofs.scopes.block_scope.Goals as goal

pub returns : goal.returns
unfolding block_scope
returns c =
    let o = c.args.owner in
    let ss = c.args.body.now in
    inner_made c.new.result c.declare_own_stmts.new.map c.new-2.result c.declare_list_vars.new.map (flat_map (own_of_stmt o false) ss) (flat_map (vars_of_stmt o false) ss) o
    c.new.ensures.empty c.new-2.ensures.empty c.in_ok-declare_own_stmts.ensures c.in_ok-declare_list_vars.ensures
    ∙ sym (ap (λ xs. inner_scope xs (vars_of_all o false (stmts_of (map plain_stmt ss))) o) (own_of_stmts o false ss)
    ∙ ap (λ ys. inner_scope (flat_map (own_of_stmt o false) ss) ys o) (vars_of_stmts o false ss))
