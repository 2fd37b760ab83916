use Rattle.std.proofs.Common.{◌∙◌, ap, sym, true, map, ◌++◌}
use Rattle.std.specs.List.{flat_map}
use Rattle.js_tree.specs.Plain.{stmts_of}
use Rattle.js_tree.specs.Views.{plain_stmt}
use Rattle.js_names.specs.Entries.{vars_of_all}
use Rattle.js_names.specs.Scopes.{function_scope, scope_with, parameters, one_var, named}
use Rattle.js_names.specs.Taken.{in_map, own_of_stmt, vars_of_stmt}
use Rattle.js_names.proofs.Making.{scope_made, in_map_is}
use Rattle.js_names.proofs.Taking.{own_both, own_of_stmts, vars_of_stmts}
use Rattle.js_names.proofs.scopes.function_scope.Goals as goal

pub returns : goal.returns
unfolding function_scope
returns c =
    let o = c.args.owner in
    let ss = c.args.body.now in
    let ns = c.args.names.now in
    let vs = flat_map (vars_of_stmt o true) ss in
    let os = flat_map (own_of_stmt o true) ss in
    let vars = c.declare_list_vars.new.map in
    scope_made c.new.result c.declare_own_stmts.new.map c.new-2.result vars (parameters o (in_map vars) ns ++ os) vs true o
    c.new.ensures.empty c.new-2.ensures.empty
    (own_both c.new.result c.declare_parameters.new.own c.declare_own_stmts.new.map (parameters o (in_map vars) ns) os c.in_ok-declare_parameters.ensures c.in_ok-declare_own_stmts.ensures)
    c.in_ok-declare_list_vars.ensures
    ∙ (ap (λ f. scope_with (parameters o f ns ++ os) vs true o) (in_map_is c.new-2.result vars vs c.new-2.ensures.empty c.in_ok-declare_list_vars.ensures)
    ∙ sym (ap (λ xs. scope_with (parameters o (λ q. one_var (named q (vars_of_all o true (stmts_of (map plain_stmt ss))))) ns ++ xs) (vars_of_all o true (stmts_of (map plain_stmt ss))) true o) (own_of_stmts o true ss)
    ∙ ap (λ ys. scope_with (parameters o (λ q. one_var (named q ys)) ns ++ os) ys true o) (vars_of_stmts o true ss)))
