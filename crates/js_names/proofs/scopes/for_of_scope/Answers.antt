use Rattle.std.proofs.Common.{false, ◌∷◌, []}
use Rattle.js_tree.specs.Views.{plain_stmt}
use Rattle.js_names.specs.Entries.{entry, vars_of}
use Rattle.js_names.specs.Scopes.{for_of_scope, for_of_role}
use Rattle.js_names.proofs.Making.{inner_made}
use Rattle.js_names.proofs.scopes.for_of_scope.Goals as goal

pub returns : goal.returns
unfolding for_of_scope
returns c =
    let o = c.args.owner in
    let n = c.args.name.now in
    inner_made c.new.result c.declare_for_of.new.own c.new-2.result c.declare_stmt_vars.new.map (entry n (for_of_role c.args.kind) n.spot.at o false 0 ∷ []) (vars_of o false (plain_stmt c.args.body.now)) o
    c.new.ensures.empty c.new-2.ensures.empty c.in_ok-declare_for_of.ensures c.in_ok-declare_stmt_vars.ensures
