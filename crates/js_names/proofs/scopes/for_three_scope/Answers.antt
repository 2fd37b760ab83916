use Rattle.std.proofs.Common.{false, ◌++◌, Some}
use Rattle.js_names.specs.Taken.{keeps}
use Rattle.js_tree.specs.Views.{plain_stmt, plain_start}
use Rattle.js_names.specs.Entries.{own_of_start, vars_of_start, vars_of}
use Rattle.js_names.specs.Scopes.{for_three_scope}
use Rattle.js_names.proofs.Making.{inner_made}
use Rattle.js_names.proofs.Taking.{vars_both}
use Rattle.js_names.proofs.scopes.for_three_scope.Goals as goal

pub returns : goal.returns
unfolding for_three_scope
returns c =
    let o = c.args.owner in
    let b = plain_start c.args.start.now in
    let s = plain_stmt c.args.body.now in
    inner_made c.new.result c.declare_start_own.new.map c.new-2.result c.declare_stmt_vars.new.map (own_of_start o b) (vars_of_start o b ++ vars_of o false s) o
    c.new.ensures.empty c.new-2.ensures.empty c.in_ok-declare_start_own.ensures
    (vars_both (keeps (Some c.declare_start_own.new.map)) c.new-2.result c.declare_start_vars.new.map c.declare_stmt_vars.new.map (vars_of_start o b) (vars_of o false s) c.in_ok-declare_start_vars.ensures c.in_ok-declare_stmt_vars.ensures)
