use Rattle.std.proofs.Common.{false, ◌∷◌, []}
use Rattle.js_names.specs.Entries.{entry, top}
use Rattle.js_names.specs.Scopes.{list_scope, for_of_role}
use Rattle.js_names.proofs.Making.{scope_made, takes_none}
use Rattle.js_names.proofs.scopes.list_scope.Goals as goal

pub returns : goal.returns
unfolding list_scope
returns c =
    let o = c.args.owner in
    let n = c.args.name.now in
    scope_made c.new.result c.declare_for_of.new.own c.new-2.result c.new-2.result (entry n (for_of_role c.args.kind) top o false 0 ∷ []) [] false o
    c.new.ensures.empty c.new-2.ensures.empty c.in_ok-declare_for_of.ensures (takes_none c.new-2.result)
