use Rattle.js_names.specs.Scopes.{list_scope}
use Rattle.js_names.proofs.Adding.{on_enters_each}
use Rattle.js_names.proofs.walk.enter_list.Goals as goal

pub returns : goal.returns
returns c =
    on_enters_each c.put_name.result c.args.walk.now c.enter.new.walk c.put_name.new.walk c.in_ok-scope.scope (list_scope c.args.around.owner c.args.kind c.args.name.now) c.args.around c.args.kind
    c.for_of_role.result c.args.name.now c.in_ok-scope.ensures c.in_ok-enter.ensures c.for_of_role.ensures c.put_name.ensures
