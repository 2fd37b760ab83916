use Rattle.js_tree.specs.Views.{plain_start, plain_stmt}
use Rattle.js_names.specs.Scopes.{for_three_scope}
use Rattle.js_names.proofs.Adding.{on_enters}
use Rattle.js_names.proofs.walk.enter_for.Goals as goal

pub returns : goal.returns
returns c =
    on_enters c.enter.result c.args.walk.now c.enter.new.walk c.in_ok-scope.scope (for_three_scope c.args.around.owner (plain_start c.args.start.now) (plain_stmt c.args.body.now)) c.in_ok-scope.ensures c.enter.ensures
