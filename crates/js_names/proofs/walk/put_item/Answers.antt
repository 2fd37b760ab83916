use Rattle.js_names.specs.inner.Walks.{scopes_in}
use Rattle.js_names.proofs.Adding.{adds_as}
use Rattle.js_names.proofs.Stmts.{statement_mentions, function_item_mentions}
use Rattle.js_names.proofs.walk.put_item.Goals as goal

pub returns-in-Statement : goal.returns-in-Statement
returns-in-Statement c =
    adds_as c.put_stmt.result c.args.walk.now c.put_stmt.new.walk _ _ (statement_mentions (scopes_in c.args.walk.now) c.in_function.result c.args.item.now _ c.in-Statement.stmt c.in-Statement.is c.in_function.ensures) c.put_stmt.ensures

pub returns-in-Function : goal.returns-in-Function
returns-in-Function c =
    adds_as c.put_declared.result c.args.walk.now c.put_declared.new.walk _ _
    (function_item_mentions (scopes_in c.args.walk.now) c.args.item.now c.in-Function.spot c.in-Function.name c.in-Function.names c.in-Function.body c.deref.result.now c.deref-in-Function.result.now c.in-Function.is c.deref.ensures.value c.deref-in-Function.ensures.value)
    c.put_declared.ensures
