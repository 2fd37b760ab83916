use Rattle.js_resolver.proofs.FunctionArms.{statement_item, function_item}
use Rattle.js_resolver.proofs.emit.emit_item.Goals as goal

pub returns-in_ok-push-in-Statement : goal.returns-in_ok-push-in-Statement
returns-in_ok-push-in-Statement c =
    statement_item c.args.tables.now c.args.emitter.now c.emit_stmt.new.emitter c.args.item.now _ c.in-Statement.stmt c.args.numbers.now.items c.push.new.self.items c.in_ok-number-in-Statement.number c.in-Statement.is c.in_ok-number-in-Statement.ensures c.in_ok-push-in-Statement.ensures.items

pub returns-in-Function : goal.returns-in-Function
returns-in-Function c =
    function_item c.emit_body.result c.args.tables.now c.args.emitter.now c.emit_body.new.emitter c.args.item.now c.in-Function.spot c.in-Function.field-1 c.in-Function.names c.in-Function.body c.deref.result.now c.deref-in-Function.result.now c.args.numbers.now.items c.in-Function.is c.deref.ensures.value c.deref-in-Function.ensures.value c.emit_body.ensures
