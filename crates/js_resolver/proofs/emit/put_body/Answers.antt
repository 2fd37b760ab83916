use Rattle.std.proofs.Common.{length}
use Rattle.js_program.specs.Views.{plain_content}
use Rattle.js_resolver.specs.Variables.{body_of}
use Rattle.js_resolver.proofs.FunctionArms.{on_puts_body}
use Rattle.js_resolver.proofs.emit.put_body.Goals as goal

pub returns : goal.returns
returns c =
    on_puts_body c.put_function.result c.args.emitter.now c.put_function.new.emitter c.args.place c.in_ok-body.body (body_of c.args.tables.now c.args.spot.at (length c.args.names.now) (plain_content c.args.content) c.args.spot.line) c.in_ok-body.ensures
    c.put_function.ensures.nodes c.put_function.ensures.functions
