use Rattle.js_program.specs.Views.{plain_content}
use Rattle.js_resolver.proofs.Bodies.{body_made}
use Rattle.js_resolver.proofs.name_tables.NameTables.body.Goals as goal

pub returns : goal.returns
returns c =
    let r = c.in_ok-room.room in
    body_made c.args.self.now c.args.function c.args.parameters r.parameters r.slots r.captures.items r.vars.items (plain_content c.args.content) c.args.line c.in_ok-room.ensures.parameters c.in_ok-room.ensures.slots c.in_ok-room.ensures.captures c.in_ok-room.ensures.vars
