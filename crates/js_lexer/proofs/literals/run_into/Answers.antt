use Rattle.std.proofs.Common.{◌≡◌, ◌<◌, ◌++◌, arith, take, string_bytes}
use Rattle.js_lexer.specs.Literals.{plain_size}
use Rattle.js_lexer.proofs.Runs.{read_run}
use Rattle.js_lexer.proofs.literals.run_into.Goals as goal

pub returns : goal.returns
returns c =
    let size : c.plain_front-n.result ≡ plain_size c.args.quote c.args.rest.now = grind arith in
    let some : 0 < c.plain_front-n.result = grind arith in
    let content : string_bytes c.push_str.new.self ≡ string_bytes c.args.content.now ++ take c.plain_front-n.result c.args.rest.now = grind arith in
    read_run _ _ _ _ _ c.requires.quote size some content
