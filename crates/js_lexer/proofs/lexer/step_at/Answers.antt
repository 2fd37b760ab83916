use Rattle.js_lexer.proofs.Lexing.{step_found}
use Rattle.js_lexer.proofs.lexer.step_at.Goals as goal

pub returns : goal.returns
returns c = step_found c.args.text.now c.args.place c.front_at.result c.requires.place c.front_at.ensures
