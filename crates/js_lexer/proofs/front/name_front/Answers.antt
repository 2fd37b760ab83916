use Rattle.js_lexer.proofs.Ascii.{name_utf8}
use Rattle.js_lexer.proofs.front.name_front.Goals as goal

pub text_of-requires : goal.text_of-requires
text_of-requires c = rw c.name_extent-size.ensures.size (name_utf8 c.args.bytes.now)
