use Rattle.std.proofs.Common.{subst, ◌∙◌, List, ℕ}
use Rattle.js_lexer.specs.inner.Found.{IsFound}
use Rattle.js_lexer.specs.Front.{quoted}
use Rattle.js_lexer.specs.Literals.{literal}
use Rattle.js_lexer.proofs.Ascii.{behind_quote}
use Rattle.js_lexer.proofs.front.quoted_front.Goals as goal

pub returns : goal.returns
returns c =
    let behind = c.split_at.ensures.back ∙ behind_quote c.args.text.now c.args.behind.now c.args.place c.args.quote c.requires.place in
    subst (λ (bs : List ℕ). IsFound (quoted (literal c.args.quote 0 bs)) c.literal_front.result) behind c.literal_front.ensures
