use Rattle.std.proofs.Common.{◌≡◌, subst, List, ℕ, Some}
use Rattle.bp_tables.specs.Found.{front_in}
use Rattle.js_lexer.specs.declared.sort.Sort.{Sort}
use Rattle.js_lexer.proofs.Ascii.{mark_utf8}
use Rattle.js_lexer.proofs.front.mark_front.Goals as goal

pub text_of-requires : goal.text_of-requires
text_of-requires c =
    mark_utf8 c.args.bytes.now c.in-Some.field-0.size (subst (λ (es : List (List ℕ × Sort)). front_in es c.args.bytes.now ≡ Some c.in-Some.field-0.size) c.requires c.in-Some.ensures.size)
