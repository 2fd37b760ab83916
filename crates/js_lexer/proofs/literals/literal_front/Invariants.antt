use Rattle.std.proofs.Common.{◌≡◌, ◌+◌, length}
use Rattle.std.specs.String.{string_bytes}
use denote.Shadow.{shadow}
use denote.Text.{Utf8}
use Rattle.js_lexer.specs.Literals.{behind, literal}
use Rattle.js_lexer.proofs.literals.literal_front.Given as goal

abbrev pub invariant-more : goal.invariant-more
invariant-more l = record {
  same : literal l.quote 0 l.text ≡ behind (string_bytes l.content) l.size (literal l.quote 0 l.rest);
  room : l.size + length l.rest ≡ length l.text;
  utf8 : shadow (Utf8 l.rest);
}

abbrev pub decreases-more : goal.decreases-more
decreases-more l = length l.rest
