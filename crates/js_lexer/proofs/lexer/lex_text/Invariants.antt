use Rattle.std.proofs.Common.{◌≡◌, ◌≤◌, ◌+◌, ◌-◌, length}
use Rattle.js_lexer.specs.Gaps.{line_of}
use Rattle.js_lexer.proofs.Cutting.{SoFar}
use Rattle.js_lexer.proofs.lexer.lex_text.Given as goal

abbrev pub invariant-more : goal.invariant-more
invariant-more l = record {
  so_far : SoFar l.text l.new_line l.place l.tokens.items;
  line : l.line ≡ line_of l.text l.place;
  few : l.line ≤ 1 + l.place;
  within : l.place ≤ length l.text;
}

abbrev pub decreases-more : goal.decreases-more
decreases-more l = length l.initial.text - l.place
