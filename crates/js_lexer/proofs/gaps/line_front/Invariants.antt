use Rattle.std.proofs.Common.{◌≡◌, ◌+◌, length}
use Rattle.js_lexer.specs.Gaps.{size_of_line}
use Rattle.js_lexer.proofs.gaps.line_front.Given as goal

abbrev pub invariant-more : goal.invariant-more
invariant-more l = record {
  same : l.size + size_of_line l.rest ≡ size_of_line l.bytes;
  room : l.size + length l.rest ≡ length l.bytes;
}

abbrev pub decreases-more : goal.decreases-more
decreases-more l = length l.rest
