use Rattle.std.proofs.Common.{◌≡◌, ◌+◌, length}
use Rattle.js_lexer.specs.Gaps.{size_to_close}
use Rattle.js_lexer.proofs.Lines.{further}
use Rattle.js_lexer.proofs.gaps.close_front.Given as goal

abbrev pub invariant-more : goal.invariant-more
invariant-more l = record {
  same : further l.size (size_to_close l.rest) ≡ size_to_close l.bytes;
  room : l.size + length l.rest ≡ length l.bytes;
}

abbrev pub decreases-more : goal.decreases-more
decreases-more l = length l.rest
