use Rattle.std.proofs.Common.{◌≡◌, ◌+◌, ◌≤◌, length}
use Rattle.js_lexer.specs.Gaps.{line_ends}
use Rattle.js_lexer.proofs.gaps.line_ends_in.Given as goal

abbrev pub invariant-more : goal.invariant-more
invariant-more l = record {
  same : l.ends + line_ends l.left l.rest ≡ line_ends l.fn.n l.bytes;
  few : l.ends + l.left ≤ l.fn.n;
  room : l.ends + length l.rest ≤ length l.bytes;
}

abbrev pub decreases-more : goal.decreases-more
decreases-more l = l.left
