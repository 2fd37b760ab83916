use Rattle.std.proofs.Common.{◌≡◌, ◌≤◌, ◌+◌, length}
use Rattle.js_grammar.specs.Arrows.{arrow_follows}
use Rattle.js_cursor.proofs.peek.arrow_behind.Given as goal

abbrev pub invariant-unclosed : goal.invariant-unclosed
invariant-unclosed l = record {
  same : arrow_follows l.rest l.depth ≡ arrow_follows l.tokens 0;
  few : l.depth + length l.rest ≤ length l.tokens;
}

abbrev pub decreases-unclosed : goal.decreases-unclosed
decreases-unclosed l = length l.rest
