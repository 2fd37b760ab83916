use Rattle.std.proofs.Common.{◌≡◌, ◌+◌, drop}
use Rattle.js_lexer.specs.Front.{name_size}
use Rattle.js_lexer.proofs.front.name_extent.Given as goal

abbrev pub invariant-loop-b : goal.invariant-loop-b
invariant-loop-b l = (l.size ≡ l.b-index) × (l.size + name_size (drop l.b-index l.bytes) ≡ name_size l.bytes)
