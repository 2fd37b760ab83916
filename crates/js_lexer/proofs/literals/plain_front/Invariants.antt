use Rattle.std.proofs.Common.{◌≡◌, ◌+◌, drop}
use Rattle.js_lexer.specs.Literals.{plain_size}
use Rattle.js_lexer.proofs.literals.plain_front.Given as goal

abbrev pub invariant-loop-b : goal.invariant-loop-b
invariant-loop-b l = (l.size ≡ l.b-index) × (l.size + plain_size l.quote (drop l.b-index l.bytes) ≡ plain_size l.quote l.bytes)
