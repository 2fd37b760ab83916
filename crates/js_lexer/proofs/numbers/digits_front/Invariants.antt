use Rattle.std.proofs.Common.{◌≡◌, ◌+◌, drop}
use Rattle.js_lexer.specs.Numbers.{digits_size}
use Rattle.js_lexer.proofs.numbers.digits_front.Given as goal

abbrev pub invariant-loop-b : goal.invariant-loop-b
invariant-loop-b l = (l.size ≡ l.b-index) × (l.size + digits_size l.base (drop l.b-index l.bytes) ≡ digits_size l.base l.bytes)
