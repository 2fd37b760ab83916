use Rattle.std.proofs.Common.{◌≡◌, ◌≤◌, drop}
use Rattle.js_lexer.specs.declared.numbers.TheConstants.{GREATEST}
use Rattle.js_lexer.specs.Numbers.{digits_value}
use Rattle.js_lexer.proofs.numbers.digits_number.Given as goal

abbrev pub invariant-loop-b : goal.invariant-loop-b
invariant-loop-b l = (l.value ≤ GREATEST) × (digits_value l.base l.value (drop l.b-index l.bytes) ≡ digits_value l.base 0 l.bytes)
