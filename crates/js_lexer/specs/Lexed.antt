-- What the lexer answers.
use Rattle.std.specs.Prelude.{ℕ, List, ⊤}
use Rattle.std.specs.Str.{IsUtf8, IsValidUpTo}
use Rattle.js_lexer.specs.declared.token.Flaw.{Flaw}
use Rattle.js_lexer.specs.declared.token.Flaw.TheVariants as flaw
use Rattle.js_lexer.specs.declared.token.LexFault.{LexFault}
use Rattle.js_lexer.specs.declared.token.LexFault.TheVariants.{Character, OpenText, Escape, NumberRange, Unsupported, Utf8, Memory}
use Rattle.js_lexer.specs.Cut.{Refused}

-- the refusal of a flaw at a place
abbrev pub fault_of : Flaw → ℕ → LexFault
fault_of flaw.Character place = Character place
fault_of flaw.OpenText place = OpenText place
fault_of flaw.Escape place = Escape place
fault_of flaw.NumberRange place = NumberRange place
fault_of flaw.Unsupported place = Unsupported place

-- bytes that are no UTF-8 are refused at the first byte that is no part of it; a text is refused at the
-- first place that is not a token
abbrev pub IsRefusal : List ℕ → LexFault → Type 0
IsRefusal bytes (Character place) = IsUtf8 bytes × Refused bytes flaw.Character place
IsRefusal bytes (OpenText place) = IsUtf8 bytes × Refused bytes flaw.OpenText place
IsRefusal bytes (Escape place) = IsUtf8 bytes × Refused bytes flaw.Escape place
IsRefusal bytes (NumberRange place) = IsUtf8 bytes × Refused bytes flaw.NumberRange place
IsRefusal bytes (Unsupported place) = IsUtf8 bytes × Refused bytes flaw.Unsupported place
IsRefusal bytes (Utf8 place) = ¬ (IsUtf8 bytes) × IsValidUpTo bytes place
IsRefusal bytes Memory = ⊤
