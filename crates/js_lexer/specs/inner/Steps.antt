-- What a step of the lexer answers, within the text.
use Rattle.std.specs.Prelude.{ℕ, ◌≡◌, ◌≤◌, ◌<◌, ◌+◌, ◌^◌, List, length, drop, ⊤, Result, Ok, Err}
use Rattle.js_lexer.specs.declared.token.Kind.{Kind}
use Rattle.js_lexer.specs.declared.token.Flaw.{Flaw}
use Rattle.js_lexer.specs.declared.token.Found.{Found}
use Rattle.js_lexer.specs.declared.token.Found.TheVariants.{Gap, Token}
use Rattle.js_lexer.specs.declared.token.Stop.{Stop}
use Rattle.js_lexer.specs.declared.token.Stop.TheVariants.{Refused, Memory}
use Rattle.js_lexer.specs.declared.token.LexFault.{LexFault}
use Rattle.js_lexer.specs.declared.token.LexFault.TheVariants.{Memory as Memory'}
use Rattle.js_lexer.specs.declared.sort.Sort.{Sort}
use Rattle.js_lexer.specs.Sorts.{kind_sort}
use Rattle.js_lexer.specs.Front.{gap, token, refused, front}
use Rattle.js_lexer.specs.Lexed.{fault_of}

-- what stands in front at a place, within the text
pub record GapAt (bytes : List ℕ) (place n : ℕ) : Type 0 where
  pub is : front (drop place bytes) ≡ gap n
  pub some : 0 < n
  pub within : place + n ≤ length bytes

pub record TokenAt (bytes : List ℕ) (place : ℕ) (kind : Kind) (sort : Sort) (n : ℕ) : Type 0 where
  pub is : front (drop place bytes) ≡ token kind n
  pub sorted : sort ≡ kind_sort kind
  pub some : 0 < n
  pub within : place + n ≤ length bytes

pub record StopAt (bytes : List ℕ) (place : ℕ) (flaw : Flaw) (n : ℕ) : Type 0 where
  pub is : front (drop place bytes) ≡ refused flaw n
  pub within : place + n ≤ length bytes

abbrev pub IsStep : List ℕ → ℕ → Result Found Stop → Type 0
IsStep bytes place (Ok (Gap n)) = GapAt bytes place n
IsStep bytes place (Ok (Token kind sort n)) = TokenAt bytes place kind sort n
IsStep bytes place (Err (Refused flaw n)) = StopAt bytes place flaw n
IsStep bytes place (Err Memory) = ⊤

-- the refusal that a stop at a place is, and that its place fits
abbrev pub fault_of_stop : ℕ → Stop → LexFault
fault_of_stop place (Refused flaw n) = fault_of flaw (place + n)
fault_of_stop place Memory = Memory'

abbrev pub StopFits : ℕ → Stop → Type 0
StopFits place (Refused flaw n) = place + n < 2 ^ 32
StopFits place Memory = ⊤
