-- What the steps of the lexer answer, by what stands in front.
use Rattle.std.specs.Prelude.{ℕ, ◌≡◌, ◌+◌, ◌<◌, ⊤, List, [], ◌∷◌, drop, Result, Ok, Err}
use Rattle.std.specs.Str.{IsCharBoundary}
use Rattle.js_lexer.specs.declared.token.Found.{Found}
use Rattle.js_lexer.specs.declared.token.Found.TheVariants.{Gap, Token}
use Rattle.js_lexer.specs.declared.token.Flaw.TheVariants.{OpenText, Escape}
use Rattle.js_lexer.specs.declared.token.Stop.{Stop}
use Rattle.js_lexer.specs.declared.token.Stop.TheVariants.{Refused, Memory}
use Rattle.js_lexer.specs.Sorts.{kind_sort}
use Rattle.js_lexer.specs.Literals.{behind, literal}
use Rattle.js_lexer.specs.Front.{Piece, gap, token, refused, quoted}

-- what stands there, a token with its sort, or its refusal, or out of memory
abbrev pub IsFound : Piece → Result Found Stop → Type 0
IsFound piece (Ok (Gap n)) = piece ≡ gap n
IsFound piece (Ok (Token kind sort n)) = record {
  is : piece ≡ token kind n;
  sorted : sort ≡ kind_sort kind;
}
IsFound piece (Err (Refused flaw n)) = piece ≡ refused flaw n
IsFound piece (Err Memory) = ⊤

-- this many bytes of a literal are read: what they stand for is after the content, and what is left is the
-- rest of it
pub record Read (quote : ℕ) (rest before after : List ℕ) (n : ℕ) : Type 0 where
  pub same : (size : ℕ) → behind before size (literal quote 0 rest) ≡
      behind after (size + n) (literal quote 0 (drop n rest))
  pub boundary : IsCharBoundary rest n
  pub some : 0 < n

-- a backslash without an escape
abbrev pub stuck : ℕ → List ℕ → Piece
stuck size [] = refused OpenText 0
stuck size (b ∷ bs) = refused Escape (1 + size)

-- the content after this many bytes, after a step
abbrev pub IsRead : ℕ → List ℕ → List ℕ → List ℕ → ℕ → Result ℕ Stop → Type 0
IsRead quote rest before after size (Ok n) = Read quote rest before after n
IsRead quote rest before after size (Err (Refused flaw n)) =
    quoted (behind before size (literal quote 0 rest)) ≡ refused flaw n
IsRead quote rest before after size (Err Memory) = ⊤
