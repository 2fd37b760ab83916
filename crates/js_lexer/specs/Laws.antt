-- Laws of cutting.
use Rattle.std.specs.Prelude.{ℕ, ◌≡◌, ◌≤◌, ◌<◌, ◌-◌, ◌⊎◌, nat_le, Bool, true, not, ◌&&◌, ◌||◌, List, [], ◌∷◌, ◌++◌, length, take, drop, ⊤, Some}
use Rattle.bp_tables.specs.Found.{front_in}
use Rattle.js_lexer.specs.declared.sort.Sort.{Sort}
use Rattle.js_lexer.specs.declared.token.Kind.{Kind}
use Rattle.js_lexer.specs.declared.token.Kind.TheVariants.{Name, Keyword, Number, Text, Mark}
use Rattle.js_lexer.specs.declared.token.Flaw.{Flaw}
use Rattle.js_lexer.specs.declared.token.Token.{Token}
use Rattle.js_lexer.specs.Bytes.{begins}
use Rattle.js_lexer.specs.Gaps.{line_of}
use Rattle.js_lexer.specs.Spellings.{marks, unsupported_marks, all_marks}
use Rattle.js_lexer.specs.Cut.{Cut, Refused}

-- at most one list of tokens is a cutting of a text
abbrev pub OneCutting : List ℕ → Type 0
OneCutting bytes = (tokens others : List Token) → Cut bytes tokens → Cut bytes others → tokens ≡ others

-- a text is refused for one flaw at one place
abbrev pub OneRefusal : List ℕ → Type 0
OneRefusal bytes = (one other : Flaw) (here there : ℕ) → Refused bytes one here →
    Refused bytes other there → (one ≡ other) × (here ≡ there)

-- no text is both cut and refused
abbrev pub NeverBoth : List ℕ → Type 0
NeverBoth bytes = (tokens : List Token) (flaw : Flaw) (place : ℕ) → Cut bytes tokens →
    ¬ (Refused bytes flaw place)

-- each text is cut or refused
abbrev pub CutOrRefused : List ℕ → Type 0
CutOrRefused bytes =
    ((tokens : List Token) × Cut bytes tokens) ⊎ ((flaw : Flaw) × (place : ℕ) ×
    Refused bytes flaw place)

-- a name, a word and a mark hold the bytes that they are
abbrev pub IsSpelled : Kind → List ℕ → Type 0
IsSpelled (Name text) bytes = text ≡ bytes
IsSpelled (Keyword text) bytes = text ≡ bytes
IsSpelled (Mark text) bytes = text ≡ bytes
IsSpelled (Number number) bytes = ⊤
IsSpelled (Text text) bytes = ⊤

-- a token stands after a place, with at least one byte, in the text, at its line
pub record IsPlaced (bytes : List ℕ) (behind : ℕ) (t : Token) : Type 0 where
  pub order : behind ≤ t.from
  pub some : t.from < t.to
  pub within : t.to ≤ length bytes
  pub line : t.line ≡ line_of bytes t.from
  pub spelled : IsSpelled t.kind (take (t.to - t.from) (drop t.from bytes))

-- each token stands after the one before it
abbrev pub ArePlaced : List ℕ → ℕ → List Token → Type 0
ArePlaced bytes behind [] = ⊤
ArePlaced bytes behind (t ∷ tokens) = IsPlaced bytes behind t × ArePlaced bytes t.to tokens

abbrev pub TokensInOrder : List ℕ → Type 0
TokensInOrder bytes = (tokens : List Token) → Cut bytes tokens → ArePlaced bytes 0 tokens

-- the entries with which the text begins have at most this many bytes
abbrev pub none_longer : ℕ → List (List ℕ × Sort) → List ℕ → Bool
none_longer n [] bytes = true
none_longer n (e ∷ es) bytes = (not (begins bytes e.0) || nat_le (length e.0) n) &&
    none_longer n es bytes

-- no mark with which the text begins is longer than the one that is read
abbrev pub LongestMark : List ℕ → Type 0
LongestMark bytes = (n : ℕ) → front_in all_marks bytes ≡ Some n →
    none_longer n (marks ++ unsupported_marks) bytes ≡ true
