-- A program's text cut into tokens, or refused.
use Rattle.std.specs.Prelude.{ℕ, ◌+◌, ◌≡◌, nat_lt, Bool, true, false, ◌||◌, List, [], ◌∷◌, drop, refl}
use Rattle.js_lexer.specs.declared.token.Kind.{Kind}
use Rattle.js_lexer.specs.declared.token.Flaw.{Flaw}
use Rattle.js_lexer.specs.declared.token.Token.{Token}
use Rattle.js_lexer.specs.Sorts.{kind_sort}
use Rattle.js_lexer.specs.Gaps.{line_ends, line_of}
use Rattle.js_lexer.specs.Front.{nothing, gap, token, refused, front}

-- from a place on, with whether a line end stands before it since the last token (or there is no token
-- before it)
pub data CutFrom (bytes : List ℕ) : Bool → ℕ → List Token → Type 0 where
  cut_end : {new_line : Bool} {place : ℕ} → front (drop place bytes) ≡ nothing →
      CutFrom bytes new_line place []
  cut_gap : {new_line : Bool} {place n : ℕ} {tokens : List Token} → front (drop place bytes) ≡ gap n →
      CutFrom bytes (new_line || nat_lt 0 (line_ends n (drop place bytes))) (place + n) tokens →
      CutFrom bytes new_line place tokens
  cut_token : {new_line : Bool} {place n : ℕ} {kind : Kind} {tokens : List Token} →
      front (drop place bytes) ≡ token kind n →
      CutFrom bytes false (place + n) tokens →
      CutFrom bytes new_line place (record {
        kind = kind;
        sort = kind_sort kind;
        from = place;
        to = place + n;
        line = line_of bytes place;
        new_line = new_line;
        sorted = refl;
      } ∷ tokens)

-- the tokens of a text
abbrev pub Cut : List ℕ → List Token → Type 0
Cut bytes tokens = CutFrom bytes true 0 tokens

-- from a place on, the first place that is not a token, with what is wrong there
pub data RefusedFrom (bytes : List ℕ) : ℕ → Flaw → ℕ → Type 0 where
  refused_here : {place n : ℕ} {flaw : Flaw} → front (drop place bytes) ≡ refused flaw n →
      RefusedFrom bytes place flaw (place + n)
  refused_behind_gap : {place n at : ℕ} {flaw : Flaw} → front (drop place bytes) ≡ gap n →
      RefusedFrom bytes (place + n) flaw at → RefusedFrom bytes place flaw at
  refused_behind_token : {place n at : ℕ} {kind : Kind} {flaw : Flaw} →
      front (drop place bytes) ≡ token kind n →
      RefusedFrom bytes (place + n) flaw at → RefusedFrom bytes place flaw at

abbrev pub Refused : List ℕ → Flaw → ℕ → Type 0
Refused bytes flaw at = RefusedFrom bytes 0 flaw at
