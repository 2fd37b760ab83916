-- What stands in front of a text.
use Rattle.std.specs.Prelude.{ℕ, zero, suc, ◌+◌, nat_eq, nat_lt, Bool, false, ◌&&◌, ◌||◌, List, [], ◌∷◌, take, drop, codes, pos, Option, Some, None, is_some, if◌then◌else◌}
use Rattle.js_lexer.specs.Characters.{dot, backtick}
use Rattle.bp_tables.specs.Found.{find_in, front_in}
use Rattle.js_lexer.specs.declared.numbers.TheConstants.{GREATEST}
use Rattle.js_lexer.specs.declared.token.Kind.{Kind}
use Rattle.js_lexer.specs.declared.token.Kind.TheVariants.{Name, Keyword, Number, Text, Mark}
use Rattle.js_lexer.specs.declared.token.Flaw.{Flaw}
use Rattle.js_lexer.specs.declared.token.Flaw.TheVariants.{Character, OpenText, Escape, NumberRange, Unsupported}
use Rattle.js_lexer.specs.Bytes.{begins, is_digit, is_name_start, is_name_byte, is_quote}
use Rattle.js_lexer.specs.Gaps.{blank_size, line_end_size, size_of_line, size_to_close}
use Rattle.js_lexer.specs.Spellings.{all_keywords, all_marks}
use Rattle.js_lexer.specs.Numbers.{base_of, number_size, number_value, is_unsupported_end}
use Rattle.js_lexer.specs.Literals.{Literal, closed, unclosed, wrong, literal}

-- nothing; white space, a line end or a comment of this many bytes; a token of this many bytes; or a refusal
-- this many bytes on
pub data Piece : Type 0 where
  nothing : Piece
  gap : ℕ → Piece
  token : Kind → ℕ → Piece
  refused : Flaw → ℕ → Piece

-- how many bytes of a name stand in front
abbrev pub name_size : List ℕ → ℕ
name_size [] = 0
name_size (b ∷ bs) = if is_name_byte b then suc (name_size bs) else 0

-- a word, or else a name
abbrev pub name_kind : List ℕ → Kind
name_kind text = if is_some (find_in all_keywords text) then Keyword text else Name text

-- a number by what follows it directly
abbrev pub number_before : ℕ → ℕ → ℕ → List ℕ → Piece
number_before base value size [] = token (Number (pos value)) size
number_before base value size (b ∷ bs) =
    if is_unsupported_end base b then refused Unsupported 0 else (
    if is_name_byte b then refused Character size else token (Number (pos value)) size)

abbrev pub number : List ℕ → Piece
number bs =
    if nat_lt GREATEST (number_value bs) then refused NumberRange 0
    else number_before (base_of bs) (number_value bs) (number_size bs) (drop (number_size bs) bs)

-- a text literal, with its first quote
abbrev pub quoted : Literal → Piece
quoted (closed content n) = token (Text content) (1 + n)
quoted unclosed = refused OpenText 0
quoted (wrong n) = refused Escape (1 + n)

-- a comment between /* and */
abbrev pub block : Option ℕ → Piece
block None = refused OpenText 0
block (Some n) = gap (2 + n)

abbrev pub mark : List ℕ → Option ℕ → Piece
mark bs None = refused Character 0
mark bs (Some n) = token (Mark (take n bs)) n

-- a dot and a digit
abbrev pub is_dot_digit : ℕ → List ℕ → Bool
is_dot_digit b [] = false
is_dot_digit b (d ∷ bs) = nat_eq b dot && is_digit d

-- a gap of this many bytes, where there are any
abbrev pub gap_or : ℕ → Piece → Piece
gap_or zero other = other
gap_or (suc n) other = gap (suc n)

-- a comment, or else the longest mark
abbrev pub comment_or_mark : List ℕ → Piece
comment_or_mark bs =
    if begins bs (codes "//") then gap (size_of_line bs) else (
    if begins bs (codes "/*") then block (size_to_close (drop 2 bs))
    else mark bs (front_in all_marks bs))

-- white space or a line end, or else these
abbrev pub gap_or_mark : List ℕ → Piece
gap_or_mark bs = gap_or (blank_size bs) (gap_or (line_end_size bs) (comment_or_mark bs))

-- the first of these that stands there
abbrev pub front : List ℕ → Piece
front [] = nothing
front (b ∷ bs) =
    if is_name_start b then token (name_kind (take (name_size (b ∷ bs)) (b ∷ bs)))
    (name_size (b ∷ bs)) else (
    if is_digit b then number (b ∷ bs) else (
    if is_quote b then quoted (literal b 0 bs) else (
    if nat_eq b backtick || is_dot_digit b bs then refused Unsupported 0 else gap_or_mark (b ∷ bs))))
