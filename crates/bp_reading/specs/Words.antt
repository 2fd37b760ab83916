-- The words of a line: numbers, texts and events, each in the one spelling that it has.
use Rattle.std.specs.Prelude.{ℕ, ◌+◌, ◌-◌, ◌*◌, ◌&&◌, ◌==◌, Bool, false, not, nat_le, if◌then◌else◌, List, [], ◌∷◌, Option, Some, None, option_map, option_and_then}
use Rattle.std.specs.Str.{all_ascii_digits, bytes_eq, is_utf8}
use Rattle.serde_json.specs.Find.{as_str}
use Rattle.serde_json.specs.Read.{read}
use Rattle.js_data.specs.Event.{PlainEvent}
use Rattle.js_data.specs.JsonText.{event_text, quoted_text}
use Rattle.js_json.specs.Json.{event_at}

-- ---- numbers: digits, of which the first is 0 only where it is the only one

abbrev pub value_on : ℕ → List ℕ → ℕ
value_on n [] = n
value_on n (c ∷ cs) = value_on (10 * n + (c - 48)) cs

abbrev pub is_front_zero : List ℕ → Bool
is_front_zero [] = false
is_front_zero (c ∷ []) = false
is_front_zero (c ∷ d ∷ cs) = c == 48

abbrev pub is_numeral : List ℕ → Bool
is_numeral [] = false
is_numeral (c ∷ cs) = all_ascii_digits (c ∷ cs) && not (is_front_zero (c ∷ cs))

-- the number, at most `most`, that the bytes are in decimal
abbrev pub number_at : ℕ → List ℕ → Option ℕ
number_at most bytes =
    if is_numeral bytes && nat_le (value_on 0 bytes) most then Some (value_on 0 bytes) else None

-- the greatest numbers of 32 and of 64 bits
abbrev pub most_32 : ℕ
most_32 = 4_294_967_295

abbrev pub most_64 : ℕ
most_64 = 18_446_744_073_709_551_615

-- ---- words

-- what stands after a word
abbrev pub behind : List ℕ → List ℕ → Option (List ℕ)
behind [] bytes = Some bytes
behind (w ∷ word) [] = None
behind (w ∷ word) (b ∷ bytes) = if b == w then behind word bytes else None

-- what stands before the first such byte, and after it
abbrev pub around : ℕ → List ℕ → Option (List ℕ × List ℕ)
around c [] = None
around c (b ∷ bytes) =
    if b == c then Some ([], bytes) else option_map (λ p. (b ∷ p.0, p.1)) (around c bytes)

-- the number, at most `most`, after a word
abbrev pub number_behind : List ℕ → ℕ → List ℕ → Option ℕ
number_behind word most bytes = option_and_then (number_at most) (behind word bytes)

-- two numbers of 32 bits with one blank between them
abbrev pub numbers_at : List ℕ → Option (ℕ × ℕ)
numbers_at bytes =
    option_and_then
    (λ p. option_and_then (λ m. option_map (λ n. (m, n)) (number_at most_32 p.1))
    (number_at most_32 p.0))
    (around 32 bytes)

-- ---- events and texts

abbrev pub if_compact : List ℕ → PlainEvent → Option PlainEvent
if_compact bytes e = if bytes_eq (event_text e) bytes then Some e else None

-- the event whose compact text the bytes are
abbrev pub compact_event_at : List ℕ → Option PlainEvent
compact_event_at bytes = option_and_then (if_compact bytes) (event_at bytes)

abbrev pub if_quoted : List ℕ → List ℕ → Option (List ℕ)
if_quoted bytes s = if bytes_eq (quoted_text s) bytes then Some s else None

-- the text whose quoted text the bytes are
abbrev pub text_at : List ℕ → Option (List ℕ)
text_at bytes =
    if is_utf8 bytes
    then option_and_then (if_quoted bytes) (option_and_then as_str (read bytes))
    else None

abbrev pub onto_front : ℕ → Option (List ℕ × List ℕ) → Option (List ℕ × List ℕ)
onto_front b = option_map (λ p. (b ∷ p.0, p.1))

-- the bytes up to the first quotation mark that no backslash escapes, and those after it
abbrev pub to_quote : Bool → List ℕ → Option (List ℕ × List ℕ)
to_quote escaped [] = None
to_quote escaped (b ∷ bytes) =
    if not escaped && (b == 34) then Some (b ∷ [], bytes) else
    onto_front b (to_quote (not escaped && (b == 92)) bytes)

-- the bytes from a quotation mark to the one that closes it, and those after it
abbrev pub quoted_front : List ℕ → Option (List ℕ × List ℕ)
quoted_front bytes =
    option_and_then (λ rest. onto_front 34 (to_quote false rest)) (behind (34 ∷ []) bytes)
