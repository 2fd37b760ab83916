-- What stands between tokens: white space, line ends, comments; and how lines are counted.
use Rattle.std.specs.Prelude.{ℕ, zero, suc, ◌+◌, nat_eq, Bool, not, ◌&&◌, ◌||◌, List, [], ◌∷◌, codes, Option, Some, None, option_map, if◌then◌else◌}
use Rattle.js_lexer.specs.Characters.{tab, line_feed, vertical_tab, form_feed, carriage_return, space}
use Rattle.js_lexer.specs.Bytes.{begins}

-- U+2028 and U+2029
abbrev pub begins_separator : List ℕ → Bool
begins_separator bs = begins bs (226 ∷ (128 ∷ (168 ∷ []))) || begins bs (226 ∷ (128 ∷ (169 ∷ [])))

-- how many bytes of white space stand in front: tab, vertical tab, form feed and space are 1, U+00A0 is 2,
-- U+FEFF is 3
abbrev pub blank_size : List ℕ → ℕ
blank_size bs =
    if begins bs (tab ∷ []) || begins bs (vertical_tab ∷ []) || begins bs (form_feed ∷ []) ||
    begins bs (space ∷ []) then 1 else (
    if begins bs (194 ∷ (160 ∷ [])) then 2 else (
    if begins bs (239 ∷ (187 ∷ (191 ∷ []))) then 3 else 0))

-- how many bytes the line end in front has: CR LF is one line end
abbrev pub line_end_size : List ℕ → ℕ
line_end_size bs =
    if begins bs (carriage_return ∷ (line_feed ∷ [])) then 2 else (
    if begins bs (line_feed ∷ []) || begins bs (carriage_return ∷ []) then 1 else (
    if begins_separator bs then 3 else 0))

-- a line ends with what stands in front; CR LF counts once, at its LF
abbrev pub ends_line : List ℕ → Bool
ends_line bs =
    begins bs (line_feed ∷ [])
    || (begins bs (carriage_return ∷ []) && not (begins bs (carriage_return ∷ (line_feed ∷ []))))
    || begins_separator bs

-- how many lines end in this many bytes
abbrev pub line_ends : ℕ → List ℕ → ℕ
line_ends zero bs = 0
line_ends (suc n) [] = 0
line_ends (suc n) (b ∷ bs) = (if ends_line (b ∷ bs) then 1 else 0) + line_ends n bs

-- the line of a place, from 1
abbrev pub line_of : List ℕ → ℕ → ℕ
line_of bs place = 1 + line_ends place bs

-- how many bytes stand before the first line end
abbrev pub size_of_line : List ℕ → ℕ
size_of_line [] = 0
size_of_line (b ∷ bs) = if nat_eq (line_end_size (b ∷ bs)) 0 then suc (size_of_line bs) else 0

-- how many bytes there are with the first */
abbrev pub size_to_close : List ℕ → Option ℕ
size_to_close [] = None
size_to_close (b ∷ bs) = if begins (b ∷ bs) (codes "*/") then Some 2
    else option_map suc (size_to_close bs)
