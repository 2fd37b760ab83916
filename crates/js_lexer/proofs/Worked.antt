-- Worked examples.
use Rattle.std.proofs.Common.{◌≡◌, [], ◌∷◌, ◌++◌, codes, refl, pos, Some, None}
use lib.Utf8.{encode}
use Rattle.js_lexer.specs.declared.token.Kind.TheVariants.{Name, Keyword, Number, Text, Mark}
use Rattle.js_lexer.specs.declared.token.Flaw.TheVariants.{Character, OpenText, Escape, NumberRange, Unsupported}
use Rattle.js_lexer.specs.Gaps.{line_of}
use Rattle.js_lexer.specs.Literals.{escape}
use Rattle.js_lexer.specs.Front.{gap, token, refused, front}

name_front : front (codes "ab$1+c") ≡ token (Name (codes "ab$1")) 4
name_front = refl

word_front : front (codes "let x") ≡ token (Keyword (codes "let")) 3
word_front = refl

refused_word_front : front (codes "typeof") ≡ token (Keyword (codes "typeof")) 6
refused_word_front = refl

range_front : front (codes "9007199254740992n") ≡ refused NumberRange 0
range_front = refl

greatest_front : front (codes "9007199254740991") ≡ token (Number (pos 9_007_199_254_740_991)) 16
greatest_front = refl

hex_front : front (codes "0x1F;") ≡ token (Number (pos 31)) 4
hex_front = refl

hex_bad_front : front (codes "0xg") ≡ refused Character 1
hex_bad_front = refl

fraction_front : front (codes "1.5") ≡ refused Unsupported 0
fraction_front = refl

half_front : front (codes ".5") ≡ refused Unsupported 0
half_front = refl

zeros_front : front (codes "00") ≡ refused Unsupported 0
zeros_front = refl

open_front : front (codes "'abc") ≡ refused OpenText 0
open_front = refl

literal_front : front (codes "'a\\n' ") ≡ token (Text (97 ∷ (10 ∷ []))) 5
unfolding encode
literal_front = refl

pair_escape : escape (codes "uD83D\\uDE00") ≡ Some (11, Some 0x1_F600)
pair_escape = refl

braced : escape (codes "u{0001F600}'") ≡ Some (11, Some 0x1_F600)
braced = refl

lone_escape : escape (codes "uD83D\\n") ≡ None
lone_escape = refl

escape_front : front (codes "'\\q1 \\x'") ≡ refused Escape 5
escape_front = refl

longest_front : front (codes ">>>=1") ≡ token (Mark (codes ">>>=")) 4
longest_front = refl

question_dot_front : front (codes "?.5:1") ≡ token (Mark (codes "?.")) 2
question_dot_front = refl

comment_front : front (codes "/* a */b") ≡ gap 7
comment_front = refl

open_comment_front : front (codes "/*/") ≡ refused OpenText 0
open_comment_front = refl

line_comment_front : front (codes "//ab" ++ 13 ∷ (10 ∷ [])) ≡ gap 4
line_comment_front = refl

line_end_front : front (13 ∷ (10 ∷ (10 ∷ []))) ≡ gap 2
line_end_front = refl

lines : line_of (13 ∷ (10 ∷ (10 ∷ (13 ∷ (226 ∷ (128 ∷ (168 ∷ []))))))) 7 ≡ 5
lines = refl
