-- Sets of events in words: an event as its text, a list in brackets, a predicate by its name and
-- the line of its function.
use Rattle.std.specs.Prelude.{ℕ, Bool, true, false, List, ◌++◌, decimal, codes}
use Rattle.js_data.specs.JsonText.{quoted_text, event_text}
use Rattle.js_value.specs.Value as v
use Rattle.js_value.specs.Value.{PlainSet, SetList}
use Rattle.js_program.specs.PlainProgram.{PlainProgram}
use Rattle.js_meaning.specs.Calls.{body_of}
use Rattle.bp_explain.specs.Words.{Spelling}
use Rattle.bp_explain.specs.Listed.{comma}

abbrev pub predicate_words : List ℕ → ℕ → List ℕ
predicate_words name line = quoted_text name ++ (codes " of line " ++ decimal line)

-- the line on which a function begins
abbrev pub line_in : PlainProgram → ℕ → ℕ
line_in p code = (body_of p code).line

-- two sets with a word between, in brackets
abbrev pub two_words : List ℕ → List ℕ → List ℕ → List ℕ
two_words word a b = codes "(" ++ (a ++ (word ++ (b ++ codes ")")))

-- `line_of` gives the line of each function
abbrev mutual
  pub set_words : (ℕ → ℕ) → PlainSet → List ℕ
  set_words line_of (v.only e) = event_text e
  set_words line_of (v.any ss) = codes "[" ++ list_words line_of false ss
  set_words line_of v.all = codes "all"
  set_words line_of v.nothing = codes "none"
  set_words line_of (v.or a b) =
      two_words (codes " or ") (set_words line_of a) (set_words line_of b)
  set_words line_of (v.and a b) =
      two_words (codes " and ") (set_words line_of a) (set_words line_of b)
  set_words line_of (v.xor a b) =
      two_words (codes " xor ") (set_words line_of a) (set_words line_of b)
  set_words line_of (v.negate a) = codes "not " ++ set_words line_of a
  set_words line_of (v.predicate name code captured) = predicate_words name (line_of code)

  pub list_words : (ℕ → ℕ) → Bool → SetList → List ℕ
  list_words line_of later v.no_sets = codes "]"
  list_words line_of later (v.set_in s ss) =
      comma later ++ (set_words line_of s ++ list_words line_of true ss)

-- the set of a key that is absent is the empty list
abbrev pub is_no_set : PlainSet → Bool
is_no_set (v.any v.no_sets) = true
is_no_set _ = false

abbrev pub spelling_of : PlainProgram → Spelling PlainSet
spelling_of program = record { words = set_words (line_in program); is_absent = is_no_set }
