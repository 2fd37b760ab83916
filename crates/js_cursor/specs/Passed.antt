-- Where a cursor stands after a mark, a word, or a token that holds something.
use Rattle.std.specs.Prelude.{◌≡◌, Bool, true, false, List, [], ◌∷◌, Option, Some, None, Result, Ok, Err}
use Rattle.js_lexer.specs.declared.token.Token.{Token}
use Rattle.js_tree.specs.declared.ending.Ending.{Ending}
use Rattle.js_tree.specs.declared.tree.Spot.{Spot}
use Rattle.js_lexer.specs.declared.sort.Sort.{Sort}
use Rattle.js_grammar.specs.Sorts.{sort, spot}
use Rattle.js_grammar.specs.Tokens.{starts}
use Rattle.js_grammar.specs.Reading.{Found, ended_rest}
use Rattle.js_cursor.specs.declared.stop.Stop.{Stop}
use Rattle.js_cursor.specs.declared.stop.Stop.TheVariants.{NoTree, Memory}

-- after it, if it stood there, and else where it was
abbrev pub Skips : Sort → List Token → List Token → Bool → Type 0
Skips k before behind true = (t : Token) × (before ≡ t ∷ behind) × (sort t ≡ k)
Skips k before behind false = (before ≡ behind) × (starts k before ≡ false)

-- after it; else there is no tree
abbrev pub IsPassed : Sort → List Token → List Token → Result (Unit {0}) Stop → Type 0
IsPassed k before behind (Ok u) = (t : Token) × (before ≡ t ∷ behind) × (sort t ≡ k)
IsPassed k before behind (Err (NoTree left)) = starts k before ≡ false
IsPassed k before behind (Err Memory) = ⊥

-- after the first token, which stands there; else there is none
abbrev pub IsBumped : List Token → List Token → Result Spot Stop → Type 0
IsBumped before behind (Ok s) = (t : Token) × (before ≡ t ∷ behind) × (s ≡ spot t)
IsBumped before behind (Err (NoTree left)) = before ≡ []
IsBumped before behind (Err Memory) = ⊥

-- what the first token holds
abbrev pub first : {A : Type 0} → (Token → Option A) → List Token → Option A
first g [] = None
first g (t ∷ ts) = g t

-- what is read at the first token and those after it
abbrev pub at_first : {A : Type 0} → (Token → List Token → Found A) → List Token → Found A
at_first reads [] = None
at_first reads (t ∷ ts) = reads t ts

-- after the first token, which holds this; else there is no tree
abbrev pub IsTaken : {A : Type 0} → (Token → Option A) → List Token → List Token →
    Result A Stop → Type 0
IsTaken g before behind (Ok a) = (t : Token) × (before ≡ t ∷ behind) × (g t ≡ Some a)
IsTaken g before behind (Err (NoTree left)) = first g before ≡ None
IsTaken g before behind (Err Memory) = Unit {0}

-- after the end of a statement; else there is no tree
abbrev pub IsOver : Ending → List Token → List Token → Result (Unit {0}) Stop → Type 0
IsOver ends before behind (Ok u) = ended_rest ends before ≡ Some behind
IsOver ends before behind (Err (NoTree left)) = ended_rest ends before ≡ None
IsOver ends before behind (Err Memory) = ⊥
