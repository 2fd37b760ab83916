-- Trees that tokens spell.
use Rattle.std.specs.Prelude.{ℕ, ◌<◌, List, [], ◌∷◌}
use Rattle.js_lexer.specs.declared.limits.TheConstants.{MOST_BYTES}
use Rattle.js_lexer.specs.declared.token.Token.{Token}
use Rattle.js_tree.specs.declared.limits.TheConstants.{MOST_NESTING}
use Rattle.js_tree.specs.Plain.{PlainItem}
use Rattle.js_grammar.specs.Trees.{IsTree}

-- the offset of the first token, or the end where there is none
abbrev pub next : ℕ → List Token → ℕ
next end [] = end
next end (t ∷ ts) = t.from

-- each token stands before the one after it, and the last before the end
abbrev pub InOrder : ℕ → List Token → Type 0
InOrder end [] = Unit {0}
InOrder end (t ∷ ts) = (t.from < next end ts) × InOrder end ts

-- tokens in order, of which the offsets of a text allow no more, spell the tree, which is not nested too deep
pub record IsSpelled (items : List PlainItem) : Type 0 where
  pub tokens : List Token
  pub order : InOrder MOST_BYTES tokens
  pub tree : IsTree MOST_NESTING tokens items
