-- Trees that tokens spell, within a limit of nesting.
use Rattle.std.specs.Prelude.{ℕ, ◌≤◌, ◌≡◌, List, [], ◌∷◌, map}
use Rattle.std.specs.List.{Contains}
use Rattle.js_lexer.specs.declared.token.Token.{Token}
use Rattle.js_tree.specs.Plain.{PlainItem}
use Rattle.js_tree.specs.Nesting.{deepest_item}
use Rattle.js_grammar.specs.Grammar.{SpellsTree}

-- the tokens spell the tree, with nesting within the limit
pub record IsTree (limit : ℕ) (ts : List Token) (is : List PlainItem) : Type 0 where
  pub spelled : SpellsTree ts is
  pub within : deepest_item is ≤ limit

-- they spell no such tree
abbrev pub HasNoTree : ℕ → List Token → Type 0
HasNoTree limit ts = (is : List PlainItem) → IsTree limit ts is → ⊥

-- tokens spell at most one tree
abbrev pub OneTree : Type 0
OneTree = (ts : List Token) (a b : List PlainItem) → SpellsTree ts a → SpellsTree ts b → a ≡ b

-- the line of some token, or 1 where there is none
abbrev pub IsLineIn : List Token → ℕ → Type 0
IsLineIn [] line = line ≡ 1
IsLineIn (t ∷ ts) line = Contains (map (λ (x : Token). x.line) (t ∷ ts)) line
