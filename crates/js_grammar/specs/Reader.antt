-- What reading token by token gives: the tree that the first tokens spell, if its nesting is at most the
-- room, and what follows.
use Rattle.std.specs.Prelude.{ℕ, zero, suc, None}
use Rattle.js_grammar.specs.Expressions.{Readers, declarators_of_kind, level}
use Rattle.js_grammar.specs.Statements.{statement}

-- the readers with this much room
unfoldable pub readers : ℕ → Readers
readers zero = record { expr = λ l ts. None; declarators = λ k ts. None; stmt = λ ts. None }
readers (suc room) = record {
  expr = level room (readers room);
  declarators = declarators_of_kind room (readers room);
  stmt = statement room (readers room);
}
