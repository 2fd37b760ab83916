-- What is kept of an event while sets are asked about it.
use Rattle.std.specs.Prelude.{◌≡◌, ℕ, Option, Ok, IfSome}
use Rattle.js_data.specs.Event.{PlainEvent}
use Rattle.js_value.specs.Value as of_value
use Rattle.js_value.specs.Views.{plain_value}
use Rattle.js_value.specs.declared.value.Value.{Value}
use Rattle.js_meaning.specs.State.{Ground}
use Rattle.bp_meaning.specs.Membership.{asks_predicate}
use Rattle.bp_sets.specs.declared.asked.Answer.{Answer}
use Rattle.bp_sets.specs.declared.asked.Asked.{Asked}

-- the value is e
abbrev pub IsValue : PlainEvent → Option Value → Type 0
IsValue e o = IfSome o (λ x. plain_value x ≡ of_value.event e)

-- a predicate that captured nothing answers so of e
abbrev pub IsAnswer : Ground → ℕ → PlainEvent → Option Answer → Type 0
IsAnswer base budget e o =
    IfSome o (λ a. asks_predicate base budget a.code of_value.no_values e ≡ Ok a.yes)

-- what is kept is about e
pub record IsAbout (base : Ground) (budget : ℕ) (e : PlainEvent) (a : Asked) : Type 0 where
  pub value : IsValue e a.value
  pub answer : IsAnswer base budget e a.answer
