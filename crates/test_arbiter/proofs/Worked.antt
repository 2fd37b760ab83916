-- What three b-threads state, asked by the definitions.
use Rattle.std.proofs.Common.{◌≡◌, ℕ, ◌+◌, ◌%◌, List, [], ◌∷◌, Some, None, Ok, refl, slice_get, option_map}
use Rattle.std.specs.Prelude.{ℤ, pos, codes}
use Rattle.js_data.specs.Event.{PlainEvent}
use Rattle.js_data.proofs.Shared.{named}
use Rattle.js_value.specs.Value.{PlainSet, nothing, only}
use Rattle.js_meaning.specs.State.{Ground}
use Rattle.bp_log.specs.declared.options.Strategy.{Strategy}
use Rattle.bp_log.specs.declared.options.Strategy.TheVariants.{Simple, Ordered, Priority}
use Rattle.bp_meaning.specs.Membership.{member}
use Rattle.bp_run.specs.Selecting.{Live, Has, selectable}
use Rattle.bp_run.specs.Choosing.{remaining, choice}
use Rattle.bp_live.specs.Placing.{placed}

abbrev a : PlainEvent
a = named (codes "a")

abbrev b : PlainEvent
b = named (codes "b")

abbrev c : PlainEvent
c = named (codes "c")

-- a b-thread's number, requests, block set and priority
abbrev states : ℕ → List PlainEvent → PlainSet → ℤ → Live PlainSet
states n request block priority =
    record { number = n; statement = record { request = request; wait_for = nothing; block = block; interrupt = nothing; priority = priority } }

abbrev blocks_a : Live PlainSet
blocks_a = states 2 [] (only a) (pos 0)

abbrev three : List (Live PlainSet)
three = states 0 (a ∷ b ∷ []) nothing (pos 0) ∷ states 1 (b ∷ c ∷ []) nothing (pos 2) ∷ blocks_a ∷ []

module _ (base : Ground) (budget : ℕ) (word : ℕ → ℕ) (drawn : ℕ) where
  abbrev has : Has PlainSet
  has = member base budget

  pub b_and_c_are_selectable : selectable has three [] ≡ Ok (record { inner = b ∷ c ∷ []; outer = None })
  unfolding selectable
  b_and_c_are_selectable = refl

  pub ordered_leaves_b : remaining Ordered three (b ∷ c ∷ []) ≡ b ∷ []
  ordered_leaves_b = refl

  pub ordered_draws_nothing : choice has word Ordered three [] drawn ≡ Ok (Some (record { event = b; place = None; drawn = drawn }))
  unfolding choice selectable
  ordered_draws_nothing = refl

  pub priority_leaves_b_and_c : remaining Priority three (b ∷ c ∷ []) ≡ b ∷ c ∷ []
  priority_leaves_b_and_c = refl

  pub priority_draws_one : choice has word Priority three [] drawn ≡ Ok (option_map (λ e. record { event = e; place = None; drawn = drawn + 1 }) (slice_get (b ∷ c ∷ []) (word drawn % 2)))
  unfolding choice selectable
  priority_draws_one = refl

  pub simple_draws_as_priority : choice has word Simple three [] drawn ≡ choice has word Priority three [] drawn
  unfolding choice selectable
  simple_draws_as_priority = refl

  -- whatever stands in the queue
  pub requests_come_before_the_queue : (s : Strategy) (queue : List PlainEvent) → choice has word s three queue drawn ≡ choice has word s three [] drawn
  unfolding choice selectable
  requests_come_before_the_queue s queue = refl

  pub two_have_ended : placed 0 None (placed 1 None three) ≡ blocks_a ∷ []
  two_have_ended = refl

  pub queue_without_requests : (s : Strategy) → choice has word s (placed 0 None (placed 1 None three)) (a ∷ c ∷ []) drawn ≡ Ok (Some (record { event = c; place = Some 1; drawn = drawn }))
  unfolding choice selectable
  queue_without_requests s = refl
