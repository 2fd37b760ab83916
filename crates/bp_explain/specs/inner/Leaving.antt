-- What a strategy leaves, one event at a time, and what is drawn of it.
use Rattle.std.specs.Prelude.{ℕ, Bool, true, List, map, Option, option_map}
use Rattle.std.specs.List.{list_any}
use Rattle.js_data.specs.Event.{PlainEvent}
use Rattle.bp_log.specs.declared.options.Strategy.{Strategy}
use Rattle.bp_log.specs.declared.options.Strategy.TheVariants.{Simple, Ordered, Priority}
use Rattle.bp_run.specs.Choosing.{drawn_of, is_first_of, is_greatest}
use Rattle.bp_explain.specs.declared.stops.Stop.{Stop}
use Rattle.bp_explain.specs.Stops.{live_of}

-- whether the strategy leaves e
abbrev pub leaves : Strategy → List Stop → List PlainEvent → PlainEvent → Bool
leaves Simple ss inner e = true
leaves Ordered ss inner e = list_any (λ s. is_first_of inner e (live_of s)) ss
leaves Priority ss inner e = is_greatest (map live_of ss) inner e

-- the event on which the word falls
abbrev pub event_drawn : (ℕ → ℕ) → ℕ → List PlainEvent → Option PlainEvent
event_drawn word drawn left = option_map (λ ch. ch.event) (drawn_of word drawn left)
