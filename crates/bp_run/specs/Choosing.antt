-- Which of the selectable events is chosen, and whom it reaches.
use Rattle.std.specs.Prelude.{ℕ, ◌+◌, ◌%◌, Bool, true, false, List, [], ◌∷◌, length, Option, Some, None, Ok, Err, slice_get, filter, find, if◌then◌else◌, ℤ, int_le, option_map}
use Rattle.std.specs.List.{list_any, list_all, cons_option}
use Rattle.js_data.specs.Event.{PlainEvent, same_event}
use Rattle.bp_log.specs.declared.options.Strategy.{Strategy}
use Rattle.bp_log.specs.declared.options.Strategy.TheVariants.{Simple, Ordered, Priority}
use Rattle.bp_run.specs.Selecting.{Live, Has, Asked, by_number, both, without_fault, selectable, requests}

-- whether e is the first request of the b-thread that is among these events
abbrev pub is_first_of : {Set : Type 0} → List PlainEvent → PlainEvent → Live Set → Bool
is_first_of inner e t =
    elim (find (λ r. list_any (same_event r) inner) t.statement.request) [
      | None ↦ false
      | Some r ↦ same_event r e
    ]

abbrev pub greater : ℤ → Option ℤ → Option ℤ
greater a None = Some a
greater a (Some b) = if int_le a b then Some b else Some a

-- the greatest priority with which e is requested
abbrev pub priority_of : {Set : Type 0} → List (Live Set) → PlainEvent → Option ℤ
priority_of [] e = None
priority_of (t ∷ ts) e =
    if requests e t then greater t.statement.priority (priority_of ts e) else priority_of ts e

abbrev pub at_most : Option ℤ → Option ℤ → Bool
at_most None b = true
at_most (Some a) None = false
at_most (Some a) (Some b) = int_le a b

-- no other event is requested with a greater priority
abbrev pub is_greatest : {Set : Type 0} → List (Live Set) → List PlainEvent → PlainEvent → Bool
is_greatest ts inner e = list_all (λ x. at_most (priority_of ts x) (priority_of ts e)) inner

abbrev pub remaining : {Set : Type 0} → Strategy → List (Live Set) → List PlainEvent → List PlainEvent
remaining Simple ts inner = inner
remaining Ordered ts inner = filter (λ e. list_any (is_first_of inner e) ts) inner
remaining Priority ts inner = filter (is_greatest ts inner) inner

-- the event that is chosen, its place if it comes from the queue, and how many words were drawn afterwards
pub record Choice : Type 0 where
  pub event : PlainEvent
  pub place : Option ℕ
  pub drawn : ℕ

-- one candidate draws nothing
abbrev pub drawn_of : (ℕ → ℕ) → ℕ → List PlainEvent → Option Choice
drawn_of word drawn [] = None
drawn_of word drawn (e ∷ []) = Some (record { event = e; place = None; drawn = drawn })
drawn_of word drawn (e ∷ f ∷ rest) =
    option_map (λ x. record { event = x; place = None; drawn = drawn + 1 })
    (slice_get (e ∷ f ∷ rest) (word drawn % length (e ∷ f ∷ rest)))

-- an event of the queue draws nothing
abbrev pub queued_at : ℕ → List PlainEvent → Option ℕ → Option Choice
queued_at drawn queue None = None
queued_at drawn queue (Some place) =
    option_map (λ e. record { event = e; place = Some place; drawn = drawn }) (slice_get queue place)

abbrev pub chosen : {Set : Type 0} → (ℕ → ℕ) → Strategy → List (Live Set) → List PlainEvent → ℕ →
    List PlainEvent → Option ℕ → Option Choice
chosen word s ts queue drawn [] outer = queued_at drawn queue outer
chosen word s ts queue drawn (e ∷ es) outer = drawn_of word drawn (remaining s ts (e ∷ es))

-- the choice where this many words were drawn; nothing, where nothing is selectable
unfoldable pub choice : {Set : Type 0} → Has Set → (ℕ → ℕ) → Strategy → List (Live Set) →
    List PlainEvent → ℕ → Asked (Option Choice)
choice has word s ts queue drawn =
    without_fault (λ x. chosen word s ts queue drawn x.inner x.outer) (selectable has ts queue)

-- what an event does to a b-thread: it goes on, or it is interrupted
pub data Touched : Type 0 where
  Moves : ℕ → Touched
  Interrupts : ℕ → Touched

abbrev pub moves_if : ℕ → Bool → Option Touched
moves_if n b = if b then Some (Moves n) else None

-- its interrupt set is asked first, and its waitFor set only where it didn't request e
abbrev pub touched : {Set : Type 0} → Has Set → PlainEvent → Live Set → Asked (Option Touched)
touched has e t =
    elim (by_number t.number (has t.statement.interrupt e)) [
      | Err x ↦ Err x
      | Ok b ↦ elim b [
        | true ↦ Ok (Some (Interrupts t.number))
        | false ↦ elim (requests e t) [
          | true ↦ Ok (Some (Moves t.number))
          | false ↦ without_fault (moves_if t.number) (by_number t.number (has t.statement.wait_for e))
        ]
      ]
    ]

-- the b-threads that e moves or interrupts, in order
unfoldable pub reach : {Set : Type 0} → Has Set → PlainEvent → List (Live Set) → Asked (List Touched)
reach has e [] = Ok []
reach has e (t ∷ ts) = both cons_option (touched has e t) (reach has e ts)
