-- Which events can be selected: requested by some, blocked by none.
use Rattle.std.specs.Prelude.{ℕ, suc, Bool, true, false, not, ◌||◌, List, [], ◌∷◌, Option, Some, None, Result, Ok, Err, filter, flat_map, if◌then◌else◌}
use Rattle.std.specs.List.{list_any, cons_option}
use Rattle.js_data.specs.Event.{PlainEvent, same_event}
use Rattle.bp_run.specs.Bodies.{Code, Statement, Outcome, SetFault}
use Rattle.bp_run.specs.Bodies.Outcome.{Stopped, Ended, Broken, Violated, Spent}
use Rattle.bp_run.specs.Configuration.{Stand, Thread}

-- a live b-thread, by its number, and what it states at its synchronisation point
pub record Live (Set : Type 0) : Type 0 where
  pub number : ℕ
  pub statement : Statement Set

abbrev pub at_stop : {Set : Type 0} → ℕ → Outcome Set → Option (Live Set)
at_stop n (Stopped s) = Some (record { number = n; statement = s })
at_stop n Ended = None
at_stop n (Broken f line) = None
at_stop n (Violated t) = None
at_stop n Spent = None

-- what the b-thread of this number states now
abbrev pub stated : {Origin Set : Type 0} → Code Origin Set → ℕ → Thread Origin → Option (Live Set)
stated code n t = if t.ended then None else at_stop n (code.after t.origin t.replies).outcome

abbrev pub live_from : {Origin Set : Type 0} → Code Origin Set → ℕ → List (Thread Origin) →
    List (Live Set)
live_from code n [] = []
live_from code n (t ∷ ts) = cons_option (stated code n t) (live_from code (suc n) ts)

-- the live b-threads, in registration order
abbrev pub live : {Origin Set : Type 0} → Code Origin Set → Stand Origin → List (Live Set)
live code s = live_from code 0 s.threads

-- whether a set has an event, or why it can't tell
abbrev pub Has : Type 0 → Type 0
Has Set = Set → PlainEvent → Result Bool SetFault

-- what was asked of sets: an answer, or the first fault, with the number of the b-thread whose set it is
abbrev pub Asked : Type 0 → Type 0
Asked A = Result A (ℕ × SetFault)

abbrev pub by_number : {A : Type 0} → ℕ → Result A SetFault → Asked A
by_number n (Ok a) = Ok a
by_number n (Err f) = Err (n, f)

-- the first fault of the two, or both answers
abbrev pub both : {A B C : Type 0} → (A → B → C) → Asked A → Asked B → Asked C
both f (Err x) b = Err x
both f (Ok a) (Err x) = Err x
both f (Ok a) (Ok b) = Ok (f a b)

-- the fault, or what the answer leads to
abbrev pub without_fault : {A B : Type 0} → (A → B) → Asked A → Asked B
without_fault f (Err x) = Err x
without_fault f (Ok a) = Ok (f a)

-- whether some block set has e; every one is asked
abbrev pub blocked : {Set : Type 0} → Has Set → List (Live Set) → PlainEvent → Asked Bool
blocked has [] e = Ok false
blocked has (t ∷ ts) e =
    both (λ a b. a || b) (by_number t.number (has t.statement.block e)) (blocked has ts e)

-- those of the events that nobody blocks
abbrev pub unblocked : {Set : Type 0} → Has Set → List (Live Set) → List PlainEvent →
    Asked (List PlainEvent)
unblocked has ts [] = Ok []
unblocked has ts (e ∷ es) =
    both (λ b rest. if b then rest else e ∷ rest) (blocked has ts e) (unblocked has ts es)

-- the place of the first event of the queue that nobody blocks; asking stops there
abbrev pub first_unblocked : {Set : Type 0} → Has Set → List (Live Set) → ℕ → List PlainEvent →
    Asked (Option ℕ)
first_unblocked has ts place [] = Ok None
first_unblocked has ts place (e ∷ es) =
    elim (blocked has ts e) [
      | Err x ↦ Err x
      | Ok b ↦ elim b [ true ↦ first_unblocked has ts (suc place) es | false ↦ Ok (Some place) ]
    ]

-- in order of first appearance
abbrev pub distinct : List PlainEvent → List PlainEvent
distinct [] = []
distinct (e ∷ es) = e ∷ filter (λ x. not (same_event e x)) (distinct es)

abbrev pub candidates : {Set : Type 0} → List (Live Set) → List PlainEvent
candidates ts = distinct (flat_map (λ t. t.statement.request) ts)

-- what can be selected: candidates, or else a place of the queue
pub record Enabled : Type 0 where
  pub inner : List PlainEvent
  pub outer : Option ℕ

abbrev pub or_queued : {Set : Type 0} → Has Set → List (Live Set) → List PlainEvent →
    Asked (List PlainEvent) → Asked Enabled
or_queued has ts queue (Err x) = Err x
or_queued has ts queue (Ok (e ∷ es)) = Ok (record { inner = e ∷ es; outer = None })
or_queued has ts queue (Ok []) =
    without_fault (λ place. record { inner = []; outer = place }) (first_unblocked has ts 0 queue)

unfoldable pub selectable : {Set : Type 0} → Has Set → List (Live Set) → List PlainEvent → Asked Enabled
selectable has ts queue = or_queued has ts queue (unblocked has ts (candidates ts))

-- the first b-thread whose block set has e; asking stops there
unfoldable pub blocker : {Set : Type 0} → Has Set → List (Live Set) → PlainEvent → Asked (Option ℕ)
blocker has [] e = Ok None
blocker has (t ∷ ts) e =
    elim (has t.statement.block e) [
      | Err f ↦ Err (t.number, f)
      | Ok b ↦ elim b [ true ↦ Ok (Some t.number) | false ↦ blocker has ts e ]
    ]

abbrev pub requests : {Set : Type 0} → PlainEvent → Live Set → Bool
requests e t = list_any (same_event e) t.statement.request

-- whether some b-thread requests e
abbrev pub requested : {Set : Type 0} → List (Live Set) → PlainEvent → Bool
requested ts e = list_any (requests e) ts
