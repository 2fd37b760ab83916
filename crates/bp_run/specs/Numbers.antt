-- Entries and what is touched, by the numbers of their b-threads.
use Rattle.std.specs.Prelude.{ℕ, zero, suc, ◌+◌, ◌<◌, ◌≤◌, ◌==◌, true, List, [], ◌∷◌, ◌++◌, Option, Some, None, Ok, if◌then◌else◌}
use Rattle.js_data.specs.Event.{PlainEvent}
use Rattle.bp_run.specs.Configuration.{Thread}
use Rattle.bp_run.specs.Settling.{Entry}
use Rattle.bp_run.specs.Settling.Entry.{The_top, Runs, Stops}
use Rattle.bp_run.specs.Selecting.{Live, Has, Asked}
use Rattle.bp_run.specs.Choosing.{Touched, touched}
use Rattle.bp_run.specs.Choosing.Touched.{Moves, Interrupts}

-- the number of the top level is 0
abbrev pub number_of : {Origin : Type 0} → Entry Origin → ℕ
number_of The_top = 0
number_of (Runs i) = i
number_of (Stops i b) = i

abbrev pub number_in : Touched → ℕ
number_in (Moves i) = i
number_in (Interrupts i) = i

-- this many numbers, from the first one on
abbrev pub numbers_from : ℕ → ℕ → List ℕ
numbers_from first zero = []
numbers_from first (suc n) = numbers_from first n ++ (first + n) ∷ []

-- each number is above the one before it, and they lie from low up to high
abbrev pub IsRising : ℕ → ℕ → List ℕ → Type 0
IsRising low high [] = Unit {0}
IsRising low high (n ∷ ns) = (low ≤ n) × (n < high) × IsRising (n + 1) high ns

-- what happens to the b-thread of this number
abbrev pub touch_at : ℕ → List Touched → Option Touched
touch_at i [] = None
touch_at i (x ∷ xs) = if number_in x == i then Some x else touch_at i xs

-- the b-thread after that
abbrev pub after_touch : {Origin : Type 0} → PlainEvent → Option Touched → Thread Origin → Thread Origin
after_touch e None t = t
after_touch e (Some (Moves i)) t = record t { replies = t.replies ++ e ∷ [] }
after_touch e (Some (Interrupts i)) t = record t { ended = true }

-- what e does to a b-thread by its statement; nothing, where it states none
abbrev pub touch_of : {Set : Type 0} → Has Set → PlainEvent → Option (Live Set) → Asked (Option Touched)
touch_of has e None = Ok None
touch_of has e (Some t) = touched has e t
