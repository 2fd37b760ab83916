-- The records of a log, as far as they are asked for.
use Rattle.std.specs.Prelude.{◌≡◌, ◌⊎◌, ◌<◌, ℕ, List, length, Option, Some, None, IfSome}
use Rattle.bp_log.specs.declared.record.Record.{Record}
use Rattle.bp_reading.specs.Heads.{cut}
use Rattle.bp_reading.specs.Reading.{Stage, Next, finished, refused, next_at, BeginsWith}
use Rattle.bp_reader.specs.Reads.{MeansNext}
use Rattle.bp_reader.specs.declared.fault.LogFault.{LogFault}
use Rattle.bp_reader.specs.declared.fault.LogFault.TheVariants as log_fault

-- the log ends here, well or cut
abbrev pub IsEnd : Next → Type 0
IsEnd x = (x ≡ finished) ⊎ (x ≡ refused cut)

-- this many records, or all where no number is said
abbrev pub AreAsked : Option ℕ → List Record → Next → Type 0
AreAsked None rs x = IsEnd x
AreAsked (Some n) rs x = length rs ≡ n

-- the log ends with fewer records than this many
abbrev pub AreFewer : Option ℕ → List Record → Next → Type 0
AreFewer None rs x = ⊥
AreFewer (Some n) rs x = (length rs < n) × IsEnd x

-- What stands next is refused, as the fault tells, where fewer records were read than were asked for; a
-- log that is cut is not refused. Of a fault of reading it is said elsewhere that its count rose.
abbrev pub IsSpoiled : Option ℕ → LogFault → List Record → Next → Type 0
IsSpoiled number f rs x =
    (f ≡ log_fault.Cut → ⊥) × IfSome number (λ n. length rs < n) × MeansNext f x

-- the bytes begin with records, after which this holds of them and of what stands next
abbrev pub ReadsSome : Stage → List ℕ → (List Record → Next → Type 0) → Type 0
ReadsSome s bytes holds =
    (rs : List Record) × (t : Stage) × (left : List ℕ)
    × BeginsWith s bytes rs t left × holds rs (next_at t left)
