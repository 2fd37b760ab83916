-- What was recorded of a run: equality, and lists that are complete.
use Rattle.std.specs.Prelude.{Bool, true, false, ◌&&◌, ◌==◌, List, [], ◌∷◌, IsTrue, Option, Some, None}
use Rattle.js_data.specs.Event.{same_event}
use Rattle.bp_log.specs.Verdicts.{same_verdict}
use Rattle.bp_log.specs.declared.verdict.Verdict.{Verdict}
use Rattle.bp_log.specs.declared.record.Record.{Record}
use Rattle.bp_log.specs.declared.record.Record.TheVariants.{In, Bad, Eof, Sel, End}

abbrev pub same_record : Record → Record → Bool
same_record (In j e) (In k f) = (j == k) && same_event e f
same_record (Bad j n) (Bad k m) = (j == k) && (n == m)
same_record (Eof j) (Eof k) = j == k
same_record (Sel e) (Sel f) = same_event e f
same_record (End v) (End w) = same_verdict v w
same_record _ _ = false

-- whether the last record is the end
abbrev pub is_complete : List Record → Bool
is_complete [] = false
is_complete (End v ∷ []) = true
is_complete (r ∷ rs) = is_complete rs

abbrev pub Complete : List Record → Type 0
Complete records = IsTrue (is_complete records)

-- the verdict of the record of an end
abbrev pub verdict_in : Record → Option Verdict
verdict_in (In j e) = None
verdict_in (Bad j n) = None
verdict_in (Eof j) = None
verdict_in (Sel e) = None
verdict_in (End v) = Some v

-- the verdict with which the records end
abbrev pub verdict_of : List Record → Option Verdict
verdict_of [] = None
verdict_of (End v ∷ []) = Some v
verdict_of (r ∷ rs) = verdict_of rs
