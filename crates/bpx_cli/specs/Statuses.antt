-- Statuses and notes.
use Rattle.std.specs.Prelude.{ℕ, List, [], codes}
use Rattle.bp_replay.specs.Notes.{bad_log_note}
use Rattle.bp_script.specs.Refusals.{note_of as refusal_note}
use Rattle.bpx_cli.specs.declared.ended.Ended.{Ended}
use Rattle.bpx_cli.specs.declared.ended.Ended.TheVariants.{Answered, Found, NoCommand, Refused, Absent, NotRead, NotWritten, NoMemory, BadLog}
use Rattle.bpx_cli.specs.declared.help.TheConstants.{USAGE}

abbrev pub status_of : Ended → ℕ
status_of Answered = 0
status_of Found = 1
status_of (Refused refusal) = 2
status_of Absent = 13
status_of NotRead = 8
status_of NotWritten = 9
status_of NoMemory = 10
status_of (BadLog fault) = 11
status_of NoCommand = 12

abbrev pub note_of : Ended → List ℕ
note_of Answered = []
note_of Found = []
note_of (Refused refusal) = refusal_note refusal
note_of Absent = codes "no such record or selection"
note_of NotRead = codes "read fault"
note_of NotWritten = codes "write fault"
note_of NoMemory = []
note_of (BadLog fault) = bad_log_note fault
note_of NoCommand = USAGE.now
