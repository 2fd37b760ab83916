-- The lines of a run as text.
use Rattle.std.specs.Prelude.{ℕ, List, [], ◌∷◌, ◌++◌, flat_map, decimal, codes}
use Rattle.js_data.specs.Faults.{fault_name}
use Rattle.js_data.specs.JsonText.{quoted_text, event_text}
use Rattle.bp_log.specs.declared.limits.TheConstants.{MOST_WAITING, MOST_THREADS, MOST_WEIGHT}
use Rattle.bp_log.specs.declared.trace.Line.{Line}
use Rattle.bp_log.specs.declared.trace.Line.TheVariants.{Event, External, Log, Done, Interrupted, Verdict as Ended_by}
use Rattle.bp_log.specs.declared.verdict.Place.{Place}
use Rattle.bp_log.specs.declared.verdict.Place.TheVariants.{Top, Thread}
use Rattle.bp_log.specs.declared.verdict.Verdict.{Verdict}
use Rattle.bp_log.specs.declared.verdict.Verdict.TheVariants.{Quiet, Violated, Fault, Spent, Steps, Queue, Threads, Weight, Bad}

abbrev pub place_text : Place → List ℕ
place_text Top = codes "top"
place_text (Thread name) = quoted_text name

abbrev pub verdict_text : Verdict → List ℕ
verdict_text (Quiet n) = codes "quiet " ++ decimal n
verdict_text (Violated place t) = codes "violated " ++ place_text place ++ codes " " ++ quoted_text t
verdict_text (Fault place line f) =
    codes "fault " ++ place_text place ++ codes " " ++ decimal line ++ codes " " ++ fault_name f
verdict_text (Spent place) = codes "spent " ++ place_text place
verdict_text (Steps n) = codes "limit steps " ++ decimal n
verdict_text Queue = codes "limit queue " ++ decimal MOST_WAITING
verdict_text Threads = codes "limit bthreads " ++ decimal MOST_THREADS
verdict_text Weight = codes "limit weight " ++ decimal MOST_WEIGHT
verdict_text (Bad j line) = codes "bad " ++ decimal j ++ codes " " ++ decimal line

-- a line of the trace, without its end
unfoldable pub line_text : Line → List ℕ
line_text (Event e) = codes "event " ++ event_text e
line_text (External e) = codes "external " ++ event_text e
line_text (Log place t) = codes "log " ++ place_text place ++ codes " " ++ quoted_text t
line_text (Done name) = codes "done " ++ quoted_text name
line_text (Interrupted name) = codes "interrupted " ++ quoted_text name
line_text (Ended_by v) = codes "verdict " ++ verdict_text v

abbrev pub whole_line : Line → List ℕ
whole_line line = line_text line ++ 10 ∷ []

unfoldable pub lines_text : List Line → List ℕ
lines_text lines = flat_map whole_line lines
