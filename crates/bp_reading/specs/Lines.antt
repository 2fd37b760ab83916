-- The record that a line says. No line fits two of the forms.
use Rattle.std.specs.Prelude.{ℕ, ◌==◌, if◌then◌else◌, List, [], ◌∷◌, Option, Some, None, option_map, option_and_then, codes}
use Rattle.std.specs.Option.{option_or}
use Rattle.std.specs.Str.{bytes_eq}
use Rattle.js_data.specs.declared.fault.Fault.{Fault}
use Rattle.js_data.specs.declared.fault.Fault.TheVariants as fault
use Rattle.bp_log.specs.declared.limits.TheConstants.{MOST_WAITING, MOST_THREADS, MOST_WEIGHT}
use Rattle.bp_log.specs.declared.record.Record.{Record}
use Rattle.bp_log.specs.declared.record.Record.TheVariants.{In, Bad, Eof, Sel, End}
use Rattle.bp_log.specs.declared.verdict.Place.{Place}
use Rattle.bp_log.specs.declared.verdict.Place.TheVariants.{Top, Thread}
use Rattle.bp_log.specs.declared.verdict.Verdict.{Verdict}
use Rattle.bp_log.specs.declared.verdict.Verdict.TheVariants as verdict
use Rattle.bp_reading.specs.Words.{number_at, most_32, behind, around, number_behind, numbers_at, compact_event_at, text_at, quoted_front}

-- ---- places

abbrev pub top_at : List ℕ → Option (Place × List ℕ)
top_at bytes = option_map (λ rest. (Top, rest)) (behind (codes "top") bytes)

-- the text at the front, in its quotation marks, and what stands after it
abbrev pub name_at : List ℕ → Option (List ℕ × List ℕ)
name_at bytes =
    option_and_then (λ p. option_map (λ name. (name, p.1)) (text_at p.0)) (quoted_front bytes)

abbrev pub thread_at : List ℕ → Option (Place × List ℕ)
thread_at bytes = option_map (λ p. (Thread p.0, p.1)) (name_at bytes)

-- the place at the front, and what stands after it
abbrev pub place_at : List ℕ → Option (Place × List ℕ)
place_at bytes = option_or (top_at bytes) (thread_at bytes)

-- ---- verdicts

abbrev pub quiet_at : List ℕ → Option Verdict
quiet_at line = option_map verdict.Quiet (number_behind (codes "quiet ") most_32 line)

abbrev pub steps_at : List ℕ → Option Verdict
steps_at line = option_map verdict.Steps (number_behind (codes "limit steps ") most_32 line)

abbrev pub if_same : ℕ → Verdict → ℕ → Option Verdict
if_same limit v n = if n == limit then Some v else None

-- the word of a limit, and the limit
abbrev pub limit_at : List ℕ → ℕ → Verdict → List ℕ → Option Verdict
limit_at word limit v line = option_and_then (if_same limit v) (number_behind word limit line)

abbrev pub bad_end_at : List ℕ → Option Verdict
bad_end_at line =
    option_map (λ p. verdict.Bad p.0 p.1) (option_and_then numbers_at (behind (codes "bad ") line))

abbrev pub limits_at : List ℕ → Option Verdict
limits_at line =
    option_or (limit_at (codes "limit queue ") MOST_WAITING verdict.Queue line)
    (option_or (limit_at (codes "limit bthreads ") MOST_THREADS verdict.Threads line)
    (limit_at (codes "limit weight ") MOST_WEIGHT verdict.Weight line))

abbrev pub numbered_at : List ℕ → Option Verdict
numbered_at line =
    option_or (quiet_at line)
    (option_or (steps_at line)
    (option_or (limits_at line) (bad_end_at line)))

-- a blank and a text
abbrev pub said_at : Place × List ℕ → Option Verdict
said_at p =
    option_and_then (λ rest. option_map (verdict.Violated p.0) (text_at rest)) (behind (32 ∷ []) p.1)

abbrev pub violated_at : List ℕ → Option Verdict
violated_at line =
    option_and_then (λ rest. option_and_then said_at (place_at rest)) (behind (codes "violated ") line)

-- the fault of a name
abbrev pub fault_at : List ℕ → Option Fault
fault_at name =
    if bytes_eq name (codes "whole") then Some fault.Whole else
    (if bytes_eq name (codes "fraction") then Some fault.Fraction else
    (if bytes_eq name (codes "zero") then Some fault.Zero else
    (if bytes_eq name (codes "type") then Some fault.Mistyped else
    (if bytes_eq name (codes "early") then Some fault.Early else
    (if bytes_eq name (codes "index") then Some fault.Index else
    (if bytes_eq name (codes "weight") then Some fault.Weight else
    (if bytes_eq name (codes "nesting") then Some fault.Nesting else
    (if bytes_eq name (codes "depth") then Some fault.Depth else
    (if bytes_eq name (codes "mode") then Some fault.Mode else
    (if bytes_eq name (codes "statement") then Some fault.Statement else
    (if bytes_eq name (codes "truth") then Some fault.Truth else None)))))))))))

-- a number, one blank, and the name of a fault
abbrev pub kind_at : Place → List ℕ → Option Verdict
kind_at place bytes =
    option_and_then
    (λ p. option_and_then (λ n. option_map (verdict.Fault place n) (fault_at p.1))
    (number_at most_32 p.0))
    (around 32 bytes)

-- a blank, and the kind
abbrev pub blamed_at : Place × List ℕ → Option Verdict
blamed_at p = option_and_then (kind_at p.0) (behind (32 ∷ []) p.1)

abbrev pub faulty_at : List ℕ → Option Verdict
faulty_at line =
    option_and_then (λ rest. option_and_then blamed_at (place_at rest)) (behind (codes "fault ") line)

-- nothing stands after the place
abbrev pub spent_by : Place → List ℕ → Option Verdict
spent_by place [] = Some (verdict.Spent place)
spent_by place (b ∷ bytes) = None

abbrev pub spent_at : List ℕ → Option Verdict
spent_at line =
    option_and_then (λ rest. option_and_then (λ p. spent_by p.0 p.1) (place_at rest))
    (behind (codes "spent ") line)

abbrev pub placed_at : List ℕ → Option Verdict
placed_at line = option_or (violated_at line) (option_or (faulty_at line) (spent_at line))

abbrev pub verdict_at : List ℕ → Option Verdict
verdict_at line = option_or (numbered_at line) (placed_at line)

-- ---- records

abbrev pub handed_at : List ℕ → Option Record
handed_at bytes =
    option_and_then
    (λ p. option_and_then (λ j. option_map (In j) (compact_event_at p.1)) (number_at most_32 p.0))
    (around 32 bytes)

abbrev pub in_at : List ℕ → Option Record
in_at line = option_and_then handed_at (behind (codes "in ") line)

abbrev pub bad_at : List ℕ → Option Record
bad_at line = option_map (λ p. Bad p.0 p.1) (option_and_then numbers_at (behind (codes "bad ") line))

abbrev pub eof_at : List ℕ → Option Record
eof_at line = option_map Eof (number_behind (codes "eof ") most_32 line)

abbrev pub sel_at : List ℕ → Option Record
sel_at line = option_map Sel (option_and_then compact_event_at (behind (codes "sel ") line))

abbrev pub end_at : List ℕ → Option Record
end_at line = option_map End (option_and_then verdict_at (behind (codes "end ") line))

-- the record that a line, without its LF, says
unfoldable pub record_at : List ℕ → Option Record
record_at line =
    option_or (in_at line)
    (option_or (bad_at line)
    (option_or (eof_at line)
    (option_or (sel_at line) (end_at line))))
