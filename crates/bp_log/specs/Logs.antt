-- The text of a log: the options and the program of a run, and what was recorded of it.
use Rattle.std.specs.Prelude.{ℕ, Bool, true, false, List, [], ◌∷◌, ◌++◌, length, flat_map, decimal, codes, Option, Some, None, if◌then◌else◌}
use Rattle.std.specs.Str.{bytes_eq}
use Rattle.js_data.specs.JsonText.{event_text}
use Rattle.bp_log.specs.Options.{PlainOptions}
use Rattle.bp_log.specs.Header.{PlainHeader}
use Rattle.bp_log.specs.declared.options.Strategy.{Strategy}
use Rattle.bp_log.specs.declared.options.Strategy.TheVariants.{Simple, Ordered, Priority}
use Rattle.bp_log.specs.declared.version.Version.{Version}
use Rattle.bp_log.specs.declared.version.Version.TheVariants.{First, Second}
use Rattle.bp_log.specs.declared.record.Record.{Record}
use Rattle.bp_log.specs.declared.record.Record.TheVariants.{In, Bad, Eof, Sel, End}
use Rattle.bp_log.specs.Texts.{verdict_text}

-- a record, without its line end
unfoldable pub record_text : Record → List ℕ
record_text (In j e) = codes "in " ++ decimal j ++ codes " " ++ event_text e
record_text (Bad j line) = codes "bad " ++ decimal j ++ codes " " ++ decimal line
record_text (Eof j) = codes "eof " ++ decimal j
record_text (Sel e) = codes "sel " ++ event_text e
record_text (End v) = codes "end " ++ verdict_text v

abbrev pub whole_record : Record → List ℕ
whole_record r = record_text r ++ 10 ∷ []

unfoldable pub records_text : List Record → List ℕ
records_text records = flat_map whole_record records

abbrev pub strategy_name : Strategy → List ℕ
strategy_name Simple = codes "simple"
strategy_name Ordered = codes "ordered"
strategy_name Priority = codes "priority"

-- the strategy of a name
abbrev pub strategy_at : List ℕ → Option Strategy
strategy_at name =
    if bytes_eq name (codes "simple") then Some Simple else
    (if bytes_eq name (codes "ordered") then Some Ordered else
    (if bytes_eq name (codes "priority") then Some Priority else None))

-- all but whether the run waits
abbrev pub options_text : PlainOptions → List ℕ
options_text o =
    codes "strategy " ++ strategy_name o.strategy
    ++ codes "\nseed " ++ decimal o.seed
    ++ codes "\nbudget " ++ decimal o.budget
    ++ codes "\nsteps " ++ decimal o.steps
    ++ codes "\ninjectors " ++ decimal o.injectors

-- ---- versions: the first says nothing of waiting

-- the first line of a log, without its LF
abbrev pub version_line : Version → List ℕ
version_line First = codes "bp-log 1"
version_line Second = codes "bp-log 2"

-- the version of a first line
abbrev pub version_of : List ℕ → Option Version
version_of line =
    if bytes_eq line (version_line First) then Some First else
    (if bytes_eq line (version_line Second) then Some Second else None)

abbrev pub wait_name : Bool → List ℕ
wait_name true = codes "yes"
wait_name false = codes "no"

-- what is said of waiting by a name
abbrev pub wait_at : List ℕ → Option Bool
wait_at name =
    if bytes_eq name (wait_name true) then Some true else
    (if bytes_eq name (wait_name false) then Some false else None)

-- the line of waiting, after the line end of the one before
abbrev pub wait_text : Version → Bool → List ℕ
wait_text First wait = []
wait_text Second wait = codes "\nwait " ++ wait_name wait

-- a log of this version can say so of waiting: the first has only runs that wait
abbrev pub can_say : Version → Bool → Bool
can_say First wait = wait
can_say Second wait = true

abbrev pub header_text : Version → PlainHeader → List ℕ
header_text v h =
    version_line v ++ codes "\n" ++ options_text h.options ++ wait_text v h.options.wait
    ++ codes "\nprogram " ++ decimal (length h.program) ++ codes "\n" ++ h.program ++ codes "\n"

unfoldable pub log_text : Version → PlainHeader → List Record → List ℕ
log_text v h records = header_text v h ++ records_text records
