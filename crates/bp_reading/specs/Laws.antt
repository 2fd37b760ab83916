-- What is true of the texts of logs.
use Rattle.std.specs.Prelude.{◌≡◌, ℕ, ◌<◌, ◌≤◌, ◌^◌, true, false, List, [], ◌∷◌, length, Ok, Option, Some, None}
use Rattle.js_data.specs.Event.{IsEvent}
use Rattle.bp_log.specs.Options.{AreOptions}
use Rattle.bp_log.specs.Header.{PlainHeader}
use Rattle.bp_log.specs.Logs.{record_text, records_text, can_say, log_text}
use Rattle.bp_log.specs.declared.version.Version.{Version}
use Rattle.bp_log.specs.Records.{is_complete}
use Rattle.bp_log.specs.Verdicts.{IsVerdict}
use Rattle.bp_log.specs.declared.limits.TheConstants.{MOST_BYTES}
use Rattle.bp_log.specs.declared.record.Record.{Record}
use Rattle.bp_log.specs.declared.record.Record.TheVariants.{In, Bad, Eof, Sel, End}
use Rattle.bp_reading.specs.declared.limits.TheConstants.{MOST_LINE_BYTES, MOST_RECORDS}
use Rattle.bp_reading.specs.Heads.{Refusal, header_at}
use Rattle.bp_reading.specs.Lines.{record_at}
use Rattle.bp_reading.specs.Reading.{Stage, first_stage, after, can_stand, Says}

-- ---- what headers and records meet by their types

pub record IsHeader (h : PlainHeader) : Type 0 where
  pub seed : h.options.seed < 2 ^ 64
  pub options : AreOptions h.options
  pub program : length h.program ≤ MOST_BYTES

abbrev pub IsRecord : Record → Type 0
IsRecord (In j e) = (j < 2 ^ 32) × IsEvent e
IsRecord (Bad j line) = (j < 2 ^ 32) × (line < 2 ^ 32)
IsRecord (Eof j) = j < 2 ^ 32
IsRecord (Sel e) = IsEvent e
IsRecord (End v) = IsVerdict v

abbrev pub AreRecords : List Record → Type 0
AreRecords [] = Unit {0}
AreRecords (r ∷ rs) = IsRecord r × AreRecords rs

-- ---- the laws

-- no two logs, of one version or of two, have one text
abbrev pub OneReading : Type 0
OneReading =
    (v w : Version) (h g : PlainHeader) (rs ss : List Record) →
    IsHeader h → IsHeader g → AreRecords rs → AreRecords ss →
    can_say v h.options.wait ≡ true → can_say w g.options.wait ≡ true →
    log_text v h rs ≡ log_text w g ss → (v ≡ w) × (h ≡ g) × (rs ≡ ss)

-- the records can stand, one after another, each on a line that isn't too long, and the last is `end`
abbrev pub Stands : Stage → List Record → Type 0
Stands s [] = s.ended ≡ true
Stands s (r ∷ rs) =
    (s.ended ≡ false) × (s.lines < MOST_RECORDS) × (can_stand s r ≡ true) ×
    (length (record_text r) ≤ MOST_LINE_BYTES) × Stands (after s r) rs

-- the text of a header and a complete list says that header and that list
abbrev pub LogsAreRead : Type 0
LogsAreRead =
    (v : Version) (h : PlainHeader) (rs : List Record) →
    IsHeader h → AreRecords rs → can_say v h.options.wait ≡ true →
    Stands (first_stage v h.options.injectors) rs →
    (header_at (log_text v h rs) ≡ Ok ((v, h), records_text rs)) ×
    Says (first_stage v h.options.injectors) (records_text rs) rs None

-- the bytes are the text of the header and the records, which are complete and break no rule of lines
pub record IsLog (v : Version) (bytes : List ℕ) (h : PlainHeader) (rs : List Record) : Type 0 where
  pub text : bytes ≡ log_text v h rs
  pub version : can_say v h.options.wait ≡ true
  pub complete : is_complete rs ≡ true
  pub header : IsHeader h
  pub records : AreRecords rs
  pub stands : Stands (first_stage v h.options.injectors) rs

-- what bytes say as a header and records up to a good end is a log, and the bytes are its text
abbrev pub ReadLogsAreTexts : Type 0
ReadLogsAreTexts =
    (bytes rest : List ℕ) (v : Version) (h : PlainHeader) (rs : List Record) →
    header_at bytes ≡ Ok ((v, h), rest) →
    Says (first_stage v h.options.injectors) rest rs None → IsLog v bytes h rs

-- the line is the text of the record, or of none
abbrev pub Spells : List ℕ → Option Record → Type 0
Spells line (Some r) = IsRecord r × (line ≡ record_text r)
Spells line None = (r : Record) → IsRecord r → ¬ (line ≡ record_text r)

-- a line says the record whose text it is, and is refused where it is the text of none
abbrev pub LinesAreTexts : Type 0
LinesAreTexts = (line : List ℕ) → Spells line (record_at line)

-- from each stage on all bytes say one list of records and one end, and no other
abbrev pub ReadOneWay : Type 0
ReadOneWay =
    (s : Stage) (bytes : List ℕ) →
    (rs : List Record) × (f : Option Refusal) × Says s bytes rs f ×
    ((ss : List Record) (g : Option Refusal) → Says s bytes ss g → (ss ≡ rs) × (g ≡ f))
