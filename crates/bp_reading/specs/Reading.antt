-- Reading the records of a log, one after another.
use Rattle.std.specs.Prelude.{◌≡◌, ℕ, ◌+◌, ◌&&◌, ◌==◌, Bool, true, false, not, nat_lt, nat_le, if◌then◌else◌, List, [], ◌∷◌, ◌++◌, Option, Some, None, option_and_then}
use Rattle.std.specs.List.{list_any}
use Rattle.bp_log.specs.declared.version.Version.{Version}
use Rattle.bp_log.specs.declared.record.Record.{Record}
use Rattle.bp_log.specs.declared.record.Record.TheVariants.{In, Bad, Eof, Sel, End}
use Rattle.bp_log.specs.declared.verdict.Verdict.{Verdict}
use Rattle.bp_log.specs.declared.verdict.Verdict.TheVariants as verdict
use Rattle.bp_reading.specs.declared.limits.TheConstants.{MOST_RECORDS}
use Rattle.bp_reading.specs.Lines.{record_at}
use Rattle.bp_reading.specs.Heads.{Front, nothing, partial, excess, whole, line_at, line_room, Refusal, record_line, cut}

-- what is known of the log and of the records before: its version, how many injectors there are, which
-- of them have ended, how many lines there were, and whether the last was `end`
pub record Stage : Type 0 where
  pub version : Version
  pub injectors : ℕ
  pub over : List ℕ
  pub lines : ℕ
  pub ended : Bool

abbrev pub first_stage : Version → ℕ → Stage
first_stage version injectors = record {
  version = version;
  injectors = injectors;
  over = [];
  lines = 0;
  ended = false;
}

abbrev pub is_live : Stage → ℕ → Bool
is_live s j = nat_lt j s.injectors && not (list_any (λ i. i == j) s.over)

-- the verdict names no injector that isn't there
abbrev pub is_known : Stage → Verdict → Bool
is_known s (verdict.Bad j line) = nat_lt j s.injectors
is_known s _ = true

-- the record can stand next
abbrev pub can_stand : Stage → Record → Bool
can_stand s (In j e) = is_live s j
can_stand s (Bad j line) = is_live s j
can_stand s (Eof j) = is_live s j
can_stand s (Sel e) = true
can_stand s (End v) = is_known s v

abbrev pub after : Stage → Record → Stage
after s (In j e) = record s { lines = s.lines + 1 }
after s (Bad j line) = record s { over = s.over ++ j ∷ []; lines = s.lines + 1 }
after s (Eof j) = record s { over = s.over ++ j ∷ []; lines = s.lines + 1 }
after s (Sel e) = record s { lines = s.lines + 1 }
after s (End v) = record s { lines = s.lines + 1; ended = true }

abbrev pub if_stands : Stage → Record → Option Record
if_stands s r = if can_stand s r then Some r else None

-- the record that the line says, where it can stand next
abbrev pub next_record : Stage → List ℕ → Option Record
next_record s line = option_and_then (if_stands s) (record_at line)

-- nothing follows the end
abbrev pub behind_end : List ℕ → Front
behind_end [] = nothing
behind_end (b ∷ bytes) = excess

-- no further line can begin
abbrev pub too_many : List ℕ → Front
too_many [] = partial
too_many (b ∷ bytes) = excess

-- what the bytes begin with at this stage
abbrev pub front_at : Stage → List ℕ → Front
front_at s bytes =
    if s.ended then behind_end bytes else
    (if nat_le MOST_RECORDS s.lines then too_many bytes else line_at (line_room s.version) bytes)

-- a record and the bytes after its line, the good end, or a refusal
pub data Next : Type 0 where
  found : Record → List ℕ → Next
  finished : Next
  refused : Refusal → Next

abbrev pub next_found : Stage → List ℕ → Option Record → Next
next_found s rest None = refused (record_line (s.lines + 1))
next_found s rest (Some r) = found r rest

abbrev pub next_of : Stage → Front → Next
next_of s nothing = finished
next_of s partial = refused cut
next_of s excess = refused (record_line (s.lines + 1))
next_of s (whole line rest) = next_found s rest (next_record s line)

-- what stands next at this stage of the bytes
unfoldable pub next_at : Stage → List ℕ → Next
next_at s bytes = next_of s (front_at s bytes)

-- from this stage on the bytes say these records, and then they end well or are refused
abbrev pub Says : Stage → List ℕ → List Record → Option Refusal → Type 0
Says s bytes [] None = next_at s bytes ≡ finished
Says s bytes [] (Some f) = next_at s bytes ≡ refused f
Says s bytes (r ∷ rs) f =
    (rest : List ℕ) × (next_at s bytes ≡ found r rest) × Says (after s r) rest rs f

-- at this stage the bytes begin with these records; after them that stage and those bytes are left
abbrev pub BeginsWith : Stage → List ℕ → List Record → Stage → List ℕ → Type 0
BeginsWith s bytes [] t left = (t ≡ s) × (left ≡ bytes)
BeginsWith s bytes (r ∷ rs) t left =
    (rest : List ℕ) × (next_at s bytes ≡ found r rest) × BeginsWith (after s r) rest rs t left

-- what was taken of the bytes, before the rest, says no more at this stage than no bytes do
abbrev pub BreaksOff : Stage → List ℕ → List ℕ → Type 0
BreaksOff s bytes rest =
    (taken : List ℕ) × (bytes ≡ taken ++ rest) × (next_at s taken ≡ next_at s [])
