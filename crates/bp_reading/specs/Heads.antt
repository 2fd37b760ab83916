-- The lines of a log, and its header.
use Rattle.std.specs.Prelude.{◌≡◌, ◌++◌, ℕ, Bool, true, zero, suc, ◌-◌, ◌==◌, nat_le, if◌then◌else◌, List, [], ◌∷◌, Option, Some, None, Result, Ok, Err, option_and_then, codes}
use Rattle.bp_log.specs.Options.{PlainOptions}
use Rattle.bp_log.specs.Header.{PlainHeader}
use Rattle.bp_log.specs.Logs.{strategy_at, version_of, wait_at}
use Rattle.bp_log.specs.declared.limits.TheConstants.{MOST_BYTES, MOST_BUDGET, MOST_STEPS, MOST_INJECTORS}
use Rattle.bp_log.specs.declared.options.Strategy.{Strategy}
use Rattle.bp_log.specs.declared.version.Version.{Version}
use Rattle.bp_log.specs.declared.version.Version.TheVariants.{First, Second}
use Rattle.bp_reading.specs.declared.limits.TheConstants.{MOST_LINE_BYTES}
use Rattle.bp_reading.specs.Words.{most_64, behind, number_behind}

-- what the bytes begin with
pub data Front : Type 0 where
  -- the input ends here, and may end here
  nothing : Front
  -- the input ends before the line does
  partial : Front
  -- what no line can begin with
  excess : Front
  -- a line without its LF, and the bytes after the LF
  whole : List ℕ → List ℕ → Front

abbrev pub onto : ℕ → Front → Front
onto b (whole line rest) = whole (b ∷ line) rest
onto b nothing = nothing
onto b partial = partial
onto b excess = excess

-- the first line, of at most `room` bytes
abbrev pub line_at : ℕ → List ℕ → Front
line_at room [] = partial
line_at room (b ∷ bytes) =
    if b == 10 then whole [] bytes else
    (if room == 0 then excess else onto b (line_at (room - 1) bytes))

-- what was taken of the bytes, before the rest, is a part of a line
abbrev pub LineBreaksOff : ℕ → List ℕ → List ℕ → Type 0
LineBreaksOff room bytes rest =
    (taken : List ℕ) × (bytes ≡ taken ++ rest) × (line_at room taken ≡ partial)

-- how many bytes the line of a record may have
abbrev pub line_room : Version → ℕ
line_room First = MOST_LINE_BYTES
line_room Second = MOST_LINE_BYTES

-- ---- what is refused

pub data Refusal : Type 0 where
  -- the first line
  version : Refusal
  -- another line of the header, or the byte after the program
  header : Refusal
  -- the line of a record, by its number from 1
  record_line : ℕ → Refusal
  -- the input ends too early
  cut : Refusal

-- ---- the header: what each part says, and the bytes after it

-- what was taken of the bytes, before the rest, ends too early
abbrev pub CutsOff : {A : Type 0} →
    (List ℕ → Result (A × List ℕ) Refusal) → List ℕ → List ℕ → Type 0
CutsOff says bytes rest =
    (taken : List ℕ) × (bytes ≡ taken ++ rest) × (says taken ≡ Err cut)

infixl 10 ◌>>=◌
abbrev pub ◌>>=◌ : {A B : Type 0} → Result A Refusal → (A → Result B Refusal) → Result B Refusal
(Ok x) >>= f = f x
(Err e) >>= f = Err e

abbrev pub or_else : {A : Type 0} → Refusal → List ℕ → Option A → Result (A × List ℕ) Refusal
or_else f rest None = Err f
or_else f rest (Some x) = Ok (x, rest)

-- what a line of the header says
abbrev pub said : {A : Type 0} → Refusal → (List ℕ → Option A) → Front → Result (A × List ℕ) Refusal
said f says nothing = Err cut
said f says partial = Err cut
said f says excess = Err f
said f says (whole line rest) = or_else f rest (says line)

unfoldable pub version_at : List ℕ → Result (Version × List ℕ) Refusal
version_at bytes = said version version_of (line_at MOST_LINE_BYTES bytes)

abbrev pub strategy_behind : List ℕ → Option Strategy
strategy_behind line = option_and_then strategy_at (behind (codes "strategy ") line)

unfoldable pub strategy_line_at : List ℕ → Result (Strategy × List ℕ) Refusal
strategy_line_at bytes = said header strategy_behind (line_at MOST_LINE_BYTES bytes)

abbrev pub from_least : ℕ → ℕ → Option ℕ
from_least least n = if nat_le least n then Some n else None

-- a number after a word, from `least` to `most`
abbrev pub field : List ℕ → ℕ → ℕ → List ℕ → Option ℕ
field word least most line = option_and_then (from_least least) (number_behind word most line)

unfoldable pub field_at : List ℕ → ℕ → ℕ → List ℕ → Result (ℕ × List ℕ) Refusal
field_at word least most bytes = said header (field word least most) (line_at MOST_LINE_BYTES bytes)

-- this many bytes, and an LF
unfoldable pub program_at : ℕ → List ℕ → Result (List ℕ × List ℕ) Refusal
program_at zero [] = Err cut
program_at zero (b ∷ bytes) = if b == 10 then Ok ([], bytes) else Err header
program_at (suc n) [] = Err cut
program_at (suc n) (b ∷ bytes) = program_at n bytes >>= λ p. Ok (b ∷ p.0, p.1)

-- what is said of waiting: by the first version nothing, and then a run waits
abbrev pub wait_behind : List ℕ → Option Bool
wait_behind line = option_and_then wait_at (behind (codes "wait ") line)

unfoldable pub wait_line_at : Version → List ℕ → Result (Bool × List ℕ) Refusal
wait_line_at First bytes = Ok (true, bytes)
wait_line_at Second bytes = said header wait_behind (line_at MOST_LINE_BYTES bytes)

-- the strategy and the seed
unfoldable pub choice_at : List ℕ → Result ((Strategy × ℕ) × List ℕ) Refusal
choice_at bytes = do
  strategy ← strategy_line_at bytes
  seed ← field_at (codes "seed ") 0 most_64 strategy.1
  Ok ((strategy.0, seed.0), seed.1)

-- the budget and the steps
unfoldable pub limits_at : List ℕ → Result ((ℕ × ℕ) × List ℕ) Refusal
limits_at bytes = do
  budget ← field_at (codes "budget ") 1 MOST_BUDGET bytes
  steps ← field_at (codes "steps ") 1 MOST_STEPS budget.1
  Ok ((budget.0, steps.0), steps.1)

-- the options, of a run that waits
unfoldable pub options_at : List ℕ → Result (PlainOptions × List ℕ) Refusal
options_at bytes = do
  choice ← choice_at bytes
  limits ← limits_at choice.1
  injectors ← field_at (codes "injectors ") 0 MOST_INJECTORS limits.1
  Ok (
    record {
      strategy = choice.0.0;
      seed = choice.0.1;
      budget = limits.0.0;
      steps = limits.0.1;
      injectors = injectors.0;
      wait = true;
    },
    injectors.1,
  )

-- all options
unfoldable pub settings_at : Version → List ℕ → Result (PlainOptions × List ℕ) Refusal
settings_at v bytes = do
  options ← options_at bytes
  wait ← wait_line_at v options.1
  Ok (record options.0 { wait = wait.0 }, wait.1)

-- the header after its first line
unfoldable pub body_at : Version → List ℕ → Result (PlainHeader × List ℕ) Refusal
body_at v bytes = do
  options ← settings_at v bytes
  size ← field_at (codes "program ") 0 MOST_BYTES options.1
  program ← program_at size.0 size.1
  Ok (record { options = options.0; program = program.0 }, program.1)

-- the version and the header
unfoldable pub header_at : List ℕ → Result ((Version × PlainHeader) × List ℕ) Refusal
header_at bytes = do
  v ← version_at bytes
  h ← body_at v.0 v.1
  Ok ((v.0, h.0), h.1)
