-- What an answer about a trace says.
use Rattle.std.specs.Prelude.{◌≡◌, ◌⊎◌, ℕ, ◌+◌, ◌-◌, ◌^◌, ◌<◌, min, List, [], ◌∷◌, ◌++◌, length, Some}
use Rattle.js_data.specs.Event.{PlainEvent}
use Rattle.bp_log.specs.Options.{PlainOptions}
use Rattle.bp_log.specs.Texts.{lines_text}
use Rattle.bp_log.specs.declared.trace.Line.{Line}
use Rattle.bp_run.specs.Bodies.{Code}
use Rattle.bp_run.specs.Configuration.{Stand}
use Rattle.bp_free.specs.declared.answer.Answer.{Answer}
use Rattle.bp_free.specs.declared.answer.Answer.TheVariants.{Yes, No}
use Rattle.bp_free.specs.declared.answer.Reason.{Reason}
use Rattle.bp_free.specs.Free.{free}
use Rattle.bp_free.specs.Traces.{FreeRun, free_text, IsTrace}
use Rattle.bp_free.specs.Wrong.{IsFirstWrong}
use Rattle.bp_free.specs.Reasons.{line_in, reason_of, reason_behind}

-- the line of the last of these events is among the first so many
abbrev pub IsPast : {Origin Set : Type 0} → Code Origin Set → PlainOptions → List PlainEvent → ℕ → Type 0
IsPast {Origin} l o events n =
    (es : List PlainEvent) (e : PlainEvent) (s : Stand Origin) →
    events ≡ es ++ e ∷ [] → free l o es ≡ Some s → length s.lines < n

-- the lines before it are those of a free run, of which these were said and those are due
pub record IsWrongAmong {Origin Set : Type 0} (l : Code Origin Set) (o : PlainOptions)
    (bytes : List ℕ) (n : ℕ) (r : Reason) : Type 0 where
  pub events : List PlainEvent
  pub stand : Stand Origin
  pub leads : free l o events ≡ Some stand
  pub said : List Line
  pub ahead : List Line
  pub lines : stand.lines ≡ said ++ ahead
  pub past : IsPast l o events (length said)
  pub rest : List ℕ
  pub text : bytes ≡ lines_text said ++ rest
  pub number : n ≡ length said + 1
  pub reason : r ≡ reason_of l o stand ahead (line_in rest)

-- the lines before it are all those of a free run with its end
pub record IsWrongBehind {Origin Set : Type 0} (l : Code Origin Set) (o : PlainOptions)
    (bytes : List ℕ) (n : ℕ) (r : Reason) : Type 0 where
  pub run : FreeRun l o
  pub rest : List ℕ
  pub text : bytes ≡ free_text run ++ rest
  pub number : n ≡ length run.stand.lines + 2
  pub reason : r ≡ reason_behind (line_in rest)

-- it is no trace: this is the first wrong line, or one past the greatest number that can be told, and
-- this is why
pub record IsNoTrace {Origin Set : Type 0} (l : Code Origin Set) (o : PlainOptions) (bytes : List ℕ)
    (n : ℕ) (r : Reason) : Type 0 where
  pub line : ℕ
  pub first : IsFirstWrong l o bytes line
  -- a trace is not refused, although no line follows its last
  pub none : (m : ℕ) → ¬ IsTrace l o bytes m
  pub why : IsWrongAmong l o bytes line r ⊎ IsWrongBehind l o bytes line r
  pub told : n ≡ min line (2 ^ 32 - 1)

-- the answer about these bytes
abbrev pub IsAudit : {Origin Set : Type 0} → Code Origin Set → PlainOptions → List ℕ → Answer → Type 0
IsAudit l o bytes (Yes n) = IsTrace l o bytes n
IsAudit l o bytes (No n r) = IsNoTrace l o bytes n r
