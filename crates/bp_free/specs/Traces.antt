-- The traces of free runs.
use Rattle.std.specs.Prelude.{◌≡◌, ℕ, List, ◌++◌, length, Some}
use Rattle.js_data.specs.Event.{PlainEvent}
use Rattle.bp_log.specs.Options.{PlainOptions}
use Rattle.bp_log.specs.Texts.{lines_text, whole_line}
use Rattle.bp_log.specs.declared.trace.Line.TheVariants as trace
use Rattle.bp_log.specs.declared.verdict.Verdict.{Verdict}
use Rattle.bp_run.specs.Bodies.{Code}
use Rattle.bp_run.specs.Configuration.{Stand}
use Rattle.bp_free.specs.Free.{free, IsFreeEnd}

-- a free run with its end: the events lead to this stand, where it may end with this verdict
pub record FreeRun {Origin Set : Type 0} (l : Code Origin Set) (o : PlainOptions) : Type 0 where
  pub events : List PlainEvent
  pub stand : Stand Origin
  pub verdict : Verdict
  pub leads : free l o events ≡ Some stand
  pub ends : IsFreeEnd l o stand verdict

-- its text
abbrev pub free_text : {Origin Set : Type 0} → {l : Code Origin Set} → {o : PlainOptions} →
    FreeRun l o → List ℕ
free_text w = lines_text w.stand.lines ++ whole_line (trace.Verdict w.verdict)

-- the bytes are the text of a free run of so many events
pub record IsTrace {Origin Set : Type 0} (l : Code Origin Set) (o : PlainOptions) (bytes : List ℕ)
    (n : ℕ) : Type 0 where
  pub run : FreeRun l o
  pub text : bytes ≡ free_text run
  pub many : length run.events ≡ n

-- the text of some free run begins with these bytes
pub record BeginsTrace {Origin Set : Type 0} (l : Code Origin Set) (o : PlainOptions)
    (front : List ℕ) : Type 0 where
  pub run : FreeRun l o
  pub rest : List ℕ
  pub text : free_text run ≡ front ++ rest
