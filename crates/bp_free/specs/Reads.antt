-- How far a trace was read.
use Rattle.std.specs.Prelude.{◌≡◌, ℕ, List, ◌++◌, length, Some}
use Rattle.js_data.specs.Event.{PlainEvent}
use Rattle.bp_log.specs.Options.{PlainOptions}
use Rattle.bp_log.specs.Texts.{lines_text}
use Rattle.bp_log.specs.declared.trace.Line.{Line}
use Rattle.bp_run.specs.Bodies.{Code}
use Rattle.bp_run.specs.Configuration.{Stand}
use Rattle.bp_free.specs.Free.{free}
use Rattle.bp_free.specs.Traces.{FreeRun, free_text}
use Rattle.bp_free.specs.Audits.{IsPast}

-- each free run whose text begins with these bytes has these events first
abbrev pub Only : {Origin Set : Type 0} → Code Origin Set → PlainOptions → List ℕ → List PlainEvent →
    Type 0
Only l o front es =
    (w : FreeRun l o) (rest : List ℕ) → free_text w ≡ front ++ rest →
    (more : List PlainEvent) × (w.events ≡ es ++ more)

-- of the lines of the free run of these events those were there, and these are ahead
pub record IsRead {Origin Set : Type 0} (l : Code Origin Set) (o : PlainOptions) (bytes : List ℕ)
    (events : List PlainEvent) (s : Stand Origin) (said ahead : List Line) (rest : List ℕ) : Type 0 where
  pub leads : free l o events ≡ Some s
  pub lines : s.lines ≡ said ++ ahead
  pub text : bytes ≡ lines_text said ++ rest
  pub only : Only l o (lines_text said) events
  pub past : IsPast l o events (length said)
