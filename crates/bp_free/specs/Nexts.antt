-- What the next line of a free run may be, where all its lines so far were said.
use Rattle.std.specs.Prelude.{◌≡◌, ◌⊎◌, ℕ, List, Option, Some, None, slice_get}
use Rattle.std.specs.List.{All}
use Rattle.js_data.specs.Event.{PlainEvent, IsEvent}
use Rattle.bp_log.specs.Options.{PlainOptions}
use Rattle.bp_log.specs.declared.trace.Line.{Line}
use Rattle.bp_log.specs.declared.trace.Line.TheVariants as trace
use Rattle.bp_log.specs.declared.verdict.Verdict.{Verdict}
use Rattle.bp_run.specs.Bodies.{Code}
use Rattle.bp_run.specs.Configuration.{Stand}
use Rattle.bp_run.specs.Selecting.{Enabled}
use Rattle.bp_run.specs.Story.{line_of_choice}
use Rattle.bp_free.specs.Due.{Goes, due}
use Rattle.bp_free.specs.Free.{place_in, stop_of, free, IsFreeEnd}

-- this event may come, from this place, and does not stop the run
pub record MayCome {Origin Set : Type 0} (l : Code Origin Set) (o : PlainOptions) (s : Stand Origin)
    (e : PlainEvent) (place : Option ℕ) : Type 0 where
  pub enabled : Enabled
  pub goes : due l o s ≡ Goes enabled
  pub placed : place_in enabled s.queue e ≡ Some place
  pub free : stop_of l s e ≡ None

pub record EventNext {Origin Set : Type 0} (l : Code Origin Set) (o : PlainOptions) (s : Stand Origin)
    (d : Line) : Type 0 where
  pub event : PlainEvent
  pub place : Option ℕ
  pub comes : MayCome l o s event place
  pub line : d ≡ line_of_choice event place

pub record VerdictNext {Origin Set : Type 0} (l : Code Origin Set) (o : PlainOptions) (s : Stand Origin)
    (d : Line) : Type 0 where
  pub verdict : Verdict
  pub ends : IsFreeEnd l o s verdict
  pub line : d ≡ trace.Verdict verdict

abbrev pub MayBeNext : {Origin Set : Type 0} → Code Origin Set → PlainOptions → Stand Origin → Line →
    Type 0
MayBeNext l o s d = EventNext l o s d ⊎ VerdictNext l o s d

-- what can be selected are events that a program can name
pub record AreReal (x : Enabled) (queue : List PlainEvent) : Type 0 where
  pub inner : All IsEvent x.inner
  pub outer : (i : ℕ) (e : PlainEvent) → x.outer ≡ Some i → slice_get queue i ≡ Some e → IsEvent e

-- wherever a free run stands, what can be selected are events that a program can name
abbrev pub SelectsReal : {Origin Set : Type 0} → Code Origin Set → PlainOptions → Type 0
SelectsReal {Origin} l o =
    (events : List PlainEvent) (s : Stand Origin) (x : Enabled) →
    free l o events ≡ Some s → due l o s ≡ Goes x → AreReal x s.queue
