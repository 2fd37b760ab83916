-- What may come next where a free run stands: any event that can be selected, whatever a strategy
-- would choose.
use Rattle.std.specs.Prelude.{ℕ, ◌==◌, List, [], ◌∷◌, length, Option, Some, None, Ok, Err, if◌then◌else◌}
use Rattle.js_data.specs.Event.{PlainEvent}
use Rattle.bp_log.specs.Options.{PlainOptions}
use Rattle.bp_log.specs.declared.limits.TheConstants.{MOST_WAITING}
use Rattle.bp_log.specs.declared.verdict.Verdict.{Verdict}
use Rattle.bp_log.specs.declared.verdict.Verdict.TheVariants as verdict
use Rattle.bp_run.specs.Bodies.{Code}
use Rattle.bp_run.specs.Configuration.{Stand}
use Rattle.bp_run.specs.Selecting.{Asked, Enabled, live, selectable}
use Rattle.bp_run.specs.Story.{fault_verdict}

-- this verdict alone; or one of these events, or the verdict with which one of them stops the run; or,
-- as nothing can be selected, this verdict
pub data Due : Type 0 where
  Ends : Verdict → Due
  Goes : Enabled → Due
  Idles : Verdict → Due

-- no injector is read, so none is waited for
abbrev pub idle_verdict : {Origin : Type 0} → Stand Origin → Verdict
idle_verdict s =
    if length s.queue == MOST_WAITING then verdict.Queue else verdict.Quiet s.transitions

-- something can be selected: the steps were made, or not
abbrev pub due_open : {Origin : Type 0} → PlainOptions → Stand Origin → Enabled → Due
due_open o s x = if s.transitions == o.steps then Ends (verdict.Steps o.steps) else Goes x

abbrev pub due_among : {Origin : Type 0} → PlainOptions → Stand Origin → List PlainEvent → Option ℕ → Due
due_among o s [] None = Idles (idle_verdict s)
due_among o s [] (Some place) = due_open o s (record { inner = []; outer = Some place })
due_among o s (e ∷ es) outer = due_open o s (record { inner = e ∷ es; outer = outer })

abbrev pub due_asked : {Origin : Type 0} → PlainOptions → Stand Origin → Asked Enabled → Due
due_asked o s (Err x) = Ends (fault_verdict s x)
due_asked o s (Ok x) = due_among o s x.inner x.outer

abbrev pub due_unless : {Origin : Type 0} → PlainOptions → Stand Origin → Asked Enabled →
    Option Verdict → Due
due_unless o s x (Some v) = Ends v
due_unless o s x None = due_asked o s x

unfoldable pub due : {Origin Set : Type 0} → Code Origin Set → PlainOptions → Stand Origin → Due
due l o s = due_unless o s (selectable l.has (live l s) s.queue) s.verdict
