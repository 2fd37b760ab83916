-- What turns leave of a core.
use Rattle.std.specs.Prelude.{◌≡◌, ◌⊎◌, List, [], ◌∷◌, ◌++◌}
use Rattle.js_meaning.specs.Bodies.{Origin}
use Rattle.bp_log.specs.declared.record.Record.{Record}
use Rattle.bp_log.specs.declared.record.Record.TheVariants.{End}
use Rattle.bp_log.specs.declared.trace.Line.{Line}
use Rattle.bp_log.specs.declared.verdict.Verdict.{Verdict}
use Rattle.bp_steps.specs.Steps.{Moment, pair_at, lends}
use Rattle.bp_floor.specs.declared.phase.Phase.{Phase}
use Rattle.bp_floor.specs.declared.phase.Phase.TheVariants.{Rest, Over}
use Rattle.bp_arbiter.specs.Arbiters.{PlainArbiter, Tells, code_in}
use Rattle.bp_core.specs.declared.stepping.Core.{Core}
use Rattle.bp_core.specs.Cores.{IsCoreAt}

-- the core, from which these lines were taken, is at this moment, and nothing of what is lent has begun
pub record IsHere (c : Core) (taken : List Line) (m : Moment Origin) : Type 0 where
  pub at : IsCoreAt c c.jobs.items taken m
  pub unbegun : m.lent ≡ lends (code_in c.arbiter) (pair_at m)

-- it is at some such moment
pub record IsSomewhereHere (c : Core) : Type 0 where
  pub taken : List Line
  pub moment : Moment Origin
  pub here : IsHere c taken moment

-- one record more, of a verdict
pub record EndsWith (old new : List Record) : Type 0 where
  pub verdict : Verdict
  pub records : new ≡ old ++ End verdict ∷ []

-- the run has ended by itself
pub record ClosesCore (m n : Moment Origin) (a : PlainArbiter) : Type 0 where
  pub ends : EndsWith m.records n.records
  pub over : a.phase ≡ Over

-- The core is at a moment to which turns lead, after the same lines. Nothing was recorded, or a
-- verdict, and then the run is over.
pub record IsTurnedFrom (new : Core) (taken : List Line) (m : Moment Origin) : Type 0 where
  pub next : Moment Origin
  pub here : IsHere new taken next
  pub records : (next.records ≡ m.records) ⊎ ClosesCore m next new.arbiter

-- wherever the core was, turns were made, or none
abbrev pub SettlesCore : Core → Core → Type 0
SettlesCore old new =
    (taken : List Line) (m : Moment Origin) → IsHere old taken m → IsTurnedFrom new taken m

-- Memory ran out in a turn: the records are as before or end with a verdict, and are a story still;
-- the lines taken and to be taken are the first of the story's.
pub record IsCutInTurns (a : PlainArbiter) (taken : List Line) (m : Moment Origin) : Type 0 where
  pub records : (a.records ≡ m.records) ⊎ EndsWith m.records a.records
  pub tells : Tells a taken

-- wherever the core was, memory ran out in a turn
abbrev pub CutsTurns : Core → Core → Type 0
CutsTurns old new =
    (taken : List Line) (m : Moment Origin) → IsHere old taken m
    → IsCutInTurns new.arbiter taken m

-- nothing is to be run: the run rests, or is over
abbrev pub IsSettled : Phase → Type 0
IsSettled f = (f ≡ Rest) ⊎ (f ≡ Over)
