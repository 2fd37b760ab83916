-- What turns leave of an arbiter, whatever run it serves.
use Rattle.std.specs.Prelude.{◌≡◌, ◌⊎◌, false, List, [], ◌∷◌, ◌++◌, Some}
use Rattle.js_meaning.specs.Bodies.{Origin}
use Rattle.bp_log.specs.declared.record.Record.TheVariants.{End}
use Rattle.bp_log.specs.declared.trace.Line.{Line}
use Rattle.bp_log.specs.declared.verdict.Verdict.{Verdict}
use Rattle.bp_run.specs.Configuration.{Configuration}
use Rattle.bp_run.specs.Settling.{Pair}
use Rattle.bp_floor.specs.declared.phase.Phase.TheVariants.{Over}
use Rattle.bp_arbiter.specs.Arbiters.{PlainArbiter, code_in, options_in, Recounts, StandsFor, is_lent, is_over}

-- after these lines it stands for some pair
abbrev pub StandsAfter : PlainArbiter → List Line → Type 0
StandsAfter a taken = (p : Pair Origin) × StandsFor a [] taken p

-- nothing was recorded, and the run has not ended
abbrev pub GoesOn : PlainArbiter → PlainArbiter → Type 0
GoesOn old new = (new.records ≡ old.records) × (is_over new.phase ≡ is_over old.phase)

-- the run has ended by itself: the verdict that the story had come to was recorded
pub record Closes (old new : PlainArbiter) : Type 0 where
  pub verdict : Verdict
  pub going : is_over old.phase ≡ false
  pub over : new.phase ≡ Over
  pub records : new.records ≡ old.records ++ End verdict ∷ []
  pub comes : (c : Configuration Origin) → Recounts old c → c.stand.verdict ≡ Some verdict

-- Turns were made, or none. Code and options are the same, and it stands for a pair after the same
-- lines. Nothing was recorded, or a verdict.
pub record Settles (old new : PlainArbiter) : Type 0 where
  pub code : code_in new ≡ code_in old
  pub options : options_in new ≡ options_in old
  pub stands : (taken : List Line) → StandsAfter old taken → StandsAfter new taken
  pub unlent : is_lent old.phase ≡ false → is_lent new.phase ≡ false
  pub recorded : GoesOn old new ⊎ Closes old new
