-- The outcome that a pause of a machine is.
use Rattle.std.specs.Prelude.{ℕ, Option, Some, None}
use Rattle.js_value.specs.Value.{PlainValue, PlainSet}
use Rattle.js_frames.specs.declared.machine.Pause.{Pause}
use Rattle.js_frames.specs.declared.machine.Pause.TheVariants as pause
use Rattle.bp_run.specs.Bodies as run
use Rattle.bp_meaning.specs.Statements.{statement_of}
use Rattle.bp_meaning.specs.After.{stopped_with}

-- at `bp.sync`, with what is asked there and its line
abbrev pub asked_outcome : Option (PlainValue × PlainValue) → Option ℕ → Option (run.Outcome PlainSet)
asked_outcome (Some asked) (Some line) = Some (stopped_with (statement_of asked.0 asked.1) line)
asked_outcome _ _ = None

-- none where the machine can go on
abbrev pub outcome_of_pause : Pause → Option (PlainValue × PlainValue) → Option ℕ
    → Option (run.Outcome PlainSet)
outcome_of_pause pause.More asked line = None
outcome_of_pause pause.AtSync asked line = asked_outcome asked line
outcome_of_pause pause.Ended asked line = Some run.Outcome.Ended
outcome_of_pause (pause.Broken fault at) asked line = Some (run.Outcome.Broken fault at)
outcome_of_pause (pause.Violated text) asked line = Some (run.Outcome.Violated text)
outcome_of_pause pause.Spent asked line = Some run.Outcome.Spent
