-- What a job keeps of its machine and its outcome together.
use Rattle.std.specs.Prelude.{Bool, true, false, Option, Some, None, is_some}
use Rattle.js_frames.specs.declared.machine.Machine.{Machine}
use Rattle.js_frames.specs.Runs.{asked_by}
use Rattle.bp_thread.specs.declared.outcome.Outcome.{Outcome}
use Rattle.bp_thread.specs.declared.outcome.Outcome.TheVariants.{Stopped}

-- where the outcome is there, so is the machine; and where it is a stop, the machine asks
abbrev pub fits_outcome : Option Machine → Option Outcome → Bool
fits_outcome m None = true
fits_outcome None (Some o) = false
fits_outcome (Some m) (Some (Stopped s)) = is_some (asked_by m)
fits_outcome (Some m) (Some o) = true
