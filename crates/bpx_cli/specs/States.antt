-- What is said of the state of a log.
use Rattle.std.specs.Prelude.{ℕ, List, Option}
use Rattle.bp_base.specs.Worlds.{Holdings}
use Rattle.bp_answers.specs.Asking.{IsState}
use Rattle.bpx_cli.specs.declared.state.State.{State}
use Rattle.bpx_cli.specs.declared.ended.Ended.{Ended}
use Rattle.bpx_cli.specs.Logs.{About, IsSaidOf, IsUnsaid}

-- the state of the story of the log's records, of the first so many or of all, or why it has none
abbrev pub states : State → About
states asked bytes says = IsState bytes asked.number says

-- the text is that state
abbrev pub IsStateOf : Option Holdings → State → List ℕ → Type 0
IsStateOf holds asked text = IsSaidOf holds asked.log (states asked) text

-- why no state is told
abbrev pub IsUnstated : Option Holdings → State → Ended → Type 0
IsUnstated holds asked end = IsUnsaid holds asked.log (states asked) end
