-- What is said of why an event of a log was selected, and of who asks for one.
use Rattle.std.specs.Prelude.{ℕ, List, Option}
use Rattle.bp_base.specs.Worlds.{Holdings}
use Rattle.bp_answers.specs.Whys.{IsWhy}
use Rattle.bpx_cli.specs.declared.why.Why.{Why}
use Rattle.bpx_cli.specs.declared.ended.Ended.{Ended}
use Rattle.bpx_cli.specs.Logs.{About, IsSaidOf, IsUnsaid}

-- why the event of the selection was selected, or who asks for the event where the log ends; or why that is not said
abbrev pub explains : Why → About
explains asked bytes says = IsWhy bytes asked.subject says

-- the text is that
abbrev pub IsWhyOf : Option Holdings → Why → List ℕ → Type 0
IsWhyOf holds asked text = IsSaidOf holds asked.log (explains asked) text

-- why it is not told
abbrev pub IsUnexplained : Option Holdings → Why → Ended → Type 0
IsUnexplained holds asked end = IsUnsaid holds asked.log (explains asked) end
