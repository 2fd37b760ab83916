-- How a command ends that printed this, to which this was answered of a log, or that has no program.
use Rattle.std.specs.Prelude.{ℕ, List, [], ◌∷◌, unwrap_or}
use Rattle.bp_loading.specs.declared.unloaded.Unloaded.{Unloaded}
use Rattle.bpx_cli.specs.declared.ended.Ended.{Ended}
use Rattle.bpx_cli.specs.declared.ended.Ended.TheVariants.{Answered, Found, Refused, Absent, NotRead, NoMemory, BadLog}
use Rattle.bp_answers.specs.declared.answer.NoAnswer.{NoAnswer}
use Rattle.bp_answers.specs.declared.answer.NoAnswer.TheVariants as answer
use Rattle.bpx_cli.specs.Logs.{trouble_of}

-- where nothing is printed, nothing was found
abbrev pub ended_by : List ℕ → Ended
ended_by [] = Answered
ended_by (b ∷ bs) = Found

-- how a command ends to which this was answered
abbrev pub ended_of_log : NoAnswer → Ended
ended_of_log answer.Absent = Absent
ended_of_log (answer.Refused f) = unwrap_or (trouble_of f) (BadLog f)

-- what comes of a program that was not loaded
abbrev pub unloaded_of : Unloaded → Ended
unloaded_of (Unloaded.Refused refusal) = Refused refusal
unloaded_of Unloaded.NotRead = NotRead
unloaded_of Unloaded.NoMemory = NoMemory
