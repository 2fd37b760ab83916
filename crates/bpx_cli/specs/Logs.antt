-- What is said of a log that the world holds, and how a command ends where nothing is said of it.
use Rattle.std.specs.Prelude.{◌≡◌, ℕ, List, Option, Some, None, String, string_bytes, Result, Ok, Err, IfSome, IsSomeAnd}
use Rattle.std.specs.declared.alloc.Global.{Global}
use Rattle.bp_base.specs.Worlds.{Holdings}
use Rattle.bp_reader.specs.declared.fault.LogFault.TheVariants as log
use Rattle.bp_replay.specs.declared.fault.ReplayFault.{ReplayFault}
use Rattle.bp_replay.specs.declared.fault.ReplayFault.TheVariants as replay
use Rattle.bp_answers.specs.declared.answer.NoAnswer.{NoAnswer}
use Rattle.bp_answers.specs.declared.answer.NoAnswer.TheVariants as answer
use Rattle.bpx_cli.specs.declared.ended.Ended.{Ended}
use Rattle.bpx_cli.specs.declared.ended.Ended.TheVariants.{Absent, NotRead, NoMemory, BadLog}

-- what is answered about the bytes of a log
abbrev pub About : Type 1
About = List ℕ → Result (String Global) NoAnswer → Type 0

-- this is answered about the bytes that the world holds under the name of the log, where it tells them
abbrev pub IsSaidUnder : Option Holdings → List ℕ → About → Result (String Global) NoAnswer → Type 0
IsSaidUnder holds name about says =
    IfSome holds (λ held. IsSomeAnd (held name) (λ bytes. about bytes says))

-- the text is what is said of that log
pub record IsSaidOf (holds : Option Holdings) (name : List ℕ) (about : About)
    (text : List ℕ) : Type 0 where
  pub says : String Global
  pub is_text : text ≡ string_bytes says
  pub is_said : IsSaidUnder holds name about (Ok says)

-- how a command ends where reading a log failed or memory ran out
abbrev pub trouble_of : ReplayFault → Option Ended
trouble_of (replay.Log log.Read) = Some NotRead
trouble_of (replay.Log log.Memory) = Some NoMemory
trouble_of replay.Memory = Some NoMemory
trouble_of _ = None

-- why nothing is said: the log has not what is asked about, or is a bad one, or was not read, or memory ran out
abbrev pub IsUnsaid : Option Holdings → List ℕ → About → Ended → Type 0
IsUnsaid holds name about Absent = IsSaidUnder holds name about (Err answer.Absent)
IsUnsaid holds name about (BadLog f) =
    (trouble_of f ≡ None) × IsSaidUnder holds name about (Err (answer.Refused f))
IsUnsaid holds name about NotRead = Unit {0}
IsUnsaid holds name about NoMemory = Unit {0}
IsUnsaid holds name about _ = ⊥
