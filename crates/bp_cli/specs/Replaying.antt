-- A log that is replayed.
use Rattle.std.specs.Prelude.{◌≡◌, ℕ, List, Option, Some, None, Result, Ok, Err, IfSome, IsSomeAnd, unwrap_or}
use Rattle.bp_log.specs.declared.verdict.Verdict.{Verdict}
use Rattle.bp_reader.specs.declared.fault.LogFault.TheVariants as log
use Rattle.bp_replay.specs.declared.fault.ReplayFault.{ReplayFault}
use Rattle.bp_replay.specs.declared.fault.ReplayFault.TheVariants.{Log, Write, Memory}
use Rattle.bp_replay.specs.Replays as replays
use Rattle.bp_cli.specs.declared.conclusion.Conclusion.{Conclusion}
use Rattle.bp_cli.specs.declared.conclusion.Conclusion.TheVariants.{Ran, NotRead, NotWritten, NoMemory, BadLog}
use Rattle.bp_cli.specs.Outside.{Outside}

-- the conclusion where reading or writing failed or memory ran out; where it is none of these
-- the log is bad
abbrev pub trouble_of : ReplayFault → Option Conclusion
trouble_of (Log log.Read) = Some NotRead
trouble_of (Log log.Memory) = Some NoMemory
trouble_of Write = Some NotWritten
trouble_of Memory = Some NoMemory
trouble_of _ = None

-- how a command ends whose replay ended so
abbrev pub replayed_of : Result Verdict ReplayFault → Conclusion
replayed_of (Ok v) = Ran v
replayed_of (Err fault) = unwrap_or (trouble_of fault) (BadLog fault)

-- the command ends as a replay of the bytes that the world holds under the name, where it tells
-- them, which printed what a replay that ends so prints
pub record ReplaysTo (name : List ℕ) (before after : Outside) (conclusion : Conclusion) : Type 0 where
  pub ended : Result Verdict ReplayFault
  pub is_conclusion : conclusion ≡ replayed_of ended
  pub ends : IfSome before.holds (λ held. IsSomeAnd (held name)
      (λ bytes. replays.IsReplay bytes before.printed after.printed ended))
  pub holds : after.holds ≡ before.holds
