use Rattle.std.proofs.Common.{◌≡◌, ◌∙◌, sym, subst, rules, Option, List, ℕ}
use Rattle.bp_reader.specs.Fed.{Between}
use Rattle.bp_reader.specs.declared.fault.LogFault.TheVariants as log
use Rattle.bp_replay.specs.declared.fault.ReplayFault.TheVariants as fault
use Rattle.bp_replay.specs.Faults.{fault_of_log}
use Rattle.bp_replay.specs.Replays.{ReplaysTaken}
use Rattle.bp_replay.proofs.Whole.{taken_whole, taken_headless, is_read}
use Rattle.bp_replay.proofs.replaying.replay.Goals as goal

pub returns-in-Err-clause-failed : goal.returns-in-Err-clause-failed
returns-in-Err-clause-failed g c =
    λ h.
    let e : fault_of_log c.in-Err.refused.fault ≡ fault.Log log.Read = search rules in
    taken_headless (g.S.Source.left c.args.log) (g.S.Source.left c.in-Err.refused.source) (g.K.Sink.written c.args.out.now) (c.in-Err.ensures.failed (is_read c.in-Err.refused.fault e))

pub returns-in-Ok-clause-failed : goal.returns-in-Ok-clause-failed
returns-in-Ok-clause-failed g c =
    λ h.
    subst (λ (t : Option (List ℕ)). Between (g.S.Source.left c.args.log) t (λ bytes rest. ReplaysTaken bytes rest (g.K.Sink.written c.args.out.now) (g.K.Sink.written c.replay_records-ended.new.out)))
    (c.replay_records-ended.ensures.empty h ∙ sym c.back.ensures.source)
    (taken_whole (g.S.Source.left c.args.log) c.in-Ok.reader.left c.replay_records-ended.new.reader.left c.in-Ok.reader.stage.version c.in-Ok.header (g.K.Sink.written c.args.out.now) (g.K.Sink.written c.replay_records-ended.new.out) c.in-Ok.ensures.header
    (c.replay_records-ended.ensures.failed h))
