use Rattle.std.proofs.Common.{ℕ, List, sym, subst, Err}
use Rattle.std.specs.Prelude.{IfSome}
use Rattle.std.proofs.lemmas.Result.{err_from_is_err_and}
use Rattle.bp_log.specs.Options.{PlainOptions}
use Rattle.bp_reader.specs.Fed.{Between}
use Rattle.bp_script.specs.Programs.{IsProgram}
use Rattle.bp_replay.specs.declared.fault.ReplayFault.{ReplayFault}
use Rattle.bp_replay.specs.Following.{first_course, Tells, TellsTaken}
use Rattle.bp_replay.specs.inner.Behind.{EndsBehind}
use Rattle.bp_replay.proofs.Whole.{ends_written, ends_unwritten, taken_written}
use Rattle.bp_replay.proofs.replaying.replay_records.Goals as goal

pub returns-in_err-write-clause-ends : goal.returns-in_err-write-clause-ends
returns-in_err-write-clause-ends g c =
    let p = err_from_is_err_and c.from_residual.result c.from_residual.ensures.1 in
    let header = c.args.header.now in
    let program = c.in-Ok.program in
    let is : IsProgram header.program program = subst (λ (bytes : List ℕ). IsProgram bytes program) c.program.ensures.program c.in-Ok.ensures.program in
    let tells = subst (λ (o : PlainOptions). IfSome c.args.reader.now.left (λ rest. Tells (first_course c.args.reader.now.stage.version program o) rest (g.K.Sink.written c.args.out.now) c.replay_onto-ended.new.page (g.K.Sink.written c.replay_onto-ended.new.out) c.replay_onto-ended.result)) c.options.ensures
    c.replay_onto-ended.ensures.tells in
    rw p.1
    (subst (λ (e : ReplayFault). IfSome c.args.reader.now.left (λ rest. EndsBehind c.args.reader.now.stage.version header rest (g.K.Sink.written c.args.out.now) (g.K.Sink.written c.write.new.out) (Err e))) (sym p.2)
    (ends_unwritten c.args.reader.now.stage.version header program is c.args.reader.now.left (g.K.Sink.written c.args.out.now) (g.K.Sink.written c.replay_onto-ended.new.out) (g.K.Sink.written c.write.new.out) c.replay_onto-ended.new.page c.replay_onto-ended.result tells
    c.in_err-write.ensures.front))

pub returns-clause-ends : goal.returns-clause-ends
returns-clause-ends g c =
    let header = c.args.header.now in
    let program = c.in-Ok.program in
    let is : IsProgram header.program program = subst (λ (bytes : List ℕ). IsProgram bytes program) c.program.ensures.program c.in-Ok.ensures.program in
    let tells = subst (λ (o : PlainOptions). IfSome c.args.reader.now.left (λ rest. Tells (first_course c.args.reader.now.stage.version program o) rest (g.K.Sink.written c.args.out.now) c.replay_onto-ended.new.page (g.K.Sink.written c.replay_onto-ended.new.out) c.replay_onto-ended.result)) c.options.ensures
    c.replay_onto-ended.ensures.tells in
    ends_written c.args.reader.now.stage.version header program is c.args.reader.now.left (g.K.Sink.written c.args.out.now) (g.K.Sink.written c.replay_onto-ended.new.out) (g.K.Sink.written c.write.new.out) c.replay_onto-ended.new.page c.replay_onto-ended.result tells
    c.in_ok-write.ensures.whole

pub returns-clause-failed : goal.returns-clause-failed
returns-clause-failed g c =
    let header = c.args.header.now in
    let program = c.in-Ok.program in
    let is : IsProgram header.program program = subst (λ (bytes : List ℕ). IsProgram bytes program) c.program.ensures.program c.in-Ok.ensures.program in
    λ h.
    taken_written c.args.reader.now.stage.version header program is c.args.reader.now.left c.replay_onto-ended.new.reader.left (g.K.Sink.written c.args.out.now) (g.K.Sink.written c.replay_onto-ended.new.out) (g.K.Sink.written c.write.new.out) c.replay_onto-ended.new.page
    (subst (λ (o : PlainOptions). Between c.args.reader.now.left c.replay_onto-ended.new.reader.left (λ bytes rest. TellsTaken (first_course c.args.reader.now.stage.version program o) bytes rest (g.K.Sink.written c.args.out.now) c.replay_onto-ended.new.page (g.K.Sink.written c.replay_onto-ended.new.out))) c.options.ensures
    (c.replay_onto-ended.ensures.failed h)) c.in_ok-write.ensures.whole
