use Rattle.std.proofs.Common.{sym, subst, Err}
use Rattle.std.specs.Prelude.{IfSome}
use Rattle.std.proofs.lemmas.Result.{err_from_is_err_and}
use Rattle.bp_replay.specs.declared.fault.ReplayFault.{ReplayFault}
use Rattle.bp_replay.specs.Courses.{text_in}
use Rattle.bp_replay.specs.Following.{first_course, Tells}
use Rattle.bp_replay.proofs.Opened.{on_way_opened, tells_nothing, front_nothing}
use Rattle.bp_replay.proofs.telling.replay_onto.Goals as goal

pub returns-in_err-arbiter-clause-tells : goal.returns-in_err-arbiter-clause-tells
returns-in_err-arbiter-clause-tells g c =
    let p = err_from_is_err_and c.from_residual.result c.from_residual.ensures.1 in
    rw p.1
    (subst (λ (e : ReplayFault). IfSome c.args.reader.now.left (λ rest. Tells (first_course c.args.reader.now.stage.version c.args.program c.args.options) rest (g.K.Sink.written c.args.out.now) c.args.page.now (g.K.Sink.written c.args.out.now) (Err e))) (sym p.2)
    (tells_nothing c.args.reader.now.stage.version c.args.program c.args.options c.args.reader.now.left c.args.reader.now.stage (g.K.Sink.written c.args.out.now) c.args.page.now c.requires.stage
    (front_nothing (g.K.Sink.written c.args.out.now) c.args.page.now (text_in (first_course c.args.reader.now.stage.version c.args.program c.args.options)) c.requires.empty)))

pub tell-requires-clause-first : goal.tell-requires-clause-first
tell-requires-clause-first g c = on_way_opened c.args.reader.now.stage.version c.args.program c.args.options c.in_ok-arbiter.arbiter c.in_ok-arbiter.ensures.opened c.in_ok-arbiter.ensures.stands
