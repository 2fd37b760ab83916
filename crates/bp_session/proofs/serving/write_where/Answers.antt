use Rattle.std.proofs.Common.{◌≡◌, false, rules}
use Rattle.bp_told.specs.Told.{WritesAll}
use Rattle.bp_turns.proofs.Settled.{ok_map}
use Rattle.bp_session.specs.inner.Outlets.{given_to}
use Rattle.bp_session.specs.inner.Serving.{IsToldStill}
use Rattle.bp_session.proofs.Causes.{writes_none}
use Rattle.bp_session.proofs.Rounds.{told_none, told_all}
use Rattle.bp_session.proofs.serving.write_where.Goals as goal

pub returns-then-not-due-clause-told : goal.returns-then-not-due-clause-told
returns-then-not-due-clause-told g c =
    let no : c.args.due ≡ false = search rules in
    told_none g.L.Sink.written (given_to g.K.Sink c.args.outlets.now) c.args.telling.now c.args.due no

pub returns-then-not-due-clause-writes : goal.returns-then-not-due-clause-writes
returns-then-not-due-clause-writes g c = writes_none c.args.outlets.now

pub returns-clause-told : goal.returns-clause-told
returns-clause-told g c =
    let old = given_to g.K.Sink c.args.outlets.now in
    let new = given_to g.K.Sink c.write.new.outlets in
    ok_map c.write.result (WritesAll g.L.Sink.written old c.args.telling.now new c.write.new.telling)
    (IsToldStill g.L.Sink.written c.args.due old c.args.telling.now new c.write.new.telling)
    (told_all g.L.Sink.written old new c.args.telling.now c.write.new.telling c.args.due) c.write.ensures.all
