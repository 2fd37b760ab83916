use Rattle.std.proofs.Common.{◌≡◌, ◌∙◌, ◌++◌, true, List, [], length, arith, refl, ap, subst, Ok, Err}
use Rattle.std.specs.Prelude.{Result, OnOk, IfErr}
use Rattle.bp_log.specs.declared.record.Record.{Record}
use Rattle.bp_log.specs.declared.trace.Line.{Line}
use Rattle.bp_floor.specs.Floors.{is_idle}
use Rattle.bp_arbiter.specs.Arbiters.{PlainArbiter, stand_in}
use Rattle.bp_told.specs.Told.{given, TellsOn, BreaksOff}
use Rattle.bp_session.specs.inner.Outlets.{given_to}
use Rattle.bp_told.specs.declared.fault.RunFault.{RunFault}
use Rattle.bp_session.specs.inner.Serving.{ServesOn, TellsAll, BreaksServing, NothingUntold}
use Rattle.bp_session.proofs.Causes.{caused_by}
use Rattle.bp_session.proofs.Served.{ready_few}
use Rattle.bp_session.proofs.Tells.{taken_of, these_serve, these_all, these_break}
use Rattle.bp_session.proofs.telling.tell.Goals as goal

both : {T E : Type 0} (r : Result T E) (A B C : Type 0) → (A → B → C) → OnOk r A → OnOk r B → OnOk r C
both (Ok x) A B C f a b = f a b
both (Err e) A B C f a b = tt

one : {T E : Type 0} (r : Result T E) (A C : Type 0) → (A → C) → OnOk r A → OnOk r C
one (Ok x) A C f a = f a
one (Err e) A C f a = tt

of_err : {T : Type 0} (r : Result T RunFault) (A C : RunFault → Type 0) → ((e : RunFault) → A e → C e) → IfErr r A → IfErr r C
of_err (Ok x) A C f a = tt
of_err (Err e) A C f a = f e a

pub returns-clause-serves : goal.returns-clause-serves
returns-clause-serves g c =
    let t = c.take_lines-lines.ensures in
    let taken = taken_of c.args.core.now c.take_lines-lines.new.self c.take_lines-lines.result t.kept t.records t.taken t.jobs t.at in
    let records = c.records.ensures ∙ ap (λ (a : PlainArbiter). a.records) c.arbiter-2.ensures ∙ t.records in
    both c.tell.result (c.tell.new.self.kept ≡ length c.records.result.now)
    (TellsOn g.L.Sink.written c.records.result.now c.as_slice.result.now (given_to g.K.Sink c.args.outlets.now) c.args.telling.now (given g.K.Sink.written c.tell.new.out c.tell.new.log) c.tell.new.self)
    (ServesOn g.L.Sink.written c.args.core.now (given_to g.K.Sink c.args.outlets.now) c.args.telling.now c.take_lines-lines.new.self (given g.K.Sink.written c.tell.new.out c.tell.new.log) c.tell.new.self)
    (λ k h. these_serve g.L.Sink.written c.args.core.now c.take_lines-lines.new.self c.take_lines-lines.result taken (given_to g.K.Sink c.args.outlets.now) (given g.K.Sink.written c.tell.new.out c.tell.new.log)
    c.args.telling.now c.tell.new.self c.records.result.now c.as_slice.result.now records c.as_slice.ensures k h)
    c.tell.ensures.kept c.tell.ensures.tells

pub tell-requires : goal.tell-requires
tell-requires g c =
    let t = c.take_lines-lines.ensures in
    let few = ready_few g.L.Sink.written c.args.core.now (given_to g.K.Sink c.args.outlets.now) c.args.telling.now c.requires.ready in
    let records = ap (λ (rs : List Record). length rs) (c.records.ensures ∙ ap (λ (a : PlainArbiter). a.records) c.arbiter-2.ensures ∙ t.records) in
    record { kept = omega (arith, few, records) }

pub returns-clause-all : goal.returns-clause-all
returns-clause-all g c =
    let t = c.take_lines-lines.ensures in
    let taken = taken_of c.args.core.now c.take_lines-lines.new.self c.take_lines-lines.result t.kept t.records t.taken t.jobs t.at in
    let records = c.records.ensures ∙ ap (λ (a : PlainArbiter). a.records) c.arbiter-2.ensures ∙ t.records in
    one c.tell.result
    (TellsOn g.L.Sink.written c.records.result.now c.as_slice.result.now (given_to g.K.Sink c.args.outlets.now) c.args.telling.now (given g.K.Sink.written c.tell.new.out c.tell.new.log) c.tell.new.self)
    (is_idle c.args.core.now.arbiter.phase ≡ true →
    TellsAll g.L.Sink.written c.args.core.now (given_to g.K.Sink c.args.outlets.now) c.args.telling.now c.take_lines-lines.new.self (given g.K.Sink.written c.tell.new.out c.tell.new.log) c.tell.new.self)
    (λ h i. these_all g.L.Sink.written c.args.core.now c.take_lines-lines.new.self c.take_lines-lines.result taken (given_to g.K.Sink c.args.outlets.now) (given g.K.Sink.written c.tell.new.out c.tell.new.log)
    c.args.telling.now c.tell.new.self c.records.result.now c.as_slice.result.now records c.as_slice.ensures i
    (subst (λ (a : PlainArbiter). (ls : List Line) (p : _) → Rattle.bp_arbiter.specs.Arbiters.StandsFor a [] ls p → is_idle a.phase ≡ true → (d : _) → Rattle.bp_arbiter.specs.Arbiters.Recounts a d → d.stand.lines ≡ ls ++ (stand_in a).lines)
    c.arbiter.ensures c.keeps.ensures.exact) h)
    c.tell.ensures.tells

pub returns-clause-breaks : goal.returns-clause-breaks
returns-clause-breaks g c =
    let t = c.take_lines-lines.ensures in
    let taken = taken_of c.args.core.now c.take_lines-lines.new.self c.take_lines-lines.result t.kept t.records t.taken t.jobs t.at in
    let records = c.records.ensures ∙ ap (λ (a : PlainArbiter). a.records) c.arbiter-2.ensures ∙ t.records in
    of_err c.tell.result
    (BreaksOff g.L.Sink.written c.records.result.now c.as_slice.result.now (given_to g.K.Sink c.args.outlets.now) c.args.telling.now (given g.K.Sink.written c.tell.new.out c.tell.new.log) c.tell.new.self)
    (BreaksServing g.L.Sink.written c.args.core.now (given_to g.K.Sink c.args.outlets.now) c.args.telling.now c.take_lines-lines.new.self (given g.K.Sink.written c.tell.new.out c.tell.new.log) c.tell.new.self)
    (λ e h. these_break g.L.Sink.written c.args.core.now c.take_lines-lines.new.self c.take_lines-lines.result taken (given_to g.K.Sink c.args.outlets.now) (given g.K.Sink.written c.tell.new.out c.tell.new.log)
    c.args.telling.now c.tell.new.self c.records.result.now c.as_slice.result.now records c.as_slice.ensures e h)
    c.tell.ensures.breaks

pub returns-clause-run : goal.returns-clause-run
returns-clause-run g c =
    let t = c.take_lines-lines.ensures in
    record { records = t.records; phase = t.phase; program = t.kept; inside = t.inside }

pub returns-clause-writes : goal.returns-clause-writes
returns-clause-writes g c =
    record { out_same = refl; log_same = refl; writes = record { counts = c.tell.ensures.counts; stays = c.tell.ensures.stays; cause = caused_by g.K.Sink g.L.Sink c.tell.result c.args.outlets.now.out.now c.tell.new.out c.args.outlets.now.log.now c.tell.new.log c.tell.ensures.cause c.tell.ensures.log_cause } }

pub returns-clause-untold : goal.returns-clause-untold
returns-clause-untold g c =
    let records = c.records.ensures ∙ ap (λ (a : PlainArbiter). a.records) c.arbiter-2.ensures in
    one c.tell.result (c.tell.new.self.kept ≡ length c.records.result.now) (NothingUntold c.take_lines-lines.new.self c.tell.new.self)
    (λ k. record { records = k ∙ ap (λ (rs : List Record). length rs) records; lines = ap (λ (ls : List Line). length ls) c.take_lines-lines.ensures.none }) c.tell.ensures.kept
