use Rattle.std.proofs.Common.{◌≡◌, Some, rules, sym, subst}
use Rattle.bp_session.specs.inner.Outlets.{given_to, WritesTo}
use Rattle.bp_told.specs.declared.fault.RunFault.{RunFault}
use Rattle.bp_told.specs.declared.fault.RunFault.TheVariants.{LogWrite}
use Rattle.bp_session.specs.declared.report.Ending.{Ending}
use Rattle.bp_session.specs.inner.Serving.{IsEnded}
use Rattle.bp_session.proofs.Causes.{writes_on, writes_still, ends_at}
use Rattle.bp_session.proofs.Ends.{front_of_part, front_let_go, fault_ended}
use Rattle.bp_session.proofs.lent.write_front.Goals as goal

pub returns-then-eq-clause-ends : goal.returns-then-eq-clause-ends
returns-then-eq-clause-ends g c d l o head first b = front_let_go g.L.Sink.written l o head first d (given_to g.K.Sink c.args.outlets.now) c.args.telling.now c.args.fault b

pub returns-in-Ok-clause-ends : goal.returns-in-Ok-clause-ends
returns-in-Ok-clause-ends g c d l o head first b =
    let old = given_to g.K.Sink c.args.outlets.now in
    let new = given_to g.K.Sink c.flush.new.self in
    let n : ¬ (c.args.fault ≡ LogWrite) = search rules in
    subst (λ (e : Ending). IsEnded g.L.Sink.written l o head first d new e) (sym c.ending_of.ensures)
    (fault_ended g.L.Sink.written l o head first d new c.args.fault (front_of_part g.L.Sink.written l o head first d old new c.args.telling.now c.args.fault n c.flush.ensures.part b))

pub returns-in-Err-clause-ends : goal.returns-in-Err-clause-ends
returns-in-Err-clause-ends g c d l o head first b =
    let old = given_to g.K.Sink c.args.outlets.now in
    let new = given_to g.K.Sink c.flush.new.self in
    let n : ¬ (c.args.fault ≡ LogWrite) = search rules in
    subst (λ (e : Ending). IsEnded g.L.Sink.written l o head first d new e) (sym c.ending_of-in-Err.ensures)
    (fault_ended g.L.Sink.written l o head first d new c.in-Err.other (front_of_part g.L.Sink.written l o head first d old new c.args.telling.now c.args.fault n c.flush.ensures.part b))

pub returns-then-eq-clause-writes : goal.returns-then-eq-clause-writes
returns-then-eq-clause-writes g c first w =
    let e : c.args.fault ≡ LogWrite = search rules in
    subst (λ (f : RunFault). WritesTo g.K.Sink g.L.Sink first c.args.outlets.now (Some f)) e w

pub returns-in-Ok-clause-writes : goal.returns-in-Ok-clause-writes
returns-in-Ok-clause-writes g c first w =
    ends_at c.ending_of.result c.args.fault c.ending_of.ensures (writes_still w c.flush.ensures.writes)

pub returns-in-Err-clause-writes : goal.returns-in-Err-clause-writes
returns-in-Err-clause-writes g c first w =
    ends_at c.ending_of-in-Err.result c.in-Err.other c.ending_of-in-Err.ensures (writes_on w c.in-Err.ensures.writes)
