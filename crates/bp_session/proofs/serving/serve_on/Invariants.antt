use Rattle.std.proofs.Common.{◌≡◌, false, None}
use Rattle.bp_session.specs.inner.Hearing.{HearOn}
use Rattle.bp_session.specs.inner.Outlets.{given_to, WritesTo}
use Rattle.bp_session.specs.inner.Serving.{ServesOn}
use Rattle.bp_session.proofs.serving.serve_on.Given as goal

abbrev pub invariant-loop : goal.invariant-loop
invariant-loop g l = record {
  serves : ServesOn g.L.Sink.written l.fn.core (given_to g.K.Sink l.fn.outlets) l.fn.telling l.core (given_to g.K.Sink l.outlets) l.telling;
  inside : l.core.out ≡ false;
  hears : HearOn g.S.Source.left g.S.Source.faults l.core.arbiter.records l.fn.readings.items l.readings.items;
  writes : WritesTo g.K.Sink g.L.Sink l.fn.outlets l.outlets None;
}
