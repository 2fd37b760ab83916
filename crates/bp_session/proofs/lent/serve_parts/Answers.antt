use Rattle.bp_session.specs.inner.Outlets.{given_to}
use Rattle.bp_session.specs.inner.Serving.{broke_at}
use Rattle.bp_session.proofs.Ends.{can_tell, served_to, failed_of}
use Rattle.bp_session.proofs.lent.serve_parts.Goals as goal

pub ended-requires : goal.ended-requires
ended-requires g c =
    let s = c.serve_on-served in
    let old = given_to g.K.Sink c.args.outlets.now in
    let new = given_to g.K.Sink s.new.outlets in
    record { rest = can_tell g.L.Sink.written c.args.parts.now.core old c.args.parts.now.telling s.new.core new s.new.telling s.new.readings.items s.result c.requires.can.ready s.ensures.stops }

pub returns-clause-ends : goal.returns-clause-ends
returns-clause-ends g c =
    let s = c.serve_on-served in
    let old = given_to g.K.Sink c.args.outlets.now in
    let new = given_to g.K.Sink s.new.outlets in
    record {
      ends = λ l o head first h. c.ended.ensures.ends l o head first
          (served_to g.L.Sink.written c.args.parts.now.core old c.args.parts.now.telling s.new.core new s.new.telling s.new.readings.items s.result s.ensures.verdict s.ensures.written s.ensures.stops l o head first h);
    }

pub returns-clause-broke : goal.returns-clause-broke
returns-clause-broke g c =
    let s = c.serve_on-served in
    let old = given_to g.K.Sink c.args.outlets.now in
    let new = given_to g.K.Sink s.new.outlets in
    failed_of g.L.Sink.written c.args.parts.now.core old c.args.parts.now.telling s.new.core new s.new.telling s.new.readings.items s.result (broke_at c.ended.result) c.requires.can.ready s.ensures.stops c.ended.ensures.broke

pub returns-clause-writes : goal.returns-clause-writes
returns-clause-writes g c = c.ended.ensures.writes _ c.serve_on-served.ensures.writes
