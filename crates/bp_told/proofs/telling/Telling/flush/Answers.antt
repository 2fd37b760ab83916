use Rattle.bp_told.specs.Told.{given}
use Rattle.bp_told.proofs.Told.{writes_all, writes_part, writes_out, nothing_waits}
use Rattle.bp_told.proofs.telling.Telling.flush.Goals as goal

pub returns-clause-all : goal.returns-clause-all
returns-clause-all g c =
    let w = c.write.ensures in
    writes_all g.L.Sink.written (given g.K.Sink.written c.args.out.now c.args.log.now) (given g.K.Sink.written c.write.new.out c.write.new.log) c.args.self.now c.write.new.self c.write.result
    w.gets w.log_gets w.log_shows w.lines w.kept w.behind

pub returns-clause-part : goal.returns-clause-part
returns-clause-part g c =
    let w = c.write.ensures in
    writes_part g.L.Sink.written (given g.K.Sink.written c.args.out.now c.args.log.now) (given g.K.Sink.written c.write.new.out c.write.new.log) c.args.self.now c.write.new.self c.write.result
    w.gets w.front w.log_shows w.log_front w.behind

pub returns-clause-whole : goal.returns-clause-whole
returns-clause-whole g c =
    let w = c.write.ensures in
    writes_out g.L.Sink.written (given g.K.Sink.written c.args.out.now c.args.log.now) (given g.K.Sink.written c.write.new.out c.write.new.log) c.args.self.now c.write.new.self c.write.result
    w.gets w.log_gets

pub returns-clause-nothing : goal.returns-clause-nothing
returns-clause-nothing g c =
    let w = c.write.ensures in
    nothing_waits g.L.Sink.written (given g.K.Sink.written c.args.out.now c.args.log.now) (given g.K.Sink.written c.write.new.out c.write.new.log) c.args.self.now c.write.new.self c.write.result
    w.lines w.records
