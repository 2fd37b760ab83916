use Rattle.std.proofs.Common.{refl, map, ap, ◌+◌}
use Rattle.std.specs.Arc.{arc_value}
use Rattle.bp_select.specs.Benches.{PlainBench}
use Rattle.bp_floor.specs.inner.Reached.{touch_seen}
use Rattle.bp_floor.specs.declared.board.Board.{Board}
use Rattle.bp_floor.proofs.ReachedLemmas.{stepped_is, stepped_keeps}
use Rattle.bp_floor.proofs.board.Board.step.Goals as goal

pub returns-clause-stepped : goal.returns-clause-stepped
returns-clause-stepped c =
    let mid = c.touch_all.new.self in
    let new : Board = record mid { seats = c.sweep.new.self; desk = c.without.new.self; transitions = mid.transitions + 1; weight = c.args.weight; lines = c.push.new.self; wave = c.args.wave } in
    λ r k. stepped_is r (arc_value c.args.event.now) c.args.place (map touch_seen c.args.touches.now) c.args.weight c.args.wave c.in_ok-line.line c.args.self.now mid new (c.in_ok-touch_all.ensures.touched r k) c.in_ok-line.ensures
    c.sweep.ensures c.without.ensures.left refl refl c.in_ok-push.ensures.pushed refl refl

pub returns-clause-kept : goal.returns-clause-kept
returns-clause-kept c =
    let mid = c.touch_all.new.self in
    let new : Board = record mid { seats = c.sweep.new.self; desk = c.without.new.self; transitions = mid.transitions + 1; weight = c.args.weight; lines = c.push.new.self; wave = c.args.wave } in
    λ r k h. stepped_keeps r (arc_value c.args.event.now) c.args.place (map touch_seen c.args.touches.now) c.args.wave c.args.self.now mid new (c.in_ok-touch_all.ensures.touched r k) c.requires.there
    c.sweep.ensures (ap (λ (x : PlainBench). x.live) c.without.ensures.bench) c.without.ensures.fits c.without.ensures.left refl h
