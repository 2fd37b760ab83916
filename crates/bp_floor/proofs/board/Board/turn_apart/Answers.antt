use Rattle.std.proofs.Common.{List, ap}
use Rattle.bp_floor.specs.declared.board.Board.{Board}
use Rattle.bp_floor.specs.inner.Seats.{PlainSeat}
use Rattle.bp_floor.proofs.TurnLemmas.{back_within, turned_is, turn_keeps}
use Rattle.bp_floor.proofs.board.Board.turn_apart.Goals as goal

pub merge-requires : goal.merge-requires
merge-requires c =
    back_within c.requires.back.0 _ _ _ _ c.args.self.now c.put_back.new.self c.in_ok-rans.rans c.requires.back.2 (c.in_ok-rans.ensures.back c.requires.back.0 c.requires.back.2)

pub returns-clause-turned : goal.returns-clause-turned
returns-clause-turned c = λ r e m.
    let swept : (ss : List PlainSeat) → Board = λ ss. record c.merge.new.self { seats = ss } in
    turned_is r _ _ _ c.args.self.now c.put_back.new.self c.merge.new.self _ c.in_ok-rans.rans c.requires.clear c.in_ok-rans.ensures.same (c.in_ok-rans.ensures.back r m) c.in_ok-merge.ensures.merged (ap swept c.sweep.ensures)

pub returns-clause-kept : goal.returns-clause-kept
returns-clause-kept c = λ r e m.
    let swept : (ss : List PlainSeat) → Board = λ ss. record c.merge.new.self { seats = ss } in
    turn_keeps r _ _ c.args.options _ _ c.args.self.now c.put_back.new.self c.merge.new.self _ c.in_ok-rans.rans e m c.requires.clear c.in_ok-rans.ensures.same (c.in_ok-rans.ensures.back r m) c.in_ok-merge.ensures.keeps
    (ap swept c.sweep.ensures)
