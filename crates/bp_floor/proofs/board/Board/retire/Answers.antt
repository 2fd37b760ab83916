use Rattle.std.proofs.Common.{◌∙◌, List, ap, refl, true}
use Rattle.bp_run.specs.Configuration.{change}
use Rattle.bp_floor.specs.inner.Seats.{PlainSeat}
use Rattle.bp_floor.proofs.Onward.{retired_is, kept_retired}
use Rattle.bp_floor.proofs.board.Board.retire.Goals as goal

pub returns-clause-merged : goal.returns-clause-merged
returns-clause-merged c =
    retired_is c.args.number c.args.self.now c.restate.new.self (record c.restate.new.self { seats = c.end.new.self }) c.in_ok-restate.ensures.stated.same c.restate.ensures.seats c.end.ensures
    (record { queue = refl; transitions = refl; weight = refl; lines = refl; verdict = refl; wave = refl })

pub returns-clause-keeps : goal.returns-clause-keeps
returns-clause-keeps c = λ r first low k.
    let s = c.in_ok-restate.ensures.stated in
    kept_retired r first c.args.number c.args.self.now (record c.restate.new.self { seats = c.end.new.self }) c.requires low
    (c.end.ensures ∙ ap (λ (ss : List PlainSeat). change (λ s. record s { ended = true }) c.args.number ss) c.restate.ensures.seats) s.live s.fits s.same.wave s.same.queue k
