use Rattle.std.proofs.Common.{◌∙◌, ap, sym}
use Rattle.js_meaning.specs.Bodies.{Origin}
use Rattle.bp_run.specs.Settling.{Pair}
use Rattle.bp_floor.specs.inner.Boards.{stand_of, pair_of}
use Rattle.bp_floor.specs.Floors.{PlainFloor}
use Rattle.bp_floor.proofs.Standing.{taken_all, stands_taken}
use Rattle.bp_floor.proofs.floor.Floor.take_lines.Goals as goal

pub returns-clause-stands : goal.returns-clause-stands
returns-clause-stands c =
    let b = c.self.inside.board in
    let p : Pair Origin = record (pair_of b) { stand = record (stand_of b) { lines = c.take.new.self } } in
    stands_taken c.args.self.now (record c.args.self.now { pair = p }) c.take.result
    (ap (λ (f : PlainFloor). f.pair) (sym c.self.view_is) ∙ taken_all (pair_of b) c.take.result c.take.new.self c.take.ensures.taken c.take.ensures.left)
