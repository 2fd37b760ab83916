use Rattle.std.proofs.Common.{◌≡◌, map, drop}
use Rattle.std.specs.Arc.{arc_value}
use Rattle.bp_floor.specs.inner.Reached.{touch_seen}
use Rattle.bp_floor.proofs.ReachedLemmas.{Reaches}
use Rattle.bp_floor.proofs.board.Board.touch_all.Given as goal

abbrev pub invariant-loop-touch : goal.invariant-loop-touch
invariant-loop-touch l = record {
  reaches : Reaches (arc_value l.event) (map touch_seen l.touches) (map touch_seen (drop l.touch-index l.touches)) l.fn.self l.self;
  lines : l.self.lines ≡ l.fn.self.lines;
  verdict : l.self.verdict ≡ l.fn.self.verdict;
}
