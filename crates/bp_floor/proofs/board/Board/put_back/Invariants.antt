use Rattle.std.proofs.Common.{◌≡◌, map}
use Rattle.std.specs.Vec.Iter.{into_iter_items}
use Rattle.js_frames.specs.Places.{plain_ground}
use Rattle.bp_floor.specs.inner.Entries.{entry_seen}
use Rattle.bp_floor.proofs.ReturnLemmas.{Goes}
use Rattle.bp_floor.proofs.board.Board.put_back.Given as goal

abbrev pub invariant-loop-entry : goal.invariant-loop-entry
invariant-loop-entry l = record {
  goes : Goes (plain_ground l.fn.ground) l.fn.wave (into_iter_items l.fn.jobs) l.fn.self (map entry_seen (into_iter_items l.entry-iterator)) (into_iter_items l.jobs) (plain_ground l.ground) l.self l.rans;
  program : l.ground.program ≡ l.fn.ground.program;
}
