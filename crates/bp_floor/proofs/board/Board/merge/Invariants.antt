use Rattle.std.proofs.Common.{map}
use Rattle.std.specs.Vec.Iter.{into_iter_items}
use Rattle.js_frames.specs.Places.{plain_ground}
use Rattle.bp_floor.specs.inner.Parts.{ran_seen}
use Rattle.bp_floor.proofs.Onward.{Merging}
use Rattle.bp_floor.proofs.board.Board.merge.Given as goal

abbrev pub invariant-loop-entry : goal.invariant-loop-entry
invariant-loop-entry l = record { merging : Merging (plain_ground l.ground) l.options l.fn.rans (map ran_seen (into_iter_items l.entry-iterator)) l.fn.self l.self }
