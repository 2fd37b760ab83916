use Rattle.std.proofs.Common.{◌≡◌, ◌≤◌, ◌<◌, ◌++◌, ℕ, length}
use Rattle.std.specs.Prelude.{slice_index_or}
use Rattle.std.specs.Vec.Iter.{into_iter_items}
use Rattle.bp_base.specs.Counts.{Rose}
use Rattle.bp_cli.proofs.opening.close_inputs.Given as goal

-- those that are closed, and what became of the world
abbrev pub invariant-loop-input : goal.invariant-loop-input
invariant-loop-input g l = record {
  all : l.yielded ++ into_iter_items l.input-iterator ≡ l.fn.inputs.items;
  risen : (k : ℕ) (d : g.row.W-Input.Denot) → k < length l.yielded → 0 < g.W.Input.Source.faults (slice_index_or l.yielded k d) → Rose (g.W.World.read_faults l.fn.world) (g.W.World.read_faults l.world);
  counts : g.W.World.read_faults l.fn.world ≤ g.W.World.read_faults l.world;
  asked : g.W.World.asked l.world ≡ g.W.World.asked l.fn.world;
  holds : g.W.World.holds l.world ≡ g.W.World.holds l.fn.world;
  writes : g.W.World.write_faults l.world ≡ g.W.World.write_faults l.fn.world;
}
