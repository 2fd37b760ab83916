use Rattle.std.proofs.Common.{◌≡◌, ◌≤◌, take, length, vec_len, vec_capacity}
use Rattle.bp_cli.specs.Asking.{WasAsked}
use Rattle.bp_cli.specs.inner.Opening.{AreOpened}
use Rattle.bp_cli.proofs.opening.open_inputs.Given as goal

-- those that are opened, and what became of the world
abbrev pub invariant-loop-name : goal.invariant-loop-name
invariant-loop-name g l = record {
  opened : AreOpened g.W.Input.Source.left g.W.Input.Source.faults (g.W.World.holds l.fn.world) (take l.name-index l.names) l.inputs.items;
  count : vec_len l.inputs ≡ l.name-index;
  room : length l.names ≤ vec_capacity l.inputs;
  asked : WasAsked (g.W.World.asked l.fn.world) (take l.name-index l.names) (g.W.World.asked l.world);
  holds : g.W.World.holds l.world ≡ g.W.World.holds l.fn.world;
  counts : g.W.World.read_faults l.fn.world ≤ g.W.World.read_faults l.world;
  writes : g.W.World.write_faults l.world ≡ g.W.World.write_faults l.fn.world;
}
