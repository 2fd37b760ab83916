-- What contracts say of the output of a view.
use Rattle.std.specs.Prelude.{◌≡◌, ◌≤◌, ℕ, List, Option}
use Rattle.bp_base.specs.Counts.{Rose}
use Rattle.bp_base.specs.declared.outside.Sink.{Ghosts}

module _ {V : Type 0} (v : Ghosts V) where
  -- all that was written, if the output tells it
  abbrev pub written_to : V → Option (List ℕ)
  written_to sink = v.written sink

  -- no count of faults fell, and the output keeps its name
  pub record KeepsSink (old new : V) : Type 0 where
    pub counts : v.faults old ≤ v.faults new
    pub named : v.made_as new ≡ v.made_as old

  -- the output failed
  abbrev pub FailsSink : V → V → Type 0
  FailsSink old new = Rose (v.faults old) (v.faults new)
