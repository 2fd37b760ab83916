use Rattle.std.proofs.Common.{◌≡◌, ◌++◌, drop}
use Rattle.std.specs.Prelude.{flat_map, string_bytes}
use Rattle.bp_explain.specs.Seeds.{counted_text}
use Rattle.bp_seeds.proofs.counts.Counts.text.Given as goal

abbrev pub invariant-loop-kind : goal.invariant-loop-kind
invariant-loop-kind l = string_bytes l.text ++ flat_map counted_text (drop l.kind-index l.self) ≡ flat_map counted_text l.self
