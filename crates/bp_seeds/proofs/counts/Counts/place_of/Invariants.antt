use Rattle.std.proofs.Common.{◌≡◌, drop}
use Rattle.bp_seeds.specs.inner.Merged.{place_of}
use Rattle.bp_seeds.proofs.Places.{from}
use Rattle.bp_seeds.proofs.counts.Counts.place_of.Given as goal

abbrev pub invariant-loop-place : goal.invariant-loop-place
invariant-loop-place l = place_of l.kind l.self ≡ from l.place (place_of l.kind (drop l.place l.self))
