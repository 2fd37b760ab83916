use Rattle.std.proofs.Common.{◌≡◌, ◌++◌, Some, length, map, drop}
use Rattle.js_frames.proofs.slots.Slots.push_all.Given as goal

abbrev pub invariant-loop-place : goal.invariant-loop-place
invariant-loop-place l =
    (l.self ++ map Some (drop l.place l.values) ≡ l.initial.self ++ map Some l.initial.values) × (length l.values ≡ length l.initial.values)
