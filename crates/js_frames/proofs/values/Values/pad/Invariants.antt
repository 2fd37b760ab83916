use Rattle.std.proofs.Common.{◌≡◌, ◌++◌, ◌-◌, ◌≤◌, replicate, ◌⊎◌}
use Rattle.js_value.specs.Value.{undefined}
use Rattle.js_frames.proofs.values.Values.pad.Given as goal

abbrev pub invariant-loop : goal.invariant-loop
invariant-loop l =
    (l.self ≡ l.initial.self ++ replicate (l.counter - l.initial.counter) undefined) × (l.initial.counter ≤ l.counter) × ((l.counter ≡ l.initial.counter) ⊎ (l.counter ≤ l.count))
