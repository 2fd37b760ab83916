use Rattle.std.proofs.Common.{◌≡◌, ◌++◌, ◌-◌, ◌≤◌, ◌⊎◌, None, replicate}
use Rattle.js_frames.proofs.slots.Slots.fill.Given as goal

abbrev pub invariant-loop : goal.invariant-loop
invariant-loop l =
    (l.self ≡ l.initial.self ++ replicate (l.counter - l.initial.counter) None) × (l.initial.counter ≤ l.counter) × ((l.counter ≡ l.initial.counter) ⊎ (l.counter ≤ l.count))
