use Rattle.std.proofs.Common.{◌≡◌, Some, drop}
use Rattle.std.specs.Prelude.{fold, slice_set}
use Rattle.js_value.specs.Value.{undefined}
use Rattle.js_frames.proofs.slots.Slots.unset.Given as goal

abbrev pub invariant-loop-number : goal.invariant-loop-number
invariant-loop-number l =
    fold (λ slots k. slice_set slots k (Some undefined)) l.self (drop l.number-index l.numbers) ≡ fold (λ slots k. slice_set slots k (Some undefined)) l.initial.self l.numbers
