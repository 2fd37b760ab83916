use Rattle.std.proofs.Common.{◌≡◌, None, drop}
use Rattle.std.specs.Prelude.{fold, slice_set}
use Rattle.js_frames.proofs.slots.Slots.undeclare.Given as goal

abbrev pub invariant-loop-number : goal.invariant-loop-number
invariant-loop-number l =
    fold (λ slots k. slice_set slots k None) l.self (drop l.number-index l.numbers) ≡ fold (λ slots k. slice_set slots k None) l.initial.self l.numbers
