use Rattle.std.proofs.Common.{◌≡◌, ℕ, drop, fold}
use Rattle.js_names.specs.Slots.{joins, held_by, holds_all, inside}
use Rattle.js_names.specs.Held.{held_in}
use Rattle.js_names.proofs.holdings.hold_inside.Given as goal

abbrev pub invariant-loop-function : goal.invariant-loop-function
invariant-loop-function l =
    (q : ℕ) → fold joins (held_in l.held q) (held_by q (holds_all l.declared.offset (inside l.declared.owner (drop l.function-index l.functions))))
    ≡ fold joins (held_in l.initial.held q) (held_by q (holds_all l.declared.offset (inside l.declared.owner l.functions)))
