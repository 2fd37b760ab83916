use Rattle.std.proofs.Common.{take}
use Rattle.std.specs.List.{flat_map}
use Rattle.js_names.specs.Slots.{captures_in}
use Rattle.js_names.specs.Views.{mention_of}
use Rattle.js_names.specs.Held.{Holds}
use Rattle.js_names.proofs.holdings.hold_all_captures.Given as goal

abbrev pub invariant-loop-at : goal.invariant-loop-at
invariant-loop-at l = Holds l.initial.held l.held (flat_map (λ p. captures_in l.assigned.keys (mention_of p)) (take l.at l.mentions))
