use Rattle.std.proofs.Common.{take}
use Rattle.std.specs.List.{flat_map}
use Rattle.js_names.specs.Views.{mention_of}
use Rattle.js_names.specs.Held.{Holds, own_in}
use Rattle.js_names.proofs.holdings.hold_each_own.Given as goal

abbrev pub invariant-loop-mention : goal.invariant-loop-mention
invariant-loop-mention l = Holds l.initial.held l.held (flat_map (λ p. own_in l.own l.assigned.keys (mention_of p)) (take l.mention-index l.mentions))
