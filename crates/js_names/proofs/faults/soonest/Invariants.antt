use Rattle.std.proofs.Common.{◌≡◌, drop, fold, map, length}
use Rattle.js_names.specs.Mentions.{Mention}
use Rattle.js_names.specs.Rules.{fault_at, sooner, soonest}
use Rattle.js_names.specs.inner.Breaches.{fault_in}
use Rattle.js_names.specs.Views.{mention_of}
use Rattle.js_names.specs.Held.{held_in}
use Rattle.js_names.proofs.faults.soonest.Given as goal

abbrev pub invariant-loop-mention : goal.invariant-loop-mention
invariant-loop-mention l =
    fold (λ f (p : Mention). sooner f (fault_at l.assigned.keys (λ g. length (held_in l.held g)) p)) (fault_in l.first) (map mention_of (drop l.mention-index l.mentions))
    ≡ soonest (fault_at l.assigned.keys (λ g. length (held_in l.held g))) (map mention_of l.mentions)
