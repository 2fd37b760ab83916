use Rattle.std.proofs.Common.{◌≡◌, ℕ, map, take, nat_eq}
use Rattle.indexmap.specs.IndexMap.{get}
use Rattle.js_names.specs.Views.{mention_of}
use Rattle.js_names.specs.Held.{held_in}
use Rattle.js_resolver.specs.Variables.{named_there, name_key, known_in}
use Rattle.js_resolver.proofs.tables.variables_by_offset.Given as goal

abbrev pub invariant-loop-mention : goal.invariant-loop-mention
invariant-loop-mention l =
    (q : ℕ) → get nat_eq l.named q ≡ known_in name_key (named_there l.assigned.keys l.constants.keys (λ f. held_in l.held f)) q (map mention_of (take l.mention-index l.mentions))
