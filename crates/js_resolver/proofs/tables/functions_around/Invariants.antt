use Rattle.std.proofs.Common.{◌≡◌, ℕ, map, take, nat_eq}
use Rattle.indexmap.specs.IndexMap.{get}
use Rattle.js_names.specs.Views.{mention_of}
use Rattle.js_resolver.specs.Variables.{around_there, owner_key, known_in}
use Rattle.js_resolver.proofs.tables.functions_around.Given as goal

abbrev pub invariant-loop-mention : goal.invariant-loop-mention
invariant-loop-mention l = (q : ℕ) → get nat_eq l.around q ≡ known_in owner_key around_there q (map mention_of (take l.mention-index l.mentions))
