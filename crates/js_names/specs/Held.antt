-- What maps of sets take in: the variables of each function.
use Rattle.std.specs.Prelude.{◌≡◌, ◌<◌, ℕ, List, [], Option, Some, None, length, nat_eq, fold, slice_index_or}
use Rattle.js_names.specs.declared.mention.Mention.{Mention as HeldMention}
use Rattle.indexmap.specs.IndexMap.{IndexMap, get}
use Rattle.indexmap.specs.IndexSet.{IndexSet}
use Rattle.js_names.specs.declared.holdings.Own.{Own}
use Rattle.js_names.specs.Slots.{Holding, captures_in, joins, held_by, parameter_in, variable_in, var_in}
use Rattle.std.specs.declared.hash.FoldHasher.{FoldHasher}
use Rattle.std.specs.declared.hash.BuildHasherDefault.{BuildHasherDefault}
use Rattle.js_names.specs.Mentions.{Mention}
use Rattle.js_names.specs.Views.{mention_of}

-- the sets that a map holds
abbrev pub Sets : Type 0
Sets = IndexMap ℕ (IndexSet ℕ (BuildHasherDefault FoldHasher)) (BuildHasherDefault FoldHasher)

abbrev pub keys_of : Option (IndexSet ℕ (BuildHasherDefault FoldHasher)) → List ℕ
keys_of None = []
keys_of (Some s) = s.keys

-- the variables of a function in a map of sets
abbrev pub held_in : Sets → ℕ → List ℕ
held_in sets f = keys_of (get nat_eq sets f)

-- a map of sets took in what functions hold
abbrev pub Holds : Sets → Sets → List Holding → Type 0
Holds old new hs = (f : ℕ) → held_in new f ≡ fold joins (held_in old f) (held_by f hs)

-- what a mention has a function hold of its own
abbrev pub own_in : Own → List ℕ → Mention → List Holding
own_in Own.Parameters assigned p = parameter_in p
own_in Own.Variables assigned p = variable_in assigned p
own_in Own.Vars assigned p = var_in assigned p

-- a mention before makes the captures of this mention
abbrev pub IsMade : List ℕ → List HeldMention → Mention → Type 0
IsMade assigned before p =
    (at : ℕ)
    × (x : HeldMention)
    × (at < length before)
    × (x ≡ slice_index_or before at x)
    × (captures_in assigned (mention_of x) ≡ captures_in assigned p)
