-- What the tables of a program hold.
use Rattle.std.specs.Prelude.{◌≡◌, ℕ, nat_eq, Option, None, if◌then◌else◌}
use Rattle.std.specs.declared.hash.FoldHasher.{FoldHasher}
use Rattle.std.specs.declared.hash.BuildHasherDefault.{BuildHasherDefault}
use Rattle.indexmap.specs.IndexMap.{IndexMap, get}
use Rattle.js_names.specs.Mentions.{or_else}

abbrev pub Known : Type 0 → Type 0
Known A = IndexMap ℕ A (BuildHasherDefault FoldHasher)

-- a map took in what a mention knows of a key, unless it knew something
abbrev pub Notes : {A : Type 0} → Known A → Known A → ℕ → Option A → Type 0
Notes old new key value =
    (q : ℕ) → get nat_eq new q ≡ or_else (get nat_eq old q) (if nat_eq key q then value else None)
