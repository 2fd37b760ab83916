-- The options and their names.
use Rattle.std.specs.Prelude.{ℕ, List, [], ◌∷◌, Option, find, codes}
use Rattle.std.specs.Str.{bytes_eq}
use Rattle.bp_args.specs.declared.key.Key.{Key}
use Rattle.bp_args.specs.declared.key.Key.TheVariants.{Log, Strategy, Seed, Budget, Steps, Workers, Slice, Wait}

abbrev pub key_name : Key → List ℕ
key_name Log = codes "log"
key_name Strategy = codes "strategy"
key_name Seed = codes "seed"
key_name Budget = codes "budget"
key_name Steps = codes "steps"
key_name Workers = codes "workers"
key_name Slice = codes "slice"
key_name Wait = codes "wait"

-- all options, in the order in which they are written
abbrev pub keys : List Key
keys = Log ∷ Strategy ∷ Seed ∷ Budget ∷ Steps ∷ Workers ∷ Slice ∷ Wait ∷ []

-- the option of this name
abbrev pub key_at : List ℕ → Option Key
key_at name = find (λ k. bytes_eq name (key_name k)) keys
