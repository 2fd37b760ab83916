-- The normal form of the words of a command.
use Rattle.std.specs.Prelude.{◌≡◌, ℕ, List, [], ◌∷◌, ◌++◌, Option, Some, None, codes}
use Rattle.bp_args.specs.declared.key.Key.{Key}
use Rattle.bp_args.specs.declared.key.Key.TheVariants.{Log, Strategy, Seed, Budget, Steps, Workers, Slice, Wait}
use Rattle.bp_args.specs.declared.values.Values.{Values}
use Rattle.bp_args.specs.Keys.{key_name, keys}

-- the value of the option, where it is said
abbrev pub value_in : Values → Key → Option (List ℕ)
value_in v Log = v.log
value_in v Strategy = v.strategy
value_in v Seed = v.seed
value_in v Budget = v.budget
value_in v Steps = v.steps
value_in v Workers = v.workers
value_in v Slice = v.slice
value_in v Wait = v.wait

abbrev pub option_word : Key → List ℕ → List ℕ
option_word k value = codes "--" ++ (key_name k ++ (codes "=" ++ value))

abbrev pub option_words : Key → Option (List ℕ) → List (List ℕ)
option_words k None = []
option_words k (Some value) = option_word k value ∷ []

abbrev pub all_options : Values → List Key → List (List ℕ)
all_options v [] = []
all_options v (k ∷ ks) = option_words k (value_in v k) ++ all_options v ks

-- each option that is said, with its value after `=`; then `--`, and the other words
abbrev pub normal_words : Values → List (List ℕ)
normal_words v = all_options v keys ++ (codes "--" ∷ v.words)

-- the words are in the normal form
abbrev pub IsNormal : List (List ℕ) → Type 0
IsNormal words = (v : Values) × (words ≡ normal_words v)
