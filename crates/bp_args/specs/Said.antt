-- What the words of a command say, word by word from left to right.
use Rattle.std.specs.Prelude.{ℕ, ◌&&◌, ◌||◌, ◌==◌, not, Bool, true, false, nat_le, nat_lt, if◌then◌else◌, List, [], ◌∷◌, ◌++◌, length, Option, Some, None, option_map, option_and_then, codes}
use Rattle.std.specs.List.{list_all, position_or_len, before_first, after_first}
use Rattle.std.specs.Option.{is_some}
use Rattle.std.specs.Str.{all_ascii_digits, bytes_eq}
use Rattle.bp_log.specs.Logs.{strategy_at, wait_at}
use Rattle.bp_reading.specs.Words.{value_on, most_32, most_64, behind}
use Rattle.bp_args.specs.declared.key.Key.{Key}
use Rattle.bp_args.specs.declared.key.Key.TheVariants.{Log, Strategy, Seed, Budget, Steps, Workers, Slice, Wait}
use Rattle.bp_args.specs.Keys.{keys, key_at}
use Rattle.bp_args.specs.declared.said.TheConstants.{MOST_DIGITS}
use Rattle.bp_args.specs.declared.said.Waiting.{Waiting}
use Rattle.bp_args.specs.declared.said.Waiting.TheVariants.{Any, Value, Name}
use Rattle.bp_args.specs.declared.said.Said.{Said}

-- a name is `-` or doesn't begin with `-`
abbrev pub is_name : List ℕ → Bool
is_name [] = true
is_name (b ∷ []) = true
is_name (b ∷ c ∷ rest) = if b == 45 then false else true

-- a number is one digit or more, but not too many, and at most `most`
abbrev pub number_word : ℕ → List ℕ → Option ℕ
number_word most word =
    if nat_lt 0 (length word) && (nat_le (length word) MOST_DIGITS
    && (all_ascii_digits word && nat_le (value_on 0 word) most))
    then Some (value_on 0 word)
    else None

-- an option is its name after two hyphens
abbrev pub key_of : List ℕ → Option Key
key_of word = option_and_then key_at (behind (codes "--") word)

-- a value is said at most once
abbrev pub once : {A : Type 0} → Option A → Option A → Option (Option A)
once (Some x) said = None
once None None = None
once None (Some y) = Some (Some y)

-- the text, where it isn't empty
abbrev pub some_text : List ℕ → Option (List ℕ)
some_text [] = None
some_text (b ∷ bytes) = Some (b ∷ bytes)

-- the option gets the value
abbrev pub set : Said → Key → List ℕ → Option Said
set s Log v =
    option_map (λ o. record s { waiting = Any; log = o }) (once s.log (some_text v))
set s Strategy v =
    option_map (λ o. record s { waiting = Any; strategy = o }) (once s.strategy (strategy_at v))
set s Seed v =
    option_map (λ o. record s { waiting = Any; seed = o }) (once s.seed (number_word most_64 v))
set s Budget v =
    option_map (λ o. record s { waiting = Any; budget = o }) (once s.budget (number_word most_64 v))
set s Steps v =
    option_map (λ o. record s { waiting = Any; steps = o }) (once s.steps (number_word most_32 v))
set s Workers v =
    option_map (λ o. record s { waiting = Any; workers = o }) (once s.workers (number_word most_32 v))
set s Slice v =
    option_map (λ o. record s { waiting = Any; slice = o }) (once s.slice (number_word most_64 v))
set s Wait v =
    option_map (λ o. record s { waiting = Any; wait = o }) (once s.wait (wait_at v))

-- the word is a name after the others
abbrev pub name : Said → List ℕ → Said
name s word = record s { names = s.names ++ word ∷ [] }

-- what stands before the first such byte, and after it
abbrev pub parts_at : ℕ → List ℕ → Option (List ℕ × List ℕ)
parts_at c word =
    if nat_lt (position_or_len (λ b. b == c) word) (length word)
    then Some (before_first (λ b. b == c) word, after_first (λ b. b == c) word)
    else None

-- an option, with its value after `=` or in the next word
abbrev pub option_in : Said → List ℕ → Option (List ℕ × List ℕ) → Option Said
option_in s word None = option_map (λ k. record s { waiting = Value k }) (key_of word)
option_in s word (Some p) = option_and_then (λ k. set s k p.1) (key_of p.0)

-- before `--`
abbrev pub free_word : Said → List ℕ → Option Said
free_word s word =
    if bytes_eq word (codes "--") then Some (record s { waiting = Name }) else
    (if is_name word then Some (name s word) else option_in s word (parts_at 61 word))

-- what is said with one more word: a name, an option, or the value of the option before it
abbrev pub step_at : Said → List ℕ → Waiting → Option Said
step_at s word Any = free_word s word
step_at s word (Value k) = if is_name word then set s k word else None
step_at s word Name = Some (name s word)

abbrev pub step : Said → List ℕ → Option Said
step s word = step_at s word s.waiting

-- nothing is said
abbrev pub nothing_said : Said
nothing_said = record {
  waiting = Any;
  names = [];
  log = None;
  strategy = None;
  seed = None;
  budget = None;
  steps = None;
  workers = None;
  slice = None;
  wait = None;
}

abbrev pub said_on : Said → List (List ℕ) → Option Said
said_on s [] = Some s
said_on s (word ∷ words) = option_and_then (λ t. said_on t words) (step s word)

-- ---- what is known of all that was said

-- no option waits for its value
abbrev pub is_whole : Waiting → Bool
is_whole (Value k) = false
is_whole Any = true
is_whole Name = true

abbrev pub is_said : Said → Key → Bool
is_said s Log = is_some s.log
is_said s Strategy = is_some s.strategy
is_said s Seed = is_some s.seed
is_said s Budget = is_some s.budget
is_said s Steps = is_some s.steps
is_said s Workers = is_some s.workers
is_said s Slice = is_some s.slice
is_said s Wait = is_some s.wait

-- no option is said but those that are allowed
abbrev pub only : (Key → Bool) → Said → Bool
only allowed s = list_all (λ k. allowed k || not (is_said s k)) keys
