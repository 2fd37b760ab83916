-- Requests for the state of a run: the name of a log, and perhaps a number after it.
use Rattle.std.specs.Prelude.{ℕ, List, [], ◌∷◌, Option, Some, None, option_map, option_and_then, codes}
use Rattle.std.specs.Option.{option_or}
use Rattle.bp_reading.specs.Words.{number_at, most_32}
use Rattle.bp_args.specs.declared.command.Command.{Command}
use Rattle.bp_args.specs.declared.command.Command.TheVariants as command
use Rattle.bp_args.specs.Command.{command_of}
use Rattle.bpx_cli.specs.declared.state.State.{State}

-- the log that is replayed
abbrev pub log_in : Option Command → Option (List ℕ)
log_in (Some (command.Replay log)) = Some log
log_in _ = None

-- the name of a log, where the words say no more: they are read as those of `bp replay`
abbrev pub log_of : List (List ℕ) → Option (List ℕ)
log_of words = log_in (command_of (codes "replay" ∷ words))

-- the words before the last, and the last
abbrev pub last_apart : List (List ℕ) → Option (List (List ℕ) × List ℕ)
last_apart [] = None
last_apart (word ∷ []) = Some ([], word)
last_apart (word ∷ next ∷ words) = option_map (λ p. (word ∷ p.0, p.1)) (last_apart (next ∷ words))

abbrev pub with_number : List (List ℕ) × List ℕ → Option (List (List ℕ) × ℕ)
with_number p = option_map (λ n. (p.0, n)) (number_at most_32 p.1)

-- the words before the last, and the number that the last is
abbrev pub numbered : List (List ℕ) → Option (List (List ℕ) × ℕ)
numbered words = option_and_then with_number (last_apart words)

abbrev pub state_after : List (List ℕ) × ℕ → Option State
state_after p = option_map (λ log. record { log = log; number = Some p.1 }) (log_of p.0)

-- after as many records as the last word says
abbrev pub numbered_state : List (List ℕ) → Option State
numbered_state words = option_and_then state_after (numbered words)

abbrev pub state_at_end : List (List ℕ) → Option State
state_at_end words = option_map (λ log. record { log = log; number = None }) (log_of words)

-- the state that the words ask for
abbrev pub state_asked : List (List ℕ) → Option State
state_asked words = option_or (state_at_end words) (numbered_state words)
