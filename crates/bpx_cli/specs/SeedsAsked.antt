-- Requests for the runs of a program under some seeds. Their words are read as those of `bp run`, where the first and
-- the last seed stand in place of the injectors. That a seed is said already leaves none to be said by an option.
use Rattle.std.specs.Prelude.{◌≡◌, ◌≤◌, ℕ, ◌+◌, ◌-◌, ◌&&◌, nat_le, nat_lt, List, [], ◌∷◌, Option, Some, None, option_and_then, option_map, codes, if◌then◌else◌}
use Rattle.std.specs.Option.{is_some}
use Rattle.bp_log.specs.Options.{PlainOptions}
use Rattle.bp_log.specs.Parallelism.{PlainParallelism}
use Rattle.bp_reading.specs.Words.{number_at, most_64}
use Rattle.bp_args.specs.declared.command.Run.{Run}
use Rattle.bp_args.specs.declared.command.Command.{Command}
use Rattle.bp_args.specs.declared.command.Command.TheVariants as command
use Rattle.bp_args.specs.Command.{command_of}
use Rattle.bpx_cli.specs.declared.seeds.TheConstants.{MOST_SEEDS}

pub record PlainSeeds : Type 0 where
  pub program : List ℕ
  pub first : ℕ
  pub count : ℕ
  pub options : PlainOptions
  pub parallelism : PlainParallelism

-- there are some, and not too many, each a number of 64 bits, and the runs have no injectors
pub record AreSeeds (s : PlainSeeds) : Type 0 where
  pub some : 1 ≤ s.count
  pub few : s.count ≤ MOST_SEEDS
  pub last : s.first + s.count ≤ most_64 + 1
  pub alone : s.options.injectors ≡ 0

-- the seeds from the first to the last, if they are not too many
abbrev pub seeds_between : Run → ℕ → ℕ → Option PlainSeeds
seeds_between asked first last =
    if nat_le first last && nat_lt (last - first) MOST_SEEDS
    then Some (record {
      program = asked.program;
      first = first;
      count = last - first + 1;
      options = record asked.options { injectors = 0 };
      parallelism = asked.parallelism;
    })
    else None

abbrev pub seed_at : List ℕ → Option ℕ
seed_at word = number_at most_64 word

-- the first and the last seed
abbrev pub ends_of : List (List ℕ) → Option (ℕ × ℕ)
ends_of (first ∷ last ∷ []) =
    option_and_then (λ a. option_map (λ b. (a, b)) (seed_at last)) (seed_at first)
ends_of _ = None

-- of many runs no log is kept
abbrev pub seeds_of_run : Run → Option PlainSeeds
seeds_of_run asked =
    if is_some asked.log then None else
    option_and_then (λ e. seeds_between asked e.0 e.1) (ends_of asked.injectors)

abbrev pub seeds_in : Option Command → Option PlainSeeds
seeds_in (Some (command.Run asked)) = seeds_of_run asked
seeds_in _ = None

-- the seeds that the words ask for
abbrev pub seeds_asked : List (List ℕ) → Option PlainSeeds
seeds_asked words = seeds_in (command_of (codes "run" ∷ codes "--seed=0" ∷ words))
