-- What is true of runs under many seeds.
use Rattle.std.specs.Prelude.{◌≡◌, ℕ, []}
use Rattle.std.specs.List.{sum_by}
use Rattle.js_program.specs.PlainProgram.{PlainProgram}
use Rattle.bp_log.specs.Options.{PlainOptions}
use Rattle.bp_explain.specs.Seeds.{count_all, ends_from, under_seed}

-- A run without injectors comes to an end under each seed, so that the counts of the ends add up to the
-- number of the seeds.
abbrev pub CountsAddUp : Type 0
CountsAddUp =
    (program : PlainProgram) (options : PlainOptions) (n seed : ℕ) → options.injectors ≡ 0 →
    sum_by (λ x. x.count) (count_all (ends_from (under_seed program options) n seed) []) ≡ n
