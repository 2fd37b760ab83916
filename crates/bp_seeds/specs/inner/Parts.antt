-- Runs under many seeds, in parts.
use Rattle.std.specs.Prelude.{◌≡◌, ℕ, ◌+◌, ◌-◌, ◌*◌, min, List}
use Rattle.js_program.specs.PlainProgram.{PlainProgram}
use Rattle.bp_log.specs.Options.{PlainOptions}
use Rattle.bp_script.specs.Programs.{IsProgram}
use Rattle.bp_seeds.specs.declared.sweep.Sweep.{Sweep}
use Rattle.bp_explain.specs.Seeds.{Counted, under_seed}
use Rattle.bp_seeds.specs.inner.Merged.{counts_from}

-- how the runs of the program that the bytes are end under this many seeds from one on
abbrev pub AreCounts : List ℕ → PlainOptions → ℕ → ℕ → List Counted → Type 0
AreCounts bytes options many seed counts =
    (program : PlainProgram) → IsProgram bytes program
    → counts ≡ counts_from (under_seed program options) many seed

-- how many seeds stand before this part, of so many seeds in parts of this size
abbrev pub before : ℕ → ℕ → ℕ → ℕ
before count size part = min count (part * size)

-- the counts of this part
abbrev pub ArePart : List ℕ → Sweep → ℕ → ℕ → List Counted → Type 0
ArePart bytes s size part counts =
    AreCounts bytes s.options (before s.count size (part + 1) - before s.count size part)
    (s.first + before s.count size part) counts
