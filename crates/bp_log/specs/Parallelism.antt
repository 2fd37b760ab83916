-- What is asked of the machine that runs.
use Rattle.std.specs.Prelude.{ℕ, ◌≤◌}
use Rattle.bp_log.specs.declared.limits.TheConstants.{MOST_WORKERS, MOST_SLICE}

pub record PlainParallelism : Type 0 where
  pub workers : ℕ
  pub slice : ℕ

-- the numbers are in their ranges
pub record IsParallelism (b : PlainParallelism) : Type 0 where
  pub some_workers : 1 ≤ b.workers
  pub workers : b.workers ≤ MOST_WORKERS
  pub some_slice : 1 ≤ b.slice
  pub slice : b.slice ≤ MOST_SLICE

-- where nothing is said
abbrev pub default_parallelism : PlainParallelism
default_parallelism = record { workers = 4; slice = 10_000 }
