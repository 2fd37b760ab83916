-- Counts by number, and those of each block of them together.
use Rattle.std.specs.Prelude.{◌≡◌, ◌<◌, ◌≤◌, ◌+◌, ◌-◌, ◌*◌, ◌/◌, ℕ, List, drop, get_or, length, sum, take}
use Rattle.bp_roll.specs.declared.counts.TheConstants.{BLOCK}

-- the count of this number, and 0 where there is none
abbrev pub count_at : List ℕ → ℕ → ℕ
count_at counts n = get_or counts n 0

-- the counts of this block together
abbrev pub of_block : List ℕ → ℕ → ℕ
of_block counts block = sum (take BLOCK (drop (BLOCK * block) counts))

-- the counts of its block together, once this is the count of this number
abbrev pub block_with : List ℕ → ℕ → ℕ → ℕ
block_with counts n count = of_block counts (n / BLOCK) - count_at counts n + count

-- each of the sums is that of its block, and all counts are in blocks
pub record AreSums (sums counts : List ℕ) : Type 0 where
  pub each : (i : ℕ) → i < length sums → count_at sums i ≡ of_block counts i
  pub all : length counts ≤ BLOCK * length sums
