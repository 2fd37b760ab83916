-- The block sets of b-threads, by number.
use Rattle.std.specs.Prelude.{◌≡◌, ℕ, nat_eq, List, [], ◌∷◌, Option, Some, None, if◌then◌else◌}
use Rattle.js_value.specs.Value.{PlainSet}
use Rattle.bp_run.specs.Selecting.{Live}
use Rattle.bp_select.specs.EmptySets.{is_empty}
use Rattle.bp_known.specs.Known.{Sets}

-- the block set of a b-thread, unless it plainly blocks nothing
abbrev pub own_set : Live PlainSet → Option PlainSet
own_set t = if is_empty t.statement.block then None else Some t.statement.block

-- the block set of the b-thread of this number
abbrev pub block_at : List (Live PlainSet) → Sets
block_at [] n = None
block_at (t ∷ ts) n = if nat_eq t.number n then own_set t else block_at ts n

-- the sets are those of these b-threads
pub record AreOf (ts : List (Live PlainSet)) (sets : Sets) : Type 0 where
  pub each : (n : ℕ) → sets n ≡ block_at ts n
