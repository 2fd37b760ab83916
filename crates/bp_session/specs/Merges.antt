-- The records of a run merge the items of its injectors.
use Rattle.std.specs.Prelude.{◌≡◌, ℕ, List, Some, slice_get}
use mathlib.Core.List.{IsPrefix}
use Rattle.bp_log.specs.declared.record.Record.{Record}
use Rattle.bp_feeds.specs.Items.{items}
use Rattle.bp_steps.specs.Merging.{items_by}

-- the records of each injector are the first items of its bytes, in order
abbrev pub Merge : List Record → List (List ℕ) → Type 0
Merge records inputs =
    (j : ℕ) (bytes : List ℕ) → slice_get inputs j ≡ Some bytes
    → IsPrefix (items_by j records) (items bytes)
