-- What injectors brought to a run.
use Rattle.std.specs.Prelude.{◌≡◌, ℕ, List, [], ◌∷◌, ◌++◌, Option, Some, IfSome, slice_get}
use Rattle.std.specs.List.{AllZip}
use mathlib.Core.List.{IsPrefix}
use Rattle.bp_base.specs.Worlds.{Holdings}
use Rattle.bp_log.specs.declared.item.Item.TheVariants.{Failed}
use Rattle.bp_log.specs.declared.record.Record.{Record}
use Rattle.bp_feeds.specs.Items.{items, items_before_fault}
use Rattle.bp_steps.specs.Merging.{items_by}
use Rattle.bp_loading.specs.Loading.{IsUnder}

-- these inputs, one after another, are what the world holds under the names, where it tells what it
-- holds
abbrev pub AreUnder : Option Holdings → List (List ℕ) → List (List ℕ) → Type 0
AreUnder holds names inputs = AllZip (IsUnder holds) names inputs

-- the records of each injector are all items of its input, in order
abbrev pub MergeWhole : List Record → List (List ℕ) → Type 0
MergeWhole records inputs =
    (j : ℕ) (bytes : List ℕ) → slice_get inputs j ≡ Some bytes → items_by j records ≡ items bytes

-- Reading one of the inputs failed after a front of its bytes: what the records say of it are the
-- items of the whole lines of that front.
abbrev pub BreaksIn : Option Holdings → List Record → List (List ℕ) → Type 0
BreaksIn holds records inputs =
    IfSome holds (λ held. (j : ℕ) × (bytes : List ℕ) × (slice_get inputs j ≡ Some bytes)
    × (took : List ℕ) × IsPrefix took bytes
    × (items_by j records ++ Failed ∷ [] ≡ items_before_fault took))
