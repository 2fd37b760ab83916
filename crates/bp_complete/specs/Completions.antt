-- Complete stories that begin with the records of another, and merge what the same injectors bring.
use Rattle.std.specs.Prelude.{◌≡◌, ℕ, List, [], ◌∷◌, ◌++◌, Some, slice_get}
use mathlib.Core.List.{IsPrefix}
use Rattle.bp_log.specs.Options.{PlainOptions}
use Rattle.bp_log.specs.Records.{Complete}
use Rattle.bp_log.specs.declared.item.Item.{Item}
use Rattle.bp_log.specs.declared.item.Item.TheVariants.{Offered, Bad, Failed, End}
use Rattle.bp_log.specs.declared.record.Record.{Record}
use Rattle.bp_run.specs.Bodies.{Code}
use Rattle.bp_run.specs.Configuration.{Configuration}
use Rattle.bp_run.specs.Story as runs
use Rattle.bp_steps.specs.Merging.{items_by}

-- what an injector brings: events, and then its end or a bad line
abbrev pub AreBrought : List Item → Type 0
AreBrought [] = ⊥
AreBrought (Offered e ∷ items) = AreBrought items
AreBrought (Bad n ∷ items) = items ≡ []
AreBrought (Failed ∷ items) = ⊥
AreBrought (End ∷ items) = items ≡ []

-- the records of each injector are the first items that it brings, in order
abbrev pub MergesBrought : List Record → List (List Item) → Type 0
MergesBrought records brought =
    (j : ℕ) (items : List Item) → slice_get brought j ≡ Some items
    → IsPrefix (items_by j records) items

-- more records that complete the story of these, and still merge what the injectors bring
pub record Completion {O S : Type 0} (code : Code O S) (o : PlainOptions) (records : List Record)
    (brought : List (List Item)) : Type 0 where
  pub later : List Record
  pub last : Configuration O
  pub story : runs.story code o (records ++ later) ≡ Some last
  pub complete : Complete (records ++ later)
  pub merges : MergesBrought (records ++ later) brought
