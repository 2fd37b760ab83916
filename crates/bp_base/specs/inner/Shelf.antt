-- A linked list of names and what is under them, seen as a list.
use Rattle.std.specs.Prelude.{ℕ, List, [], ◌∷◌, string_bytes}
use Rattle.bp_base.specs.declared.shelf.Shelf.{Shelf}
use Rattle.bp_base.specs.declared.shelf.Shelf.TheVariants.{Empty, More'}

-- the entries, the last one first
abbrev pub entries_of : {T : Type 0} → Shelf T → List (List ℕ × List T)
entries_of Empty = []
entries_of (More' p name list rest) = (string_bytes name, list.items) ∷ entries_of rest
