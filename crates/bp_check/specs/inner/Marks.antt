-- The nodes of the top level, marked.
use Rattle.std.specs.Prelude.{◌≡◌, ◌<◌, ℕ, Bool, false, length, get_or, List}
use Rattle.bp_check.specs.Tops.{has}

-- for each of the nodes, whether its number is one of these
abbrev pub Marks : List Bool → List ℕ → Type 0
Marks marks numbers = (k : ℕ) → k < length marks → get_or marks k false ≡ has numbers k
