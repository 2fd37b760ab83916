-- A node that fits a body with this many slots, which declares constants below a number, is there.
use Rattle.std.proofs.Common.{◌≡◌, ℕ, ◌<◌, refl, length, Option, Some, None, Bool, true}
use Rattle.std.proofs.lemmas.Bool.{false≢true}
use Rattle.std.proofs.lemmas.Option.{slice_get_within}
use Rattle.std.specs.Prelude.{slice_get}
use Rattle.js_program.specs.PlainProgram.{PlainNode, PlainProgram}
use Rattle.js_program.specs.Sound.{found_fits, node_fits, NodeFits}

found_node : (p : PlainProgram) (slots constants : ℕ) (test : ℕ → Bool) (o : Option PlainNode) → found_fits p slots constants test o ≡ true → (x : PlainNode) × (o ≡ Some x)
found_node p slots constants test None h = absurd (false≢true h)
found_node p slots constants test (Some x) h = (x, refl)

node_there : (p : PlainProgram) (slots constants n : ℕ) → NodeFits p slots constants n → (x : PlainNode) × (slice_get p.nodes n ≡ Some x)
unfolding node_fits
node_there p slots constants n h = found_node p slots constants (node_fits p slots constants 0) (slice_get p.nodes n) (h 1)

pub node_below : (p : PlainProgram) (slots constants n : ℕ) → NodeFits p slots constants n → n < length p.nodes
node_below p slots constants n h = let r = node_there p slots constants n h in slice_get_within p.nodes n r.0 r.1
