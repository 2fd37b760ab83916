-- What a sound program keeps of each body.
use Rattle.std.proofs.Common.{◌≡◌, ℕ, ◌+◌, ◌<◌, ◌≤◌, length, Some, true}
use Rattle.std.proofs.lemmas.Bool.{and_parts, leb-true}
use Rattle.std.specs.Prelude.{◌&&◌, nat_le, slice_get}
use Rattle.std.specs.List.{list_all}
use Rattle.js_program.specs.PlainProgram.{PlainBody, PlainProgram, content_parts}
use Rattle.js_program.specs.Sound.{all_below, node_fits, NodeFits, body_fits, IsSound}
use Rattle.js_program.proofs.Order.{all_at}
use Rattle.js_program.proofs.Nodes.{node_below}

-- the slots of a body hold its parameters and what it captures, and its content fits
pub record BodyFits (p : PlainProgram) (constants : ℕ) (b : PlainBody) : Type 0 where
  pub room : b.parameters + length b.captures ≤ b.slots
  pub vars : all_below b.slots b.vars ≡ true
  pub content : (i k : ℕ) → slice_get (content_parts b.content) i ≡ Some k → NodeFits p b.slots constants k

every_depth : (p : PlainProgram) (constants : ℕ) (b : PlainBody) → ((depth : ℕ) → body_fits p constants depth b ≡ true) → BodyFits p constants b
every_depth p constants b h =
    let room = and_parts (nat_le (b.parameters + length b.captures) b.slots) _ (and_parts _ (list_all (node_fits p b.slots constants 0) (content_parts b.content)) (h 0)).0 in
    record {
      room = leb-true _ _ room.0;
      vars = room.1;
      content = λ i k e depth. all_at (node_fits p b.slots constants depth) (content_parts b.content) i k e (and_parts (nat_le (b.parameters + length b.captures) b.slots && all_below b.slots b.vars) _ (h depth)).1;
    }

-- the top level
pub top_body : (p : PlainProgram) → IsSound p → BodyFits p (length p.constants) p.top
top_body p h = every_depth p (length p.constants) p.top h.top

-- each function, which declares no constants
pub function_body : (p : PlainProgram) (code : ℕ) (b : PlainBody) → IsSound p → slice_get p.functions code ≡ Some b → BodyFits p 0 b
function_body p code b h e = every_depth p 0 b (λ depth. all_at (body_fits p 0 depth) p.functions code b e (h.bodies depth))

-- what a body begins with is there
pub content_below : (p : PlainProgram) (constants : ℕ) (b : PlainBody) (i k : ℕ) → BodyFits p constants b → slice_get (content_parts b.content) i ≡ Some k → k < length p.nodes
content_below p constants b i k h e = node_below p b.slots constants k (h.content i k e)
