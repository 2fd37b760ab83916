-- The nodes of the top level.
use Rattle.std.specs.Prelude.{ℕ, suc, Bool, nat_eq, List, [], ◌∷◌, ◌++◌, if◌then◌else◌}
use Rattle.std.specs.List.{list_any}
use Rattle.js_program.specs.PlainProgram.{PlainNode, PlainProgram, parts_of, content_parts}

abbrev pub has : List ℕ → ℕ → Bool
has numbers n = list_any (nat_eq n) numbers

-- with the parts of a node, where it is one of them
abbrev pub with_parts : List ℕ → ℕ → PlainNode → List ℕ
with_parts numbers n x = if has numbers n then numbers ++ parts_of x.form else numbers

-- The numbers that a body begins with, and the parts of each of these nodes whose number is one of them: each
-- part has a smaller number than its node, and these are the nodes from one number on.
abbrev pub numbers_in : List ℕ → ℕ → List PlainNode → List ℕ
numbers_in begun n [] = begun
numbers_in begun n (x ∷ xs) = with_parts (numbers_in begun (suc n) xs) n x

-- the numbers of the nodes of the top level: what stands in a function is none of its parts
abbrev pub top_numbers : PlainProgram → List ℕ
top_numbers p = numbers_in (content_parts p.top.content) 0 p.nodes

abbrev pub is_at_top : PlainProgram → ℕ → Bool
is_at_top p n = has (top_numbers p) n
