-- What a program means: the outcome of each node, by recursion on its parts.
use Rattle.std.specs.Prelude.{ℕ, zero, suc, ◌+◌, ◌*◌, [], length, slice_get, Option, Some, None}
use Rattle.js_tree.specs.declared.tree.Operator.TheVariants as operator
use Rattle.js_program.specs.PlainProgram as p
use Rattle.js_program.specs.PlainProgram.{PlainNodeForm, PlainNode, parts_of}
use Rattle.js_meaning.specs.State.{Setting, State, Outcome, spends, ◌>>=◌}
use Rattle.js_meaning.specs.Variables.{undeclare}
use Rattle.js_meaning.specs.Calls.{sequence, in_order}
use Rattle.js_meaning.specs.Expressions.{op_before, assigns, combines}
use Rattle.js_meaning.specs.Statements.{does_declaration, does_if, does_if_else, does_or, does_and, perhaps, iterations, does_for_of}

-- What a node does after it has begun: `ev` gives what its parts do, and `repeat test body next` the
-- iterations of a loop.
module _ (g : Setting) (ev : ℕ → State → Outcome)
    (repeat : Option ℕ → ℕ → Option ℕ → State → Outcome) where
  abbrev pub does : ℕ → PlainNodeForm → State → Outcome
  does line (p.binary operator.Or a b) s = does_or ev a b s
  does line (p.binary operator.And a b) s = does_and ev a b s
  does line (p.conditional test a b) s = does_if_else ev test a b s
  does line (p.assign op k e) s = assigns ev line (op_before op) k e s
  does line (p.block slots ns) s = sequence ev ns (undeclare slots s)
  does line (p.declaration kind declared) s = does_declaration ev kind declared s
  does line (p.if_alone test body) s = does_if ev test body s
  does line (p.if_else test body other) s = does_if_else ev test body other s
  does line (p.while_of test body) s = repeat (Some test) body None s
  does line (p.for_three slots first test next body) s =
      perhaps ev first (undeclare slots s) >>= λ _. repeat test body next
  does line (p.for_of k items body) s = does_for_of ev line k items body s
  -- all others evaluate their parts in order, and then combine the values
  does line form s = in_order ev (parts_of form) [] (combines g ev line form) s

  -- there is no node of a number that no node has
  abbrev pub does_node : Option PlainNode → State → Outcome
  does_node None s = spends s
  does_node (Some node) s = does node.line node.form s

-- beginning a node takes one unit of fuel
abbrev pub begins_with : ℕ → (State → Outcome) → State → Outcome
begins_with zero go s = spends s
begins_with (suc fuel) go s = go (record s { fuel = fuel })

abbrev pub begins : (State → Outcome) → State → Outcome
begins go s = begins_with s.fuel go s

-- The outcome of a node. `bound` is at least the number of nodes that the fuel and the replies still
-- allow: it makes this a recursion on a number, and is never met.
unfoldable pub within : Setting → ℕ → ℕ → State → Outcome
within g zero n s = spends s
within g (suc bound) n s =
    begins (does_node g (within g bound) (iterations (within g bound) bound)
    (slice_get g.base.program.nodes n)) s

-- the nodes that the fuel and the replies still allow
abbrev pub allowed : ℕ → State → ℕ
allowed budget s = s.fuel + budget * length s.replies

-- The outcome of a node.
unfoldable pub eval : Setting → ℕ → State → Outcome
eval g n s = within g (allowed g.budget s) n s

-- The outcome of a loop's iterations.
unfoldable pub iterations_of : Setting → Option ℕ → ℕ → Option ℕ → State → Outcome
iterations_of g test body next s = iterations (eval g) (allowed g.budget s) test body next s
