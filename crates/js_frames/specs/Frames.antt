-- What each frame does with what it waits for, and what a machine will come to.
use Rattle.std.specs.Prelude.{ℕ, cond, List, [], ◌∷◌, ◌++◌, length, drop, Option, Some, None, Ok, slice_get}
use Rattle.js_value.specs.Value as v
use Rattle.js_value.specs.Value.{PlainValue, is_truthy}
use Rattle.js_value.specs.Lists.{values_in}
use Rattle.js_value.specs.Views.{plain_value}
use Rattle.js_ops.specs.Made.{Answer}
use Rattle.js_ops.specs.Operators.{value_of}
use Rattle.js_program.specs.PlainProgram as p
use Rattle.js_program.specs.PlainProgram.{PlainNodeForm, PlainNode, PlainContent, PlainProgram, parts_of}
use Rattle.js_meaning.specs.State as js
use Rattle.js_meaning.specs.State.{Setting, State, normal, broke, continued, returned, Outcome, went, violated, spends, ◌>>=◌, gives, leaves, breaks, left_of}
use Rattle.js_meaning.specs.Variables.{in_slot, if_declared, set_variable, undeclare}
use Rattle.js_meaning.specs.Calls.{body_of, after_call, sequence, in_order, for_each_from}
use Rattle.js_meaning.specs.Forms.{asks}
use Rattle.js_meaning.specs.Expressions.{writes, combines}
use Rattle.js_meaning.specs.Statements.{after_iteration, does_declaration, perhaps, each, each_of}
use Rattle.js_meaning.specs.Meaning.{eval, iterations_of}
use Rattle.js_frames.specs.declared.step.Completion.{Completion}
use Rattle.js_frames.specs.declared.step.Completion.TheVariants.{Normal, Broke, Continued, Returned as ReturnedOf}
use Rattle.js_frames.specs.declared.step.Step.{Step}
use Rattle.js_frames.specs.declared.step.Step.TheVariants.{Begin, Give, Ask, Fail, Violate}
use Rattle.js_frames.specs.declared.frame.Loop.{Loop}
use Rattle.js_frames.specs.declared.frame.Walk.{Walk}
use Rattle.js_frames.specs.declared.frame.Sequence.{Sequence}
use Rattle.js_frames.specs.declared.frame.Sequence.TheVariants.{Block, Function, Top}
use Rattle.js_frames.specs.declared.frame.Part.{Part}
use Rattle.js_frames.specs.declared.frame.Part.TheVariants.{First, Second, Further, Or, And, Choice, When, Assigned, AssignedWith, Declared, Dropped, Returned, Statements, Started, Tested, Between, Listed, Walked}
use Rattle.js_frames.specs.declared.frame.Iteration.{Iteration}
use Rattle.js_frames.specs.declared.frame.Iteration.TheVariants.{OfLoop, OfItems}
use Rattle.js_frames.specs.declared.frame.Frame.{Frame}
use Rattle.js_frames.specs.declared.frame.Frame.TheVariants.{Waiting, Iterating, Called}
use Rattle.js_frames.specs.Places.{Place, Beside, setting_at, state_at}

abbrev pub plain_completion : Completion → js.Completion
plain_completion (Normal x) = normal (plain_value x)
plain_completion Broke = broke
plain_completion Continued = continued
plain_completion (ReturnedOf x) = returned (plain_value x)

-- ---- statements in order

-- the statements of a body; of one value there are none
abbrev pub statements_in : PlainContent → List ℕ
statements_in (p.statements ns) = ns
statements_in (p.one_value n) = []

abbrev pub block_in : PlainNodeForm → List ℕ
block_in (p.block slots ns) = ns
block_in _ = []

abbrev pub block_of : Option PlainNode → List ℕ
block_of None = []
block_of (Some node) = block_in node.form

abbrev pub statements_of : PlainProgram → Sequence → List ℕ
statements_of program (Block n) = block_of (slice_get program.nodes n)
statements_of program (Function code) = statements_in (body_of program code).content
statements_of program Top = statements_in program.top.content

module _ (g : Setting) where
  -- the parts after those that are done, and then what the node makes of all
  abbrev pub parts_from : Option PlainNode → List PlainValue → State → Outcome
  parts_from None done s = spends s
  parts_from (Some node) done s =
      in_order (eval g) (drop (length done) (parts_of node.form)) done
      (combines g (eval g) node.line node.form) s

  -- the declarators of a node from a place on
  abbrev pub declares_from : PlainNodeForm → ℕ → State → Outcome
  declares_from (p.declaration kind ds) place s = does_declaration (eval g) kind (drop place ds) s
  declares_from _ place s = leaves s

  abbrev pub declaring_from : Option PlainNode → ℕ → State → Outcome
  declaring_from None place s = leaves s
  declaring_from (Some node) place s = declares_from node.form place s

  -- the statements from a place on
  abbrev pub sequence_from : Sequence → ℕ → State → Outcome
  sequence_from which place s = sequence (eval g) (drop place (statements_of g.base.program which)) s

  -- a loop at its test
  abbrev pub loop : Loop → State → Outcome
  loop t s = iterations_of g t.test t.body t.next s

  -- a `for`
  abbrev pub starts_loop : List ℕ → Option ℕ → Loop → State → Outcome
  starts_loop slots first t s = perhaps (eval g) first (undeclare slots s) >>= λ _. loop t

  -- a `for of` from a place of its list on
  abbrev pub items_from : ℕ → ℕ → v.ValueList → ℕ → State → Outcome
  items_from k body items place s = each (eval g) k body (drop place (values_in items)) s

  -- a `forEach` from its index on
  abbrev pub walk_from : Walk → State → Outcome
  walk_from w s =
      for_each_from g (eval g) w.line (v.function w.code w.captured) (v.list w.items) w.index
      (drop w.index (values_in w.items)) s

  -- the rest of a node, from the value of the part that it waits for
  unfoldable pub rest : Part → PlainValue → State → Outcome
  rest (First n) x s = parts_from (slice_get g.base.program.nodes n) (x ∷ []) s
  rest (Second n first) x s =
      parts_from (slice_get g.base.program.nodes n) (plain_value first ∷ x ∷ []) s
  rest (Further n done) x s = parts_from (slice_get g.base.program.nodes n) (done ++ x ∷ []) s
  rest (Or right) x s = cond (is_truthy x) (gives x) (eval g right) s
  rest (And right) x s = cond (is_truthy x) (eval g right) (gives x) s
  rest (Choice a b) x s = cond (is_truthy x) (eval g a) (eval g b) s
  rest (When body) x s = cond (is_truthy x) (eval g body) leaves s
  rest (Assigned k line) x s = if_declared line (in_slot k s.slots) (λ _. writes line k (Ok x)) s
  rest (AssignedWith op old k line) x s = writes line k (value_of op (plain_value old) x) s
  rest (Declared n variable place) x s =
      declaring_from (slice_get g.base.program.nodes n) place (set_variable variable x s)
  rest Dropped x s = leaves s
  rest Returned x s = went (returned x) s
  rest (Statements which place) x s = sequence_from which place s
  rest (Started t) x s = loop t s
  rest (Tested t) x s =
      cond (is_truthy x)
      (λ now. after_iteration (eval g t.body now)
      (λ later. perhaps (eval g) t.next later >>= λ _. loop t)) leaves s
  rest (Between t) x s = loop t s
  rest (Listed k body line) x s = each_of (eval g) line k body x s
  rest (Walked w) x s = walk_from w s

  -- the other iterations of a loop
  unfoldable pub again : Iteration → State → Outcome
  again (OfLoop t) s = perhaps (eval g) t.next s >>= λ _. loop t
  again (OfItems k body items place) s = items_from k body items place s

  -- what waits goes on with an outcome
  unfoldable pub resume : Frame → Outcome → Outcome
  resume (Waiting part) o = o >>= rest part
  resume (Iterating iteration) o = after_iteration o (again iteration)
  resume (Called slots active) o = after_call slots active o

  -- all that waits goes on with an outcome, the last frame first
  unfoldable pub plug : List Frame → Outcome → Outcome
  plug [] o = o
  plug (f ∷ fs) o = resume f (plug fs o)

  -- what a step comes to
  unfoldable pub step_outcome : Step → State → Outcome
  step_outcome (Begin n) s = eval g n s
  step_outcome (Give c) s = went (plain_completion c) s
  step_outcome (Ask statement priority line) s =
      asks g.budget line (plain_value statement) (plain_value priority) s.replies s
  step_outcome (Fail fault line) s = breaks fault line s
  step_outcome (Violate text) s = violated text (left_of s)

-- the new value is put into the slot, and the old one given
abbrev pub writes_behind : ℕ → ℕ → PlainValue → Answer → State → Outcome
writes_behind line k old a s = writes line k a s >>= λ _. gives old

-- what a machine comes to that stands there, with this step to come
unfoldable pub future : js.Ground → Place → Step → Beside → Outcome
future base m step beside =
    plug (setting_at base m) m.stack (step_outcome (setting_at base m) step (state_at m beside))
