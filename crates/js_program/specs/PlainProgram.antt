-- Resolved programs as plain data. A form has the numbers of its parts, in the order in which they begin in
-- the text.
use Rattle.std.specs.Prelude.{ℕ, ℤ, Bool, List, [], ◌∷◌, ◌++◌, Option, option_to_list}
use Rattle.std.specs.List.{filter_map}
use Rattle.js_tree.specs.declared.tree.Sign.{Sign}
use Rattle.js_tree.specs.declared.tree.Step.{Step}
use Rattle.js_tree.specs.declared.tree.Fix.{Fix}
use Rattle.js_tree.specs.declared.tree.Operator.{Operator}
use Rattle.js_tree.specs.declared.tree.AssignOp.{AssignOp}
use Rattle.js_tree.specs.declared.tree.DeclareKind.{DeclareKind}
use Rattle.js_program.specs.declared.builtin.Builtin.{Builtin}
use Rattle.js_program.specs.declared.node.Variable.{Variable}

-- a declared variable, and the number of its value, if it has one
pub record PlainDeclared : Type 0 where
  pub variable : Variable
  pub value : Option ℕ

pub data PlainNodeForm : Type 0 where
  number : ℤ → PlainNodeForm
  text : List ℕ → PlainNodeForm
  truth : Bool → PlainNodeForm
  null : PlainNodeForm
  undefined : PlainNodeForm
  read : Variable → PlainNodeForm
  list : List ℕ → PlainNodeForm
  -- the keys and the values, in one order
  fields : List (List ℕ) → List ℕ → PlainNodeForm
  -- `x.word`
  member : ℕ → List ℕ → PlainNodeForm
  -- `x[i]`
  index : ℕ → ℕ → PlainNodeForm
  -- a function and the arguments
  call : ℕ → List ℕ → PlainNodeForm
  -- `x.word(..)`
  method : ℕ → List ℕ → List ℕ → PlainNodeForm
  -- a form of `bp` or `Math` with its arguments; `bp.all` and `bp.none` have none
  builtin : Builtin → List ℕ → PlainNodeForm
  -- `Math.floor(a / b)`, and the arguments after it
  floor_divide : ℕ → ℕ → List ℕ → PlainNodeForm
  unary : Sign → ℕ → PlainNodeForm
  -- `x++` and its kind, with the slot of `x`
  update : Step → Fix → ℕ → PlainNodeForm
  binary : Operator → ℕ → ℕ → PlainNodeForm
  -- `test ? a : b`
  conditional : ℕ → ℕ → ℕ → PlainNodeForm
  -- the slot of the variable, and the value
  assign : AssignOp → ℕ → ℕ → PlainNodeForm
  -- the function of this number
  function : ℕ → PlainNodeForm
  empty : PlainNodeForm
  -- the slots that are not declared yet as it begins, and the statements
  block : List ℕ → List ℕ → PlainNodeForm
  declaration : DeclareKind → List PlainDeclared → PlainNodeForm
  expression : ℕ → PlainNodeForm
  if_alone : ℕ → ℕ → PlainNodeForm
  if_else : ℕ → ℕ → ℕ → PlainNodeForm
  while_of : ℕ → ℕ → PlainNodeForm
  -- `for (first; test; next) body`, with the slots that are not declared yet as it begins
  for_three : List ℕ → Option ℕ → Option ℕ → Option ℕ → ℕ → PlainNodeForm
  -- `for (let x of list) body`, with the slot of `x`, which is not declared yet as the list begins
  for_of : ℕ → ℕ → ℕ → PlainNodeForm
  break_of : PlainNodeForm
  continue_of : PlainNodeForm
  return_nothing : PlainNodeForm
  return_of : ℕ → PlainNodeForm

-- a node: the line of its first token, and its form
pub record PlainNode : Type 0 where
  pub line : ℕ
  pub form : PlainNodeForm

-- what a call runs: statements, or one expression whose value is the answer
pub data PlainContent : Type 0 where
  statements : List ℕ → PlainContent
  one_value : ℕ → PlainContent

-- A function, or the top level. Its slots hold the parameters, then the captured values, then its other variables.
pub record PlainBody : Type 0 where
  pub parameters : ℕ
  pub slots : ℕ
  pub captures : List ℕ  -- for each captured value, its slot in the function around
  pub vars : List ℕ  -- the slots that are undefined as it begins; its other variables are not declared yet
  pub content : PlainContent
  pub line : ℕ

-- what a constant is before the program runs
pub data PlainConstant : Type 0 where
  of_function : ℕ → PlainConstant  -- the function of this number
  undeclared : PlainConstant  -- a `let` or `const`
  unset : PlainConstant  -- a `var`

pub record PlainProgram : Type 0 where
  pub nodes : List PlainNode
  pub functions : List PlainBody
  pub constants : List PlainConstant
  pub top : PlainBody

-- the numbers of the parts of a form, in the order in which they begin in the text
abbrev pub parts_of : PlainNodeForm → List ℕ
parts_of (list ns) = ns
parts_of (fields keys ns) = ns
parts_of (member x word) = x ∷ []
parts_of (index x i) = x ∷ i ∷ []
parts_of (call f arguments) = f ∷ arguments
parts_of (method x word arguments) = x ∷ arguments
parts_of (builtin form arguments) = arguments
parts_of (floor_divide a b dropped) = a ∷ b ∷ dropped
parts_of (unary sign e) = e ∷ []
parts_of (binary operator a b) = a ∷ b ∷ []
parts_of (conditional test a b) = test ∷ a ∷ b ∷ []
parts_of (assign op slot e) = e ∷ []
parts_of (block slots ns) = ns
parts_of (declaration kind ds) = filter_map (λ (d : PlainDeclared). d.value) ds
parts_of (expression e) = e ∷ []
parts_of (if_alone test body) = test ∷ body ∷ []
parts_of (if_else test body other) = test ∷ body ∷ other ∷ []
parts_of (while_of test body) = test ∷ body ∷ []
parts_of (for_three slots first test next body) =
    option_to_list first ++ option_to_list test ++ option_to_list next ++ body ∷ []
parts_of (for_of slot items body) = items ∷ body ∷ []
parts_of (return_of e) = e ∷ []
parts_of _ = []

-- the numbers that a body begins with
abbrev pub content_parts : PlainContent → List ℕ
content_parts (statements ns) = ns
content_parts (one_value n) = n ∷ []
