-- Every number of a program is in range: the parts of a node are smaller than the node, and slots, captures,
-- constants and functions are there. The top level alone declares constants, and a declared function captures
-- nothing.
use Rattle.std.specs.Prelude.{ℕ, ◌+◌, ◌<◌, suc, zero, Bool, true, false, ◌&&◌, nat_eq, nat_lt, nat_le, List, [], ◌∷◌, Option, Some, None, IsTrue, length, map, slice_get}
use Rattle.std.specs.List.{list_all}
use Rattle.js_program.specs.declared.node.Variable.{Variable}
use Rattle.js_program.specs.declared.node.Variable.TheVariants.{Slot, Constant}
use Rattle.js_program.specs.PlainProgram.{PlainDeclared, PlainNodeForm, read, fields, update, assign, function, block, declaration, for_three, for_of, PlainNode, PlainBody, PlainConstant, of_function, undeclared, unset, PlainProgram, parts_of, content_parts}

-- the variable that a form reads
abbrev pub variables_read : PlainNodeForm → List Variable
variables_read (read variable) = variable ∷ []
variables_read _ = []

-- the variables that it declares
abbrev pub variables_declared : PlainNodeForm → List Variable
variables_declared (declaration kind ds) = map (λ (d : PlainDeclared). d.variable) ds
variables_declared _ = []

-- the slots that it names
abbrev pub slots_named : PlainNodeForm → List ℕ
slots_named (update step fix slot) = slot ∷ []
slots_named (assign operator slot e) = slot ∷ []
slots_named (block slots ns) = slots
slots_named (for_three slots first test next body) = slots
slots_named (for_of slot items body) = slot ∷ []
slots_named _ = []

-- the function that it makes
abbrev pub function_in : PlainNodeForm → List ℕ
function_in (function code) = code ∷ []
function_in _ = []

-- fields have as many keys as values
abbrev pub keys_fit : PlainNodeForm → Bool
keys_fit (fields keys ns) = nat_eq (length keys) (length ns)
keys_fit _ = true

abbrev pub all_below : ℕ → List ℕ → Bool
all_below n xs = list_all (λ x. nat_lt x n) xs

-- one of this many slots, or of this many constants
abbrev pub variable_fits : ℕ → ℕ → Variable → Bool
variable_fits slots constants (Slot n) = nat_lt n slots
variable_fits slots constants (Constant n) = nat_lt n constants

abbrev pub captures_fit : ℕ → Option PlainBody → Bool
captures_fit slots None = false
captures_fit slots (Some b) = all_below slots b.captures

-- a function is there, and what it copies is in a slot of the function around it
abbrev pub function_fits : PlainProgram → ℕ → ℕ → Bool
function_fits p slots code = captures_fit slots (slice_get p.functions code)

-- what a form reads and changes is there, and the function that it makes
abbrev pub form_fits : PlainProgram → ℕ → PlainNodeForm → Bool
form_fits p slots form =
    list_all (variable_fits slots (length p.constants)) (variables_read form)
    && (all_below slots (slots_named form)
    && (list_all (function_fits p slots) (function_in form) && keys_fit form))

-- a node is there, what it names is there, it declares slots and constants below this number, and its parts
-- pass a test
abbrev pub found_fits : PlainProgram → ℕ → ℕ → (ℕ → Bool) → Option PlainNode → Bool
found_fits p slots constants parts_pass None = false
found_fits p slots constants parts_pass (Some x) =
    form_fits p slots x.form
    && (list_all (variable_fits slots constants) (variables_declared x.form)
    && list_all parts_pass (parts_of x.form))

-- a node fits a body with this many slots that declares constants below this number, and so do its parts,
-- down to this depth
unfoldable pub node_fits : PlainProgram → ℕ → ℕ → ℕ → ℕ → Bool
node_fits p slots constants zero n = true
node_fits p slots constants (suc depth) n =
    found_fits p slots constants (node_fits p slots constants depth) (slice_get p.nodes n)

-- a node fits, however deep
abbrev pub NodeFits : PlainProgram → ℕ → ℕ → ℕ → Type 0
NodeFits p slots constants n = (depth : ℕ) → IsTrue (node_fits p slots constants depth n)

-- the slots of a body hold its parameters, what it captures, and its `var`s; it declares constants below this
-- number
abbrev pub body_fits : PlainProgram → ℕ → ℕ → PlainBody → Bool
body_fits p constants depth b =
    (nat_le (b.parameters + length b.captures) b.slots && all_below b.slots b.vars)
    && list_all (node_fits p b.slots constants depth) (content_parts b.content)

abbrev pub captures_nothing : Option PlainBody → Bool
captures_nothing None = false
captures_nothing (Some b) = nat_eq (length b.captures) 0

-- a declared function is there, and captures nothing
abbrev pub constant_fits : PlainProgram → PlainConstant → Bool
constant_fits p (of_function code) = captures_nothing (slice_get p.functions code)
constant_fits p undeclared = true
constant_fits p unset = true

-- each part of a node has a smaller number than the node
unfoldable pub ordered : ℕ → List PlainNode → Bool
ordered n [] = true
ordered n (x ∷ xs) = all_below n (parts_of x.form) && ordered (suc n) xs

-- its lists are counted by 32 bits, and its nodes fit, however deep: functions declare no constants
pub record IsSound (p : PlainProgram) : Type 0 where
  pub nodes : length p.nodes < 4294967296
  pub functions : length p.functions < 4294967296
  pub constants : length p.constants < 4294967296
  pub order : IsTrue (ordered 0 p.nodes)
  pub top : (depth : ℕ) → IsTrue (body_fits p (length p.constants) depth p.top)
  pub bodies : (depth : ℕ) → IsTrue (list_all (body_fits p 0 depth) p.functions)
  pub starts : IsTrue (list_all (constant_fits p) p.constants)
