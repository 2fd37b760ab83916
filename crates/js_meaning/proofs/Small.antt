-- Small resolved programs, and what their bodies come to.
use Rattle.std.proofs.Common.{ℕ, List, [], Some, None}
use Rattle.std.specs.Prelude.{pos}
use Rattle.js_value.specs.Value as v
use Rattle.js_value.specs.Value.{PlainValue}
use Rattle.js_program.specs.declared.builtin.Mode.{Mode}
use Rattle.js_program.specs.declared.node.Variable.TheVariants.{Slot, Constant}
use Rattle.js_program.specs.PlainProgram as p
use Rattle.js_program.specs.PlainProgram.{PlainNodeForm, PlainNode, PlainBody, PlainContent, PlainConstant, PlainDeclared, PlainProgram}
use Rattle.js_meaning.specs.State.{Ground, Effect, Left, Outcome, went, normal}
use Rattle.js_meaning.specs.Bodies.{function, bare, evaluation}

abbrev pub on : ℕ → PlainNodeForm → PlainNode
on line form = record { line = line; form = form }

abbrev pub one : PlainNodeForm → PlainNode
one form = on 1 form

abbrev pub whole : ℕ → PlainNode
whole n = one (p.number (pos n))

abbrev pub slot : ℕ → PlainNode
slot k = one (p.read (Slot k))

abbrev pub constant : ℕ → PlainNode
constant k = one (p.read (Constant k))

-- a declared slot with its value
abbrev pub given : ℕ → ℕ → PlainDeclared
given k e = record { variable = Slot k; value = Some e }

abbrev pub body : ℕ → ℕ → PlainContent → PlainBody
body parameters slots content = record { parameters = parameters; slots = slots; captures = []; vars = []; content = content; line = 1 }

-- a body without parameters whose statements these are
abbrev pub statements : ℕ → List ℕ → PlainBody
statements slots ns = body 0 slots (p.statements ns)

abbrev pub program : List PlainNode → List PlainBody → List PlainConstant → PlainBody → PlainProgram
program nodes functions constants top = record { nodes = nodes; functions = functions; constants = constants; top = top }

-- a ground of nodes and functions without constants
abbrev pub of_functions : List PlainNode → List PlainBody → Ground
of_functions nodes functions = bare (program nodes functions [] (statements 0 []))

-- what function 0 comes to, in a mode with a budget, without replies
abbrev pub comes_to : Mode → ℕ → List PlainNode → List PlainBody → Outcome
comes_to mode budget nodes functions = evaluation (of_functions nodes functions) budget (function mode (v.function 0 v.no_values) []) []

-- its end, with an answer, this much fuel and these effects
abbrev pub ends : PlainValue → ℕ → List Effect → Outcome
ends answer fuel effects =
    went (normal answer) (record { slots = []; constants = None; calls = 0; fuel = fuel; replies = []; effects = effects; delivered = 0 })

abbrev pub left : ℕ → List Effect → Left
left fuel effects = record { effects = effects; delivered = 0; fuel = fuel }
