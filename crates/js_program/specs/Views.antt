-- The plain form of each node.
use Rattle.std.specs.Prelude.{List, map}
use Rattle.std.specs.Arc.{arc_value}
use Rattle.js_program.specs.declared.node.NodeForm.{NodeForm}
use Rattle.js_program.specs.declared.node.NodeForm.TheVariants as f
use Rattle.js_program.specs.declared.node.Declared.{Declared}
use Rattle.js_program.specs.declared.node.Node.{Node}
use Rattle.js_program.specs.declared.node.Content.{Content}
use Rattle.js_program.specs.declared.node.Content.TheVariants.{Statements, OneValue}
use Rattle.js_program.specs.declared.node.Body.{Body}
use Rattle.js_program.specs.declared.node.ConstantStart.{ConstantStart}
use Rattle.js_program.specs.declared.node.ConstantStart.TheVariants.{OfFunction, Undeclared, Unset}
use Rattle.js_program.specs.PlainProgram as p
use Rattle.js_program.specs.PlainProgram.{PlainDeclared, PlainNodeForm, PlainNode, PlainContent, PlainBody, PlainConstant, PlainProgram}

abbrev pub plain_declared : Declared → PlainDeclared
plain_declared d = record { variable = d.variable; value = d.value }

abbrev pub plain_node_form : NodeForm → PlainNodeForm
plain_node_form (f.Number n) = p.number n
plain_node_form (f.Text text) = p.text text.value
plain_node_form (f.Truth b) = p.truth b
plain_node_form f.Null = p.null
plain_node_form f.Undefined = p.undefined
plain_node_form (f.Read variable) = p.read variable
plain_node_form (f.List parts) = p.list parts.items
plain_node_form (f.Fields keys values) = p.fields (map arc_value keys.items) values.items
plain_node_form (f.Member x word) = p.member x word
plain_node_form (f.Index x i) = p.index x i
plain_node_form (f.Call function arguments) = p.call function arguments.items
plain_node_form (f.Method x word arguments) = p.method x word arguments.items
plain_node_form (f.Builtin form arguments) = p.builtin form arguments.items
plain_node_form (f.FloorDivide a b dropped) = p.floor_divide a b dropped.items
plain_node_form (f.Unary sign e) = p.unary sign e
plain_node_form (f.Update step fix slot) = p.update step fix slot
plain_node_form (f.Binary operator a b) = p.binary operator a b
plain_node_form (f.Conditional test a b) = p.conditional test a b
plain_node_form (f.Assign op slot e) = p.assign op slot e
plain_node_form (f.Function code) = p.function code
plain_node_form f.Empty = p.empty
plain_node_form (f.Block slots statements) = p.block slots.items statements.items
plain_node_form (f.Declaration kind declared) = p.declaration kind (map plain_declared declared.items)
plain_node_form (f.Expression e) = p.expression e
plain_node_form (f.If test body) = p.if_alone test body
plain_node_form (f.IfElse test body other) = p.if_else test body other
plain_node_form (f.While test body) = p.while_of test body
plain_node_form (f.ForThree slots first test next body) = p.for_three slots.items first test next body
plain_node_form (f.ForOf slot list body) = p.for_of slot list body
plain_node_form f.Break = p.break_of
plain_node_form f.Continue = p.continue_of
plain_node_form f.ReturnNothing = p.return_nothing
plain_node_form (f.Return e) = p.return_of e

abbrev pub plain_node : Node → PlainNode
plain_node n = record { line = n.line; form = plain_node_form n.form }

abbrev pub plain_content : Content → PlainContent
plain_content (Statements numbers) = p.statements numbers.items
plain_content (OneValue number) = p.one_value number

abbrev pub plain_body : Body → PlainBody
plain_body b = record {
  parameters = b.parameters;
  slots = b.slots;
  captures = b.captures.items;
  vars = b.vars.items;
  content = plain_content b.content;
  line = b.line;
}

abbrev pub plain_constant : ConstantStart → PlainConstant
plain_constant (OfFunction code) = p.of_function code
plain_constant Undeclared = p.undeclared
plain_constant Unset = p.unset

abbrev pub program_with :
    List PlainNode → List PlainBody → List PlainConstant → PlainBody → PlainProgram
program_with nodes functions constants top = record {
  nodes = nodes;
  functions = functions;
  constants = constants;
  top = top;
}
