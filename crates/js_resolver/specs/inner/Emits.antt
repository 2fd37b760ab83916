-- What the walk over a tree adds to what it has emitted.
use Rattle.std.specs.Prelude.{◌≡◌, ℕ, Bool, true, false, List, [], ◌∷◌, ◌++◌, Option, Some, None, map, length, option_map, option_to_list, is_some, if◌then◌else◌}
use Rattle.std.specs.List.{insert}
use Rattle.js_tree.specs.declared.tree.Expr.{Expr}
use Rattle.js_tree.specs.declared.tree.Declarator.{Declarator}
use Rattle.js_tree.specs.declared.tree.Operator.{Operator}
use Rattle.js_tree.specs.declared.tree.Operator.TheVariants.{Divide}
use Rattle.js_tree.specs.Plain.{PlainExpr, PlainExprs, PlainForm, PlainPerhaps, PlainStmtForm, declarators_of}
use Rattle.js_tree.specs.Views.{perhaps, plain_expr, plain_declarator}
use Rattle.js_program.specs.declared.builtin.Builtin.{Builtin}
use Rattle.js_program.specs.declared.node.NodeForm.{NodeForm}
use Rattle.js_program.specs.declared.node.Declared.{Declared}
use Rattle.js_program.specs.PlainProgram.{PlainNode, PlainNodeForm, PlainBody}
use Rattle.js_program.specs.Views.{plain_node, plain_node_form, plain_body, plain_declared}
use Rattle.js_names.specs.Mentions.{Mention}
use Rattle.js_names.specs.Forms.{called_builtin}
use Rattle.js_resolver.specs.declared.emit.Called.{Called}
use Rattle.js_resolver.specs.declared.emit.Called.TheVariants as C
use Rattle.js_resolver.specs.declared.emitter.Emitter.{Emitter}
use Rattle.js_resolver.specs.Pieces.{Piece, none}
use Rattle.js_resolver.specs.NodeForms.{call_node, expr_node, stmt_node, floors_division, method_of, declared_of}
use Rattle.js_resolver.specs.Nodes.{arguments_piece, expr_piece, expr_parts, form_parts, declarators_piece, stmt_parts}

abbrev pub nodes_of : Emitter → List PlainNode
nodes_of e = map plain_node e.nodes.items

abbrev pub functions_of : Emitter → List PlainBody
functions_of e = map plain_body e.functions.items

-- the number of the next node
abbrev pub count : Emitter → ℕ
count e = length e.nodes.items

-- one more node, which has this number
pub record Puts (old new : Emitter) (line : ℕ) (form : NodeForm) (number : ℕ) : Type 0 where
  pub nodes : nodes_of new ≡ nodes_of old ++ record { line = line; form = plain_node_form form } ∷ []
  pub functions : functions_of new ≡ functions_of old
  pub next : number ≡ count old

-- the nodes and functions of a piece stand at the end
pub record Adds (old new : Emitter) (piece : Piece) : Type 0 where
  pub nodes : nodes_of new ≡ nodes_of old ++ piece.nodes
  pub functions : functions_of new ≡ functions_of old ++ piece.functions

-- and these are the numbers of its forms
pub record Emits (old new : Emitter) (numbers : List ℕ) (piece : Piece) : Type 0 where
  pub adds : Adds old new piece
  pub parts : numbers ≡ piece.parts

-- and this is the form that they are the parts of
pub record Forms (old new : Emitter) (node : NodeForm) (shape : List ℕ → PlainNodeForm)
    (piece : Piece) : Type 0 where
  pub adds : Adds old new piece
  pub form : plain_node_form node ≡ shape piece.parts

abbrev pub FormsExpr : List Mention → Emitter → Emitter → NodeForm → PlainForm → Type 0
FormsExpr ps old new form f = Forms old new form (expr_node ps f) (form_parts ps (count old) f)

abbrev pub FormsStmt : List Mention → Emitter → Emitter → NodeForm → PlainStmtForm → Type 0
FormsStmt ps old new form f = Forms old new form (stmt_node ps f) (stmt_parts ps (count old) f)

-- declared variables with the numbers of their values
pub record EmitsDeclarators (ps : List Mention) (old new : Emitter) (declared : List Declared)
    (ds : List Declarator) : Type 0 where
  pub adds : Adds old new (declarators_piece ps (count old) (declarators_of (map plain_declarator ds)))
  pub declared_are :
      map plain_declared declared
      ≡ declared_of ps (declarators_of (map plain_declarator ds))
      (declarators_piece ps (count old) (declarators_of (map plain_declarator ds))).parts

-- a part that may be absent
pub record EmitsPerhaps (old new : Emitter) (number : Option ℕ) (present : Bool)
    (piece : Piece) : Type 0 where
  pub adds : Adds old new piece
  pub parts : option_to_list number ≡ piece.parts
  pub same : is_some number ≡ present

abbrev pub tree_perhaps : Option Expr → PlainPerhaps
tree_perhaps e = perhaps (option_map plain_expr e)

-- what is left of some forms, so that all of them make a whole
pub record Leaves (start now : Emitter) (rest whole : Piece) : Type 0 where
  pub nodes : nodes_of now ++ rest.nodes ≡ nodes_of start ++ whole.nodes
  pub functions : functions_of now ++ rest.functions ≡ functions_of start ++ whole.functions

abbrev pub is_divide : Operator → Bool
is_divide Divide = true
is_divide _ = false

-- a call of a form of the language
abbrev pub FormsBuiltin :
    List Mention → Emitter → Emitter → NodeForm → Builtin → PlainExprs → Type 0
FormsBuiltin ps old new form f es =
    Forms old new form (call_node (Some f) None (floors_division (Some f) es))
    (arguments_piece ps (count old) (floors_division (Some f) es) es)

-- what is called: a form of the language, a method with its word, or anything else with its number

abbrev pub builtin_in : Called → Option Builtin
builtin_in (C.Builtin f) = Some f
builtin_in (C.Method i word) = None
builtin_in (C.Other i) = None

abbrev pub word_in : Called → Option (List ℕ)
word_in (C.Builtin f) = None
word_in (C.Method i word) = Some word
word_in (C.Other i) = None

abbrev pub parts_in : Called → List ℕ
parts_in (C.Builtin f) = []
parts_in (C.Method i word) = i ∷ []
parts_in (C.Other i) = i ∷ []

-- a method's object, or the whole of what is called
abbrev pub called_piece : List Mention → ℕ → PlainExpr → Piece
called_piece ps b e = if is_some (method_of e) then expr_parts ps b e else expr_piece ps b e

abbrev pub callee_piece : List Mention → ℕ → PlainExpr → Piece
callee_piece ps b e = if is_some (called_builtin e) then none else called_piece ps b e

pub record EmitsCalled (ps : List Mention) (old new : Emitter) (called : Called)
    (e : PlainExpr) : Type 0 where
  pub emits : Emits old new (parts_in called) (called_piece ps (count old) e)
  pub builtin : builtin_in called ≡ None
  pub word : word_in called ≡ method_of e

pub record EmittedCallee (ps : List Mention) (old new : Emitter) (called : Called)
    (e : PlainExpr) : Type 0 where
  pub emits : Emits old new (parts_in called) (callee_piece ps (count old) e)
  pub builtin : builtin_in called ≡ called_builtin e
  pub word : called_builtin e ≡ None → word_in called ≡ method_of e

unfoldable pub EmitsCallee : List Mention → Emitter → Emitter → Called → PlainExpr → Type 0
EmitsCallee ps old new called e = EmittedCallee ps old new called e

-- the arguments of a call, after what is called
abbrev pub FormsCall : List Mention → Emitter → Emitter → NodeForm → Called → PlainExprs → Type 0
FormsCall ps old new form called es =
    Forms old new form
    (λ parts. call_node (builtin_in called) (word_in called)
    (floors_division (builtin_in called) es) (parts_in called ++ parts))
    (arguments_piece ps (count old) (floors_division (builtin_in called) es) es)

-- one more function, before those from this place on
pub record PutsBody (old new : Emitter) (place : ℕ) (body : PlainBody) : Type 0 where
  pub nodes : nodes_of new ≡ nodes_of old
  pub functions : functions_of new ≡ insert (functions_of old) place body

-- more numbers
pub record EmitsMore (old new : Emitter) (before numbers : List ℕ) (piece : Piece) : Type 0 where
  pub adds : Adds old new piece
  pub more : numbers ≡ before ++ piece.parts
