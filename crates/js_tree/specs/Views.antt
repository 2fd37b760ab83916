-- The plain form of each tree.
use Rattle.std.specs.Prelude.{List, Option, Some, None, map}
use Rattle.js_tree.specs.declared.tree.Form.{Form, Form-F, fold-Form}
use Rattle.js_tree.specs.declared.tree.Start.{Start, Start-F, fold-Start}
use Rattle.js_tree.specs.declared.tree.StmtForm.{StmtForm, StmtForm-F, fold-StmtForm}
use Rattle.js_tree.specs.declared.tree.Declarator.{Declarator, Declarator-F, fold-Declarator}
use Rattle.js_tree.specs.declared.tree.Expr.{Expr, Expr-F, fold-Expr}
use Rattle.js_tree.specs.declared.tree.Field.{Field, Field-F, fold-Field}
use Rattle.js_tree.specs.declared.tree.Stmt.{Stmt, Stmt-F, fold-Stmt}
use Rattle.js_tree.specs.declared.tree.Item.{Item}
use Rattle.js_tree.specs.declared.tree.Item.TheVariants.{Statement, Function}
use Rattle.js_tree.specs.declared.tree.Tree.{Tree}
use Rattle.js_tree.specs.Plain as p
use Rattle.js_tree.specs.Plain.{PlainExpr, PlainForm, PlainField, PlainDeclarator, PlainPerhaps, PlainStart, PlainStmt, PlainStmtForm, PlainItem, exprs_of, fields_of, declarators_of, stmts_of}

abbrev pub perhaps : Option PlainExpr → PlainPerhaps
perhaps None = p.absent
perhaps (Some e) = p.present e

abbrev pub form_step :
    Form-F PlainForm PlainStart PlainStmtForm PlainDeclarator PlainExpr PlainField PlainStmt → PlainForm
form_step (Form-F.Number n) = p.number n
form_step (Form-F.Text t) = p.text t
form_step (Form-F.Truth b) = p.truth b
form_step Form-F.Null = p.null
form_step (Form-F.Use name) = p.use_of name
form_step (Form-F.List v) = p.list (exprs_of v.items)
form_step (Form-F.Fields v) = p.fields (fields_of v.items)
form_step (Form-F.Member e word) = p.member e.value word
form_step (Form-F.Index e i) = p.index e.value i.value
form_step (Form-F.Call e v) = p.call e.value (exprs_of v.items)
form_step (Form-F.Unary s e) = p.unary s e.value
form_step (Form-F.Update s f name) = p.update s f name
form_step (Form-F.Binary op a b) = p.binary op a.value b.value
form_step (Form-F.Conditional a b c) = p.conditional a.value b.value c.value
form_step (Form-F.Assign op name e) = p.assign op name e.value
form_step (Form-F.ArrowValue s names e) = p.arrow_value s names.items e.value
form_step (Form-F.ArrowBlock s names v) = p.arrow_block s names.items (stmts_of v.items)
form_step (Form-F.Function s names v) = p.function s names.items (stmts_of v.items)

abbrev pub start_step :
    Start-F PlainForm PlainStart PlainStmtForm PlainDeclarator PlainExpr PlainField PlainStmt →
    PlainStart
start_step Start-F.Nothing = p.nothing
start_step (Start-F.Declares line kind v) = p.declared line kind (declarators_of v.items)
start_step (Start-F.Evaluates e) = p.started e

abbrev pub stmt_form_step :
    StmtForm-F PlainForm PlainStart PlainStmtForm PlainDeclarator PlainExpr PlainField PlainStmt →
    PlainStmtForm
stmt_form_step StmtForm-F.Empty = p.empty
stmt_form_step (StmtForm-F.Block v) = p.block (stmts_of v.items)
stmt_form_step (StmtForm-F.Declaration kind v) = p.declaration kind (declarators_of v.items)
stmt_form_step (StmtForm-F.Expression e) = p.expression e
stmt_form_step (StmtForm-F.If e s) = p.if_alone e s.value
stmt_form_step (StmtForm-F.IfElse e s other) = p.if_else e s.value other.value
stmt_form_step (StmtForm-F.While e s) = p.while_of e s.value
stmt_form_step (StmtForm-F.ForThree start test next s) =
    p.for_three start (perhaps test) (perhaps next) s.value
stmt_form_step (StmtForm-F.ForOf kind name e s) = p.for_of kind name e s.value
stmt_form_step (StmtForm-F.Break spot) = p.break_of spot
stmt_form_step (StmtForm-F.Continue spot) = p.continue_of spot
stmt_form_step (StmtForm-F.ReturnNothing spot) = p.return_nothing spot
stmt_form_step (StmtForm-F.Return spot e) = p.return_of spot e

abbrev pub declarator_step :
    Declarator-F PlainForm PlainStart PlainStmtForm PlainDeclarator PlainExpr PlainField PlainStmt →
    PlainDeclarator
declarator_step d = record { name = d.name; value = perhaps d.value; end = d.end }

abbrev pub expr_step :
    Expr-F PlainForm PlainStart PlainStmtForm PlainDeclarator PlainExpr PlainField PlainStmt → PlainExpr
expr_step e = p.at e.parens e.line e.form

abbrev pub field_step :
    Field-F PlainForm PlainStart PlainStmtForm PlainDeclarator PlainExpr PlainField PlainStmt →
    PlainField
field_step f = record { key = f.key; value = f.value }

abbrev pub stmt_step :
    Stmt-F PlainForm PlainStart PlainStmtForm PlainDeclarator PlainExpr PlainField PlainStmt → PlainStmt
stmt_step s = p.on s.line s.form

abbrev pub plain_expr : Expr → PlainExpr
plain_expr =
    fold-Expr PlainForm PlainStart PlainStmtForm PlainDeclarator PlainExpr PlainField PlainStmt
    form_step start_step stmt_form_step declarator_step expr_step field_step stmt_step

abbrev pub plain_form : Form → PlainForm
plain_form =
    fold-Form PlainForm PlainStart PlainStmtForm PlainDeclarator PlainExpr PlainField PlainStmt
    form_step start_step stmt_form_step declarator_step expr_step field_step stmt_step

abbrev pub plain_start : Start → PlainStart
plain_start =
    fold-Start PlainForm PlainStart PlainStmtForm PlainDeclarator PlainExpr PlainField PlainStmt
    form_step start_step stmt_form_step declarator_step expr_step field_step stmt_step

abbrev pub plain_declarator : Declarator → PlainDeclarator
plain_declarator =
    fold-Declarator PlainForm PlainStart PlainStmtForm PlainDeclarator PlainExpr PlainField PlainStmt
    form_step start_step stmt_form_step declarator_step expr_step field_step stmt_step

abbrev pub plain_field : Field → PlainField
plain_field =
    fold-Field PlainForm PlainStart PlainStmtForm PlainDeclarator PlainExpr PlainField PlainStmt
    form_step start_step stmt_form_step declarator_step expr_step field_step stmt_step

abbrev pub plain_stmt_form : StmtForm → PlainStmtForm
plain_stmt_form =
    fold-StmtForm PlainForm PlainStart PlainStmtForm PlainDeclarator PlainExpr PlainField PlainStmt
    form_step start_step stmt_form_step declarator_step expr_step field_step stmt_step

abbrev pub plain_stmt : Stmt → PlainStmt
plain_stmt =
    fold-Stmt PlainForm PlainStart PlainStmtForm PlainDeclarator PlainExpr PlainField PlainStmt
    form_step start_step stmt_form_step declarator_step expr_step field_step stmt_step

abbrev pub plain_item : Item → PlainItem
plain_item (Statement spot s) = p.statement spot (plain_stmt s)
plain_item (Function spot name names body) =
    p.function_of spot name names.items (stmts_of (map plain_stmt body.items))

abbrev pub plain_tree : Tree → List PlainItem
plain_tree t = map plain_item t.items.items
