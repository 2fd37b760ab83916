-- The plain form of each statement, and of what it has, from those of its parts.
use Rattle.std.proofs.Common.{◌≡◌, ℕ, rules, ◌∙◌, ap, sym, map, Option}
use Rattle.std.specs.Prelude.{Vec, option_map}
use Rattle.std.specs.declared.alloc.Global.{Global}
use Rattle.std.specs.declared.boxed.Box.{Box}
use Rattle.js_tree.specs.declared.tree.Expr.{Expr}
use Rattle.js_tree.specs.declared.tree.Declarator.{Declarator, out-Declarator, fold_out-Declarator}
use Rattle.js_tree.specs.declared.tree.DeclareKind.{DeclareKind}
use Rattle.js_tree.specs.declared.tree.Name.{Name}
use Rattle.js_tree.specs.declared.tree.Spot.{Spot}
use Rattle.js_tree.specs.declared.tree.Start.{Start, Nothing, Declares, Evaluates, fold-roll-Start}
use Rattle.js_tree.specs.declared.tree.Start.TheVariants.{rolls-Nothing, rolls-Declares, rolls-Evaluates}
use Rattle.js_tree.specs.declared.tree.Stmt.{Stmt, fold_out-Stmt}
use Rattle.js_tree.specs.declared.tree.StmtForm.{StmtForm, Empty, Declaration, Block, Expression, If, IfElse, While, ForThree, ForOf, Break, Continue, ReturnNothing, Return, fold-roll-StmtForm}
use Rattle.js_tree.specs.declared.tree.StmtForm.TheVariants.{rolls-Empty, rolls-Declaration, rolls-Block, rolls-Expression, rolls-If, rolls-IfElse, rolls-While, rolls-ForThree, rolls-ForOf, rolls-Break, rolls-Continue, rolls-ReturnNothing, rolls-Return}
use Rattle.js_tree.specs.Plain as p
use Rattle.js_tree.specs.Plain.{PlainExpr, PlainForm, PlainField, PlainDeclarator, PlainStart, PlainStmt, PlainStmtForm, declarators_of, stmts_of}
use Rattle.js_tree.specs.Views.{plain_stmt, plain_stmt_form, plain_start, perhaps, plain_expr, plain_declarator, form_step, start_step, stmt_form_step, declarator_step, expr_step, field_step, stmt_step}

pub declarator_is : (d : Declarator) → plain_declarator d ≡ record { name = (out-Declarator d).name; value = perhaps (option_map plain_expr (out-Declarator d).value); end = (out-Declarator d).end }
declarator_is d = search (rules, fold_out-Declarator)

pub nothing_is : plain_start Nothing ≡ p.nothing
nothing_is = ap plain_start (sym rolls-Nothing) ∙ fold-roll-Start PlainForm PlainStart PlainStmtForm PlainDeclarator PlainExpr PlainField PlainStmt form_step start_step stmt_form_step declarator_step expr_step field_step stmt_step _

pub start_is : (line : ℕ) (kind : DeclareKind) (v : Vec Declarator Global) → plain_start (Declares line kind v) ≡ p.declared line kind (declarators_of (map plain_declarator v.items))
start_is line kind v = ap plain_start (sym (rolls-Declares line kind v)) ∙ search (rules, fold-roll-Start)

pub evaluates_is : (e : Expr) → plain_start (Evaluates e) ≡ p.started (plain_expr e)
evaluates_is e = ap plain_start (sym (rolls-Evaluates e)) ∙ fold-roll-Start PlainForm PlainStart PlainStmtForm PlainDeclarator PlainExpr PlainField PlainStmt form_step start_step stmt_form_step declarator_step expr_step field_step stmt_step _

pub stmt_is : (s : Stmt) → plain_stmt s ≡ p.on s.line (plain_stmt_form s.form)
stmt_is s = search (rules, fold_out-Stmt)

-- a statement with its form
pub with_form : (s : Stmt) (f : StmtForm) (g : PlainStmtForm) → s.form ≡ f → plain_stmt_form f ≡ g → plain_stmt s ≡ p.on s.line g
with_form s f g e h = stmt_is s ∙ ap (p.on s.line) (ap plain_stmt_form e ∙ h)

pub empty_is : plain_stmt_form Empty ≡ p.empty
empty_is = ap plain_stmt_form (sym rolls-Empty) ∙ fold-roll-StmtForm PlainForm PlainStart PlainStmtForm PlainDeclarator PlainExpr PlainField PlainStmt form_step start_step stmt_form_step declarator_step expr_step field_step stmt_step _

pub expression_is : (e : Expr) → plain_stmt_form (Expression e) ≡ p.expression (plain_expr e)
expression_is e = ap plain_stmt_form (sym (rolls-Expression e)) ∙ fold-roll-StmtForm PlainForm PlainStart PlainStmtForm PlainDeclarator PlainExpr PlainField PlainStmt form_step start_step stmt_form_step declarator_step expr_step field_step stmt_step _

pub declaration_is : (kind : DeclareKind) (v : Vec Declarator Global) → plain_stmt_form (Declaration kind v) ≡ p.declaration kind (declarators_of (map plain_declarator v.items))
declaration_is kind v = ap plain_stmt_form (sym (rolls-Declaration kind v)) ∙ search (rules, fold-roll-StmtForm)

pub block_is : (v : Vec Stmt Global) → plain_stmt_form (Block v) ≡ p.block (stmts_of (map plain_stmt v.items))
block_is v = ap plain_stmt_form (sym (rolls-Block v)) ∙ fold-roll-StmtForm PlainForm PlainStart PlainStmtForm PlainDeclarator PlainExpr PlainField PlainStmt form_step start_step stmt_form_step declarator_step expr_step field_step stmt_step _

pub if_is : (e : Expr) (s : Box Stmt Global) → plain_stmt_form (If e s) ≡ p.if_alone (plain_expr e) (plain_stmt s.value)
if_is e s = ap plain_stmt_form (sym (rolls-If e s)) ∙ search (rules, fold-roll-StmtForm)

pub if_else_is : (e : Expr) (s o : Box Stmt Global) → plain_stmt_form (IfElse e s o) ≡ p.if_else (plain_expr e) (plain_stmt s.value) (plain_stmt o.value)
if_else_is e s o = ap plain_stmt_form (sym (rolls-IfElse e s o)) ∙ search (rules, fold-roll-StmtForm)

pub while_is : (e : Expr) (s : Box Stmt Global) → plain_stmt_form (While e s) ≡ p.while_of (plain_expr e) (plain_stmt s.value)
while_is e s = ap plain_stmt_form (sym (rolls-While e s)) ∙ search (rules, fold-roll-StmtForm)

pub for_is : (b : Start) (t n : Option Expr) (s : Box Stmt Global) → plain_stmt_form (ForThree b t n s) ≡ p.for_three (plain_start b) (perhaps (option_map plain_expr t)) (perhaps (option_map plain_expr n)) (plain_stmt s.value)
for_is b t n s = ap plain_stmt_form (sym (rolls-ForThree b t n s)) ∙ search (rules, fold-roll-StmtForm)

pub for_of_is : (k : DeclareKind) (n : Name) (e : Expr) (s : Box Stmt Global) → plain_stmt_form (ForOf k n e s) ≡ p.for_of k n (plain_expr e) (plain_stmt s.value)
for_of_is k n e s = ap plain_stmt_form (sym (rolls-ForOf k n e s)) ∙ search (rules, fold-roll-StmtForm)

pub break_is : (k : Spot) → plain_stmt_form (Break k) ≡ p.break_of k
break_is k = ap plain_stmt_form (sym (rolls-Break k)) ∙ fold-roll-StmtForm PlainForm PlainStart PlainStmtForm PlainDeclarator PlainExpr PlainField PlainStmt form_step start_step stmt_form_step declarator_step expr_step field_step stmt_step _

pub continue_is : (k : Spot) → plain_stmt_form (Continue k) ≡ p.continue_of k
continue_is k = ap plain_stmt_form (sym (rolls-Continue k)) ∙ fold-roll-StmtForm PlainForm PlainStart PlainStmtForm PlainDeclarator PlainExpr PlainField PlainStmt form_step start_step stmt_form_step declarator_step expr_step field_step stmt_step _

pub return_nothing_is : (k : Spot) → plain_stmt_form (ReturnNothing k) ≡ p.return_nothing k
return_nothing_is k = ap plain_stmt_form (sym (rolls-ReturnNothing k)) ∙ fold-roll-StmtForm PlainForm PlainStart PlainStmtForm PlainDeclarator PlainExpr PlainField PlainStmt form_step start_step stmt_form_step declarator_step expr_step field_step stmt_step _

pub return_is : (k : Spot) (e : Expr) → plain_stmt_form (Return k e) ≡ p.return_of k (plain_expr e)
return_is k e = ap plain_stmt_form (sym (rolls-Return k e)) ∙ fold-roll-StmtForm PlainForm PlainStart PlainStmtForm PlainDeclarator PlainExpr PlainField PlainStmt form_step start_step stmt_form_step declarator_step expr_step field_step stmt_step _
