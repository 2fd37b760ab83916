-- The plain form of each expression, from those of its parts.
use Rattle.std.proofs.Common.{◌≡◌, ℕ, rules, List, ◌∙◌, ap, sym, map}
use Rattle.std.specs.Prelude.{Vec}
use Rattle.std.specs.declared.alloc.Global.{Global}
use Rattle.std.specs.declared.boxed.Box.{Box}
use Rattle.js_tree.specs.declared.tree.Name.{Name}
use Rattle.js_tree.specs.declared.tree.Spot.{Spot}
use Rattle.js_tree.specs.declared.tree.Sign.{Sign}
use Rattle.js_tree.specs.declared.tree.Step.{Step}
use Rattle.js_tree.specs.declared.tree.Fix.{Fix}
use Rattle.js_tree.specs.declared.tree.Operator.{Operator}
use Rattle.js_tree.specs.declared.tree.AssignOp.{AssignOp}
use Rattle.js_tree.specs.declared.tree.Expr.{Expr, fold_out-Expr}
use Rattle.js_tree.specs.declared.tree.Field.{Field, fold_out-Field}
use Rattle.js_tree.specs.declared.tree.Stmt.{Stmt}
use Rattle.js_tree.specs.declared.tree.Form.{Number, Text, Truth, Null, Use, List as ListOf, Fields, Member, Index, Call, Unary, Update, Binary, Conditional, Assign, ArrowValue, ArrowBlock, Function, fold-roll-Form}
use Rattle.js_tree.specs.declared.tree.Form.TheVariants.{rolls-Number, rolls-Text, rolls-Truth, rolls-Null, rolls-Use, rolls-List, rolls-Fields, rolls-Member, rolls-Index, rolls-Call, rolls-Unary, rolls-Update, rolls-Binary, rolls-Conditional, rolls-Assign, rolls-ArrowValue, rolls-ArrowBlock, rolls-Function}
use Rattle.js_tree.specs.Plain as p
use Rattle.js_tree.specs.Plain.{PlainExpr, PlainForm, PlainField, PlainDeclarator, PlainStart, PlainStmt, PlainStmtForm, exprs_of, fields_of, stmts_of}
use Rattle.js_tree.specs.Views.{plain_expr, plain_form, plain_field, plain_stmt, form_step, start_step, stmt_form_step, declarator_step, expr_step, field_step, stmt_step}

pub expr_is : (e : Expr) → plain_expr e ≡ p.at e.parens e.line (plain_form e.form)
expr_is e = search (rules, fold_out-Expr)

pub field_is : (f : Field) → plain_field f ≡ record { key = f.key; value = plain_expr f.value }
field_is f = search (rules, fold_out-Field)

pub number_is : (n : _) → plain_form (Number n) ≡ p.number n
number_is n = ap plain_form (sym (rolls-Number n)) ∙ fold-roll-Form PlainForm PlainStart PlainStmtForm PlainDeclarator PlainExpr PlainField PlainStmt form_step start_step stmt_form_step declarator_step expr_step field_step stmt_step _

pub words_is : (n : _) → plain_form (Text n) ≡ p.text n
words_is n = ap plain_form (sym (rolls-Text n)) ∙ fold-roll-Form PlainForm PlainStart PlainStmtForm PlainDeclarator PlainExpr PlainField PlainStmt form_step start_step stmt_form_step declarator_step expr_step field_step stmt_step _

pub truth_is : (n : _) → plain_form (Truth n) ≡ p.truth n
truth_is n = ap plain_form (sym (rolls-Truth n)) ∙ fold-roll-Form PlainForm PlainStart PlainStmtForm PlainDeclarator PlainExpr PlainField PlainStmt form_step start_step stmt_form_step declarator_step expr_step field_step stmt_step _

pub null_is : plain_form Null ≡ p.null
null_is = ap plain_form (sym rolls-Null) ∙ fold-roll-Form PlainForm PlainStart PlainStmtForm PlainDeclarator PlainExpr PlainField PlainStmt form_step start_step stmt_form_step declarator_step expr_step field_step stmt_step _

pub use_is : (n : Name) → plain_form (Use n) ≡ p.use_of n
use_is n = ap plain_form (sym (rolls-Use n)) ∙ fold-roll-Form PlainForm PlainStart PlainStmtForm PlainDeclarator PlainExpr PlainField PlainStmt form_step start_step stmt_form_step declarator_step expr_step field_step stmt_step _

pub list_is : (v : Vec Expr Global) → plain_form (ListOf v) ≡ p.list (exprs_of (map plain_expr v.items))
list_is v = ap plain_form (sym (rolls-List v)) ∙ fold-roll-Form PlainForm PlainStart PlainStmtForm PlainDeclarator PlainExpr PlainField PlainStmt form_step start_step stmt_form_step declarator_step expr_step field_step stmt_step _

pub fields_is : (v : Vec Field Global) → plain_form (Fields v) ≡ p.fields (fields_of (map plain_field v.items))
fields_is v = ap plain_form (sym (rolls-Fields v)) ∙ fold-roll-Form PlainForm PlainStart PlainStmtForm PlainDeclarator PlainExpr PlainField PlainStmt form_step start_step stmt_form_step declarator_step expr_step field_step stmt_step _

pub member_is : (b : Box Expr Global) (w : List ℕ) → plain_form (Member b w) ≡ p.member (plain_expr b.value) w
member_is b w = ap plain_form (sym (rolls-Member b w)) ∙ fold-roll-Form PlainForm PlainStart PlainStmtForm PlainDeclarator PlainExpr PlainField PlainStmt form_step start_step stmt_form_step declarator_step expr_step field_step stmt_step _

pub index_is : (b : Box Expr Global) (d : Box Expr Global) → plain_form (Index b d) ≡ p.index (plain_expr b.value) (plain_expr d.value)
index_is b d = ap plain_form (sym (rolls-Index b d)) ∙ fold-roll-Form PlainForm PlainStart PlainStmtForm PlainDeclarator PlainExpr PlainField PlainStmt form_step start_step stmt_form_step declarator_step expr_step field_step stmt_step _

pub call_is : (b : Box Expr Global) (v : Vec Expr Global) → plain_form (Call b v) ≡ p.call (plain_expr b.value) (exprs_of (map plain_expr v.items))
call_is b v = ap plain_form (sym (rolls-Call b v)) ∙ fold-roll-Form PlainForm PlainStart PlainStmtForm PlainDeclarator PlainExpr PlainField PlainStmt form_step start_step stmt_form_step declarator_step expr_step field_step stmt_step _

pub unary_is : (k : Sign) (b : Box Expr Global) → plain_form (Unary k b) ≡ p.unary k (plain_expr b.value)
unary_is k b = ap plain_form (sym (rolls-Unary k b)) ∙ fold-roll-Form PlainForm PlainStart PlainStmtForm PlainDeclarator PlainExpr PlainField PlainStmt form_step start_step stmt_form_step declarator_step expr_step field_step stmt_step _

pub update_is : (k : Step) (f : Fix) (n : Name) → plain_form (Update k f n) ≡ p.update k f n
update_is k f n = ap plain_form (sym (rolls-Update k f n)) ∙ fold-roll-Form PlainForm PlainStart PlainStmtForm PlainDeclarator PlainExpr PlainField PlainStmt form_step start_step stmt_form_step declarator_step expr_step field_step stmt_step _

pub binary_is : (k : Operator) (b : Box Expr Global) (d : Box Expr Global) → plain_form (Binary k b d) ≡ p.binary k (plain_expr b.value) (plain_expr d.value)
binary_is k b d = ap plain_form (sym (rolls-Binary k b d)) ∙ fold-roll-Form PlainForm PlainStart PlainStmtForm PlainDeclarator PlainExpr PlainField PlainStmt form_step start_step stmt_form_step declarator_step expr_step field_step stmt_step _

pub conditional_is : (b : Box Expr Global) (d : Box Expr Global) (f : Box Expr Global) → plain_form (Conditional b d f) ≡ p.conditional (plain_expr b.value) (plain_expr d.value) (plain_expr f.value)
conditional_is b d f = ap plain_form (sym (rolls-Conditional b d f)) ∙ fold-roll-Form PlainForm PlainStart PlainStmtForm PlainDeclarator PlainExpr PlainField PlainStmt form_step start_step stmt_form_step declarator_step expr_step field_step stmt_step _

pub assign_is : (k : AssignOp) (n : Name) (b : Box Expr Global) → plain_form (Assign k n b) ≡ p.assign k n (plain_expr b.value)
assign_is k n b = ap plain_form (sym (rolls-Assign k n b)) ∙ fold-roll-Form PlainForm PlainStart PlainStmtForm PlainDeclarator PlainExpr PlainField PlainStmt form_step start_step stmt_form_step declarator_step expr_step field_step stmt_step _

pub arrow_value_is : (k : Spot) (n : Vec Name Global) (b : Box Expr Global) → plain_form (ArrowValue k n b) ≡ p.arrow_value k n.items (plain_expr b.value)
arrow_value_is k n b = ap plain_form (sym (rolls-ArrowValue k n b)) ∙ fold-roll-Form PlainForm PlainStart PlainStmtForm PlainDeclarator PlainExpr PlainField PlainStmt form_step start_step stmt_form_step declarator_step expr_step field_step stmt_step _

pub arrow_block_is : (k : Spot) (n : Vec Name Global) (v : Vec Stmt Global) → plain_form (ArrowBlock k n v) ≡ p.arrow_block k n.items (stmts_of (map plain_stmt v.items))
arrow_block_is k n v = ap plain_form (sym (rolls-ArrowBlock k n v)) ∙ fold-roll-Form PlainForm PlainStart PlainStmtForm PlainDeclarator PlainExpr PlainField PlainStmt form_step start_step stmt_form_step declarator_step expr_step field_step stmt_step _

pub function_is : (k : Spot) (n : Vec Name Global) (v : Vec Stmt Global) → plain_form (Function k n v) ≡ p.function k n.items (stmts_of (map plain_stmt v.items))
function_is k n v = ap plain_form (sym (rolls-Function k n v)) ∙ fold-roll-Form PlainForm PlainStart PlainStmtForm PlainDeclarator PlainExpr PlainField PlainStmt form_step start_step stmt_form_step declarator_step expr_step field_step stmt_step _
