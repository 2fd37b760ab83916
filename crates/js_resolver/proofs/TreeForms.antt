-- The plain form of members and binary operations, and what other expressions are not.
use Rattle.std.proofs.Common.{◌≡◌, ℕ, List, ◌∙◌, ap, sym, None, false}
use Rattle.std.specs.declared.alloc.Global.{Global}
use Rattle.std.specs.declared.boxed.Box.{Box}
use Rattle.js_tree.specs.declared.tree.Operator.{Operator}
use Rattle.js_tree.specs.declared.tree.Expr.{Expr}
use Rattle.js_tree.specs.declared.tree.Field.{Field}
use Rattle.js_tree.specs.declared.tree.Declarator.{Declarator}
use Rattle.js_tree.specs.declared.tree.Start.{Start}
use Rattle.js_tree.specs.declared.tree.Stmt.{Stmt}
use Rattle.js_tree.specs.declared.tree.StmtForm.{StmtForm}
use Rattle.js_tree.specs.declared.tree.Form.{Form, Member, Binary, Form-F, out-Form, roll-Form, roll-out-Form, fold-roll-Form}
use Rattle.js_tree.specs.declared.tree.Form.TheVariants.{rolls-Member, rolls-Binary}
use Rattle.js_tree.specs.Plain as p
use Rattle.js_tree.specs.Plain.{PlainExpr, PlainForm, PlainField, PlainDeclarator, PlainStart, PlainStmt, PlainStmtForm}
use Rattle.js_tree.specs.Views.{plain_expr, plain_form, form_step, start_step, stmt_form_step, declarator_step, expr_step, field_step, stmt_step}
use Rattle.js_tree.proofs.Forms.{expr_is, member_is, binary_is}
use Rattle.js_resolver.specs.NodeForms.{is_division, method_of}

pub member_whole : (e : Expr) (b : Box Expr Global) (w : List ℕ) (x : Expr) → e.form ≡ Member b w → x ≡ b.value → plain_expr e ≡ p.at e.parens e.line (p.member (plain_expr x) w)
member_whole e b w x h d = expr_is e ∙ ap (p.at e.parens e.line) (ap plain_form h ∙ (member_is b w ∙ ap (λ z. p.member (plain_expr z) w) (sym d)))

pub binary_whole : (e : Expr) (o : Operator) (b d : Box Expr Global) (x y : Expr) → e.form ≡ Binary o b d → x ≡ b.value → y ≡ d.value → plain_expr e ≡ p.at e.parens e.line (p.binary o (plain_expr x) (plain_expr y))
binary_whole e o b d x y h k m =
    expr_is e ∙ ap (p.at e.parens e.line) (ap plain_form h ∙ (binary_is o b d ∙ (ap (λ z. p.binary o (plain_expr z) (plain_expr d.value)) (sym k) ∙ ap (λ z. p.binary o (plain_expr x) (plain_expr z)) (sym m))))

-- what other expressions are not

no_member : (o : Form-F Form Start StmtForm Declarator Expr Field Stmt) (f : Form) → roll-Form o ≡ f → ((b : Box Expr Global) (w : List ℕ) → f ≡ Member b w → ⊥) → (parens line : ℕ) → method_of (p.at parens line (plain_form f)) ≡ None
no_member (Form-F.Member b w) f e h parens line = absurd (h b w (sym e ∙ rolls-Member b w))
no_member o f e h parens line = ap (λ z. method_of (p.at parens line (plain_form z))) (sym e) ∙ ap (λ z. method_of (p.at parens line z)) (fold-roll-Form PlainForm PlainStart PlainStmtForm PlainDeclarator PlainExpr PlainField PlainStmt form_step start_step stmt_form_step declarator_step expr_step field_step stmt_step o)

pub not_member : (f : Form) → ((b : Box Expr Global) (w : List ℕ) → f ≡ Member b w → ⊥) → (parens line : ℕ) → method_of (p.at parens line (plain_form f)) ≡ None
not_member f h parens line = no_member (out-Form f) f (roll-out-Form f) h parens line

no_binary : (o : Form-F Form Start StmtForm Declarator Expr Field Stmt) (f : Form) → roll-Form o ≡ f → ((k : Operator) (b d : Box Expr Global) → f ≡ Binary k b d → ⊥) → (parens line : ℕ) → is_division (p.at parens line (plain_form f)) ≡ false
no_binary (Form-F.Binary k b d) f e h parens line = absurd (h k b d (sym e ∙ rolls-Binary k b d))
no_binary o f e h parens line = ap (λ z. is_division (p.at parens line (plain_form z))) (sym e) ∙ ap (λ z. is_division (p.at parens line z)) (fold-roll-Form PlainForm PlainStart PlainStmtForm PlainDeclarator PlainExpr PlainField PlainStmt form_step start_step stmt_form_step declarator_step expr_step field_step stmt_step o)

pub not_binary : (f : Form) → ((k : Operator) (b d : Box Expr Global) → f ≡ Binary k b d → ⊥) → (parens line : ℕ) → is_division (p.at parens line (plain_form f)) ≡ false
not_binary f h parens line = no_binary (out-Form f) f (roll-out-Form f) h parens line
