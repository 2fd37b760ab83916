-- The form of each expression, from the numbers of its parts.
use Rattle.std.proofs.Common.{◌≡◌, ℕ, ◌+◌, List, [], ◌∷◌, ◌∙◌, ap, refl, sym, subst, length, map}
use Rattle.std.specs.Prelude.{Vec, Result, Ok, Err, IfOk}
use Rattle.std.specs.declared.alloc.Global.{Global}
use Rattle.std.specs.declared.boxed.Box.{Box}
use Rattle.std.specs.declared.sync.Arc.{Arc}
use Rattle.std.specs.Arc.{arc_value}
use Rattle.js_tree.specs.declared.tree.Name.{Name}
use Rattle.js_tree.specs.declared.tree.Spot.{Spot}
use Rattle.js_tree.specs.declared.tree.Sign.{Sign}
use Rattle.js_tree.specs.declared.tree.Step.{Step}
use Rattle.js_tree.specs.declared.tree.Fix.{Fix}
use Rattle.js_tree.specs.declared.tree.Operator.{Operator}
use Rattle.js_tree.specs.declared.tree.AssignOp.{AssignOp}
use Rattle.js_tree.specs.declared.tree.Expr.{Expr}
use Rattle.js_tree.specs.declared.tree.Field.{Field}
use Rattle.js_tree.specs.declared.tree.Stmt.{Stmt}
use Rattle.js_tree.specs.declared.tree.Form.{Form, Number, Text, Truth, Null, Use, List as ListOf, Fields, Member, Index, Call, Unary, Update, Binary, Conditional, Assign, ArrowValue, ArrowBlock, Function}
use Rattle.js_tree.specs.Plain as p
use Rattle.js_tree.specs.Plain.{exprs_of, fields_of, stmts_of}
use Rattle.js_tree.specs.Views.{plain_expr, plain_form, plain_field, plain_stmt}
use Rattle.js_program.specs.declared.node.NodeForm.{NodeForm}
use Rattle.js_program.specs.declared.node.NodeForm.TheVariants as N
use Rattle.js_program.specs.PlainProgram as n
use Rattle.js_program.specs.Views.{plain_node_form}
use Rattle.js_names.specs.Mentions.{Mention}
use Rattle.js_resolver.specs.declared.emit.Called.{Called}
use Rattle.js_resolver.specs.declared.emitter.Emitter.{Emitter}
use Rattle.js_resolver.specs.Variables.{slot_at}
use Rattle.js_resolver.specs.Pieces.{beside}
use Rattle.js_resolver.specs.NodeForms.{expr_node, keys_of}
use Rattle.js_resolver.specs.Nodes.{expr_piece, form_parts, exprs_piece, fields_piece}
use Rattle.js_resolver.specs.inner.Emits.{count, Puts, Emits, EmitsCallee, FormsCall, FormsExpr}
use Rattle.js_resolver.proofs.Emitting.{emits_none, emits_both, forms_expr, if_forms_expr, if_closes}
use Rattle.js_resolver.proofs.CallArms.{call_whole}
use Rattle.js_tree.proofs.Forms.{expr_is, number_is, words_is, truth_is, null_is, use_is, list_is, fields_is, member_is, index_is, call_is, unary_is, update_is, binary_is, conditional_is, assign_is, arrow_value_is, arrow_block_is, function_is}

pub number_arm : (ps : List Mention) (a : Emitter) (f : Form) (k : _) → f ≡ Number k
    → FormsExpr ps a a (N.Number k) (plain_form f)
unfolding form_parts
number_arm ps a f k h = forms_expr ps a a (N.Number k) [] (p.number k) (plain_form f) (sym (ap plain_form h ∙ number_is k)) (emits_none a) refl

pub words_arm : (ps : List Mention) (a : Emitter) (f : Form) (k : _) (s : Arc (List ℕ) Global) → f ≡ Text k → arc_value s ≡ k
    → FormsExpr ps a a (N.Text s) (plain_form f)
unfolding form_parts
words_arm ps a f k s h e = forms_expr ps a a (N.Text s) [] (p.text k) (plain_form f) (sym (ap plain_form h ∙ words_is k)) (emits_none a) (ap n.text e)

pub truth_arm : (ps : List Mention) (a : Emitter) (f : Form) (k : _) → f ≡ Truth k
    → FormsExpr ps a a (N.Truth k) (plain_form f)
unfolding form_parts
truth_arm ps a f k h = forms_expr ps a a (N.Truth k) [] (p.truth k) (plain_form f) (sym (ap plain_form h ∙ truth_is k)) (emits_none a) refl

pub null_arm : (ps : List Mention) (a : Emitter) (f : Form) → f ≡ Null
    → FormsExpr ps a a N.Null (plain_form f)
unfolding form_parts
null_arm ps a f h = forms_expr ps a a N.Null [] p.null (plain_form f) (sym (ap plain_form h ∙ null_is)) (emits_none a) refl

pub use_arm : (ps : List Mention) (a : Emitter) (f : Form) (k : Name) (x : NodeForm) → f ≡ Use k → plain_node_form x ≡ expr_node ps (p.use_of k) []
    → FormsExpr ps a a x (plain_form f)
unfolding form_parts
use_arm ps a f k x h e = forms_expr ps a a x [] (p.use_of k) (plain_form f) (sym (ap plain_form h ∙ use_is k)) (emits_none a) e

pub list_arm : (ps : List Mention) (a b : Emitter) (f : Form) (v : Vec Expr Global) (xs : List Expr) (w : Vec ℕ Global) → f ≡ ListOf v → xs ≡ v.items → Emits a b w.items (exprs_piece ps (count a) (exprs_of (map plain_expr xs)))
    → FormsExpr ps a b (N.List w) (plain_form f)
unfolding form_parts
list_arm ps a b f v xs w h d k = forms_expr ps a b (N.List w) w.items (p.list (exprs_of (map plain_expr xs))) (plain_form f) (ap (λ z. p.list (exprs_of (map plain_expr z))) d ∙ sym (ap plain_form h ∙ list_is v)) k refl

pub fields_arm : (ps : List Mention) (a b : Emitter) (f : Form) (v : Vec Field Global) (xs ys : List Field) (w : Vec ℕ Global) (ks : Vec (Arc (List ℕ) Global) Global) → f ≡ Fields v → xs ≡ v.items → ys ≡ v.items
    → Emits a b w.items (fields_piece ps (count a) (fields_of (map plain_field xs))) → map arc_value ks.items ≡ keys_of (fields_of (map plain_field ys))
    → FormsExpr ps a b (N.Fields ks w) (plain_form f)
unfolding form_parts
fields_arm ps a b f v xs ys w ks h d e k q = forms_expr ps a b (N.Fields ks w) w.items (p.fields (fields_of (map plain_field xs))) (plain_form f) (ap (λ z. p.fields (fields_of (map plain_field z))) d ∙ sym (ap plain_form h ∙ fields_is v)) k
    (ap (λ z. n.fields z w.items) (q ∙ ap (λ z. keys_of (fields_of (map plain_field z))) (e ∙ sym d)))

pub index_arm : (ps : List Mention) (a b c : Emitter) (f : Form) (l r : Box Expr Global) (x y : Expr) (i j : ℕ) → f ≡ Index l r → x ≡ l.value → y ≡ r.value → Emits a b (i ∷ []) (expr_piece ps (count a) (plain_expr x)) → Emits b c (j ∷ []) (expr_piece ps (count b) (plain_expr y))
    → FormsExpr ps a c (N.Index i j) (plain_form f)
unfolding form_parts
index_arm ps a b c f l r x y i j h d e k m = forms_expr ps a c (N.Index i j) (i ∷ j ∷ []) (p.index (plain_expr x) (plain_expr y)) (plain_form f)
    (ap (λ z. p.index (plain_expr z) (plain_expr y)) d ∙ (ap (λ z. p.index (plain_expr l.value) (plain_expr z)) e ∙ sym (ap plain_form h ∙ index_is l r)))
    (emits_both (λ q. expr_piece ps q (plain_expr y)) a b c (i ∷ []) (j ∷ []) (expr_piece ps (count a) (plain_expr x)) k m) refl

pub binary_arm : (ps : List Mention) (a b c : Emitter) (f : Form) (o : Operator) (l r : Box Expr Global) (x y : Expr) (i j : ℕ) → f ≡ Binary o l r → x ≡ l.value → y ≡ r.value → Emits a b (i ∷ []) (expr_piece ps (count a) (plain_expr x)) → Emits b c (j ∷ []) (expr_piece ps (count b) (plain_expr y))
    → FormsExpr ps a c (N.Binary o i j) (plain_form f)
unfolding form_parts
binary_arm ps a b c f o l r x y i j h d e k m = forms_expr ps a c (N.Binary o i j) (i ∷ j ∷ []) (p.binary o (plain_expr x) (plain_expr y)) (plain_form f)
    (ap (λ z. p.binary o (plain_expr z) (plain_expr y)) d ∙ (ap (λ z. p.binary o (plain_expr l.value) (plain_expr z)) e ∙ sym (ap plain_form h ∙ binary_is o l r)))
    (emits_both (λ q. expr_piece ps q (plain_expr y)) a b c (i ∷ []) (j ∷ []) (expr_piece ps (count a) (plain_expr x)) k m) refl

pub unary_arm : (ps : List Mention) (a b : Emitter) (f : Form) (s : Sign) (l : Box Expr Global) (x : Expr) (i : ℕ) → f ≡ Unary s l → x ≡ l.value → Emits a b (i ∷ []) (expr_piece ps (count a) (plain_expr x))
    → FormsExpr ps a b (N.Unary s i) (plain_form f)
unfolding form_parts
unary_arm ps a b f s l x i h d k = forms_expr ps a b (N.Unary s i) (i ∷ []) (p.unary s (plain_expr x)) (plain_form f) (ap (λ z. p.unary s (plain_expr z)) d ∙ sym (ap plain_form h ∙ unary_is s l)) k refl

pub update_arm : (ps : List Mention) (a : Emitter) (f : Form) (s : Step) (x : Fix) (k : Name) (v : ℕ) → f ≡ Update s x k → v ≡ slot_at ps k.spot.at
    → FormsExpr ps a a (N.Update s x v) (plain_form f)
unfolding form_parts
update_arm ps a f s x k v h e = forms_expr ps a a (N.Update s x v) [] (p.update s x k) (plain_form f) (sym (ap plain_form h ∙ update_is s x k)) (emits_none a) (ap (λ z. n.update s x z) e)

pub assign_arm : (ps : List Mention) (a b : Emitter) (f : Form) (o : AssignOp) (k : Name) (l : Box Expr Global) (x : Expr) (i v : ℕ) → f ≡ Assign o k l → x ≡ l.value → Emits a b (i ∷ []) (expr_piece ps (count a) (plain_expr x)) → v ≡ slot_at ps k.spot.at
    → FormsExpr ps a b (N.Assign o v i) (plain_form f)
unfolding form_parts
assign_arm ps a b f o k l x i v h d m e = forms_expr ps a b (N.Assign o v i) (i ∷ []) (p.assign o k (plain_expr x)) (plain_form f) (ap (λ z. p.assign o k (plain_expr z)) d ∙ sym (ap plain_form h ∙ assign_is o k l)) m (ap (λ z. n.assign o z i) e)

pub conditional_arm : (ps : List Mention) (a b c d : Emitter) (f : Form) (l m r : Box Expr Global) (x y z : Expr) (i j k : ℕ) → f ≡ Conditional l m r → x ≡ l.value → y ≡ m.value → z ≡ r.value → Emits a b (i ∷ []) (expr_piece ps (count a) (plain_expr x)) → Emits b c (j ∷ []) (expr_piece ps (count b) (plain_expr y)) → Emits c d (k ∷ []) (expr_piece ps (count c) (plain_expr z))
    → FormsExpr ps a d (N.Conditional i j k) (plain_form f)
unfolding form_parts
conditional_arm ps a b c d f l m r x y z i j k h q s t e g o = forms_expr ps a d (N.Conditional i j k) (i ∷ j ∷ k ∷ []) (p.conditional (plain_expr x) (plain_expr y) (plain_expr z)) (plain_form f)
    (ap (λ w. p.conditional (plain_expr w) (plain_expr y) (plain_expr z)) q ∙ (ap (λ w. p.conditional (plain_expr l.value) (plain_expr w) (plain_expr z)) s ∙ (ap (λ w. p.conditional (plain_expr l.value) (plain_expr m.value) (plain_expr w)) t ∙ sym (ap plain_form h ∙ conditional_is l m r))))
    (emits_both (λ w. expr_piece ps w (plain_expr z)) a c d (i ∷ j ∷ []) (k ∷ []) (beside (expr_piece ps (count a) (plain_expr x)) (expr_piece ps (count a + length (expr_piece ps (count a) (plain_expr x)).nodes) (plain_expr y)))
    (emits_both (λ w. expr_piece ps w (plain_expr y)) a b c (i ∷ []) (j ∷ []) (expr_piece ps (count a) (plain_expr x)) e g) o) refl

pub member_arm : (ps : List Mention) {E : Type 0} (r : Result NodeForm E) (a b : Emitter) (f : Form) (l : Box Expr Global) (t : List ℕ) (x : Expr) → f ≡ Member l t → x ≡ l.value → IfOk r (λ w. FormsExpr ps a b w (p.member (plain_expr x) t))
    → IfOk r (λ w. FormsExpr ps a b w (plain_form f))
unfolding form_parts
member_arm ps r a b f l t x h d0 k = if_forms_expr r ps a b (p.member (plain_expr x) t) (plain_form f) (ap (λ z. p.member (plain_expr z) t) d0 ∙ sym (ap plain_form h ∙ member_is l t)) k

pub call_arm : (ps : List Mention) {E : Type 0} (r : Result NodeForm E) (a b c : Emitter) (f : Form) (l : Box Expr Global) (v : Vec Expr Global) (x : Expr) (xs : List Expr) (called : Called) → f ≡ Call l v → x ≡ l.value → xs ≡ v.items → EmitsCallee ps a b called (plain_expr x)
    → IfOk r (λ w. FormsCall ps b c w called (exprs_of (map plain_expr xs))) → IfOk r (λ w. FormsExpr ps a c w (plain_form f))
call_arm ps (Err y) a b c f l v x xs called h d0 d1 k m = tt
call_arm ps (Ok w) a b c f l v x xs called h d0 d1 k m =
    subst (FormsExpr ps a c w) ((ap (λ z. p.call (plain_expr z) (exprs_of (map plain_expr xs))) d0 ∙ ap (λ z. p.call (plain_expr l.value) (exprs_of (map plain_expr z))) d1) ∙ sym (ap plain_form h ∙ call_is l v))
    (call_whole ps a b c w called (plain_expr x) (exprs_of (map plain_expr xs)) k m)

pub arrow_value_arm : (ps : List Mention) {E : Type 0} (r : Result NodeForm E) (a b : Emitter) (f : Form) (s : Spot) (v : Vec Name Global) (l : Box Expr Global) (ns : List Name) (x : Expr) → f ≡ ArrowValue s v l → ns ≡ v.items → x ≡ l.value → IfOk r (λ w. FormsExpr ps a b w (p.arrow_value s ns (plain_expr x)))
    → IfOk r (λ w. FormsExpr ps a b w (plain_form f))
unfolding form_parts
arrow_value_arm ps r a b f s v l ns x h d0 d1 k = if_forms_expr r ps a b (p.arrow_value s ns (plain_expr x)) (plain_form f) ((ap (λ z. p.arrow_value s z (plain_expr x)) d0 ∙ ap (λ z. p.arrow_value s v.items (plain_expr z)) d1) ∙ sym (ap plain_form h ∙ arrow_value_is s v l)) k

pub function_arm : (ps : List Mention) {E : Type 0} (r : Result NodeForm E) (a b : Emitter) (f : Form) (s : Spot) (v : Vec Name Global) (u : Vec Stmt Global) (ns : List Name) (ss : List Stmt) → f ≡ Function s v u → ns ≡ v.items → ss ≡ u.items → IfOk r (λ w. FormsExpr ps a b w (p.function s ns (stmts_of (map plain_stmt ss))))
    → IfOk r (λ w. FormsExpr ps a b w (plain_form f))
unfolding form_parts
function_arm ps r a b f s v u ns ss h d0 d1 k = if_forms_expr r ps a b (p.function s ns (stmts_of (map plain_stmt ss))) (plain_form f) ((ap (λ z. p.function s z (stmts_of (map plain_stmt ss))) d0 ∙ ap (λ z. p.function s v.items (stmts_of (map plain_stmt z))) d1) ∙ sym (ap plain_form h ∙ function_is s v u)) k

pub arrow_block_arm : (ps : List Mention) {E : Type 0} (r : Result NodeForm E) (a b : Emitter) (f : Form) (s : Spot) (v : Vec Name Global) (u : Vec Stmt Global) (ns : List Name) (ss : List Stmt) → f ≡ ArrowBlock s v u → ns ≡ v.items → ss ≡ u.items → IfOk r (λ w. FormsExpr ps a b w (p.function s ns (stmts_of (map plain_stmt ss))))
    → IfOk r (λ w. FormsExpr ps a b w (plain_form f))
unfolding form_parts
arrow_block_arm ps r a b f s v u ns ss h d0 d1 k = if_forms_expr r ps a b (p.arrow_block s ns (stmts_of (map plain_stmt ss))) (plain_form f) ((ap (λ z. p.arrow_block s z (stmts_of (map plain_stmt ss))) d0 ∙ ap (λ z. p.arrow_block s v.items (stmts_of (map plain_stmt z))) d1) ∙ sym (ap plain_form h ∙ arrow_block_is s v u)) k

pub expr_closed : (ps : List Mention) {E : Type 0} (r : Result ℕ E) (a b c : Emitter) (e : Expr) (form : NodeForm) → FormsExpr ps a b form (plain_form e.form) → IfOk r (λ i. Puts b c e.line form i)
    → IfOk r (λ i. Emits a c (i ∷ []) (expr_piece ps (count a) (plain_expr e)))
unfolding expr_piece
expr_closed ps r a b c e form h k = if_closes r a b c e.line form (expr_node ps (plain_form e.form)) (form_parts ps (count a) (plain_form e.form)) (expr_piece ps (count a) (plain_expr e)) (sym (ap (expr_piece ps (count a)) (expr_is e))) h k
