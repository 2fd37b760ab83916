-- The mentions of each form of an expression, from those of its parts.
use Rattle.std.proofs.Common.{◌≡◌, ℕ, List, [], ◌∷◌, ◌++◌, ◌∙◌, ap, refl, sym, map, append_assoc, if◌then◌else◌}
use Rattle.std.specs.Prelude.{Vec, is_some}
use Rattle.std.specs.List.{flat_map}
use Rattle.std.specs.declared.alloc.Global.{Global}
use Rattle.std.specs.declared.boxed.Box.{Box}
use Rattle.js_tree.specs.declared.tree.Name.{Name}
use Rattle.js_tree.specs.declared.tree.Spot.{Spot}
use Rattle.js_tree.specs.declared.tree.Sign.{Sign}
use Rattle.js_tree.specs.declared.tree.Step.{Step}
use Rattle.js_tree.specs.declared.tree.Fix.{Fix}
use Rattle.js_tree.specs.declared.tree.Operator.{Operator}
use Rattle.js_tree.specs.declared.tree.AssignOp.{AssignOp}
use Rattle.js_tree.specs.declared.tree.Expr.{Expr}
use Rattle.js_tree.specs.declared.tree.Field.{Field}
use Rattle.js_tree.specs.declared.tree.Stmt.{Stmt}
use Rattle.js_tree.specs.declared.tree.Form.{Form, Number, Text, Truth, Null, Use, List as ListOf, Fields, Member, Index, Call, Unary, Update, Binary, Conditional, Assign, ArrowValue, ArrowBlock, Function}
use Rattle.js_tree.specs.Plain as p
use Rattle.js_tree.specs.Plain.{PlainForm, PlainField, exprs_of, fields_of, stmts_of}
use Rattle.js_tree.specs.Views.{plain_expr, plain_form, plain_field, plain_stmt}
use Rattle.js_tree.proofs.Forms.{expr_is, field_is, number_is, words_is, truth_is, null_is, use_is, list_is, fields_is, member_is, index_is, call_is, unary_is, update_is, binary_is, conditional_is, assign_is, arrow_value_is, arrow_block_is, function_is}
use Rattle.js_names.specs.declared.mention.Around.{Around}
use Rattle.js_names.specs.Scopes.{Scope, function_scope}
use Rattle.js_names.specs.Forms.{object_of, value_builtin, called_builtin}
use Rattle.js_names.specs.Unresolved.{Unresolved, expr_mentions, form_mentions, exprs_mentions, fields_mentions, stmts_mentions, read_mention, assign_mention, member_mentions, begin_mention, parameter_mentions, in_function}
use Rattle.js_names.specs.inner.TreeMentions.{tree_mentions, field_mentions, tree_stmt_mentions, arrow_mentions, body_mentions}

-- the mentions of an expression are those of its form
form_at : (s : List Scope) (a : Around) (e : Expr) (f : Form) (g : PlainForm) → e.form ≡ f → plain_form f ≡ g → form_mentions s a g ≡ tree_mentions s a e
unfolding expr_mentions
form_at s a e f g h k = sym (ap (expr_mentions s a) (expr_is e ∙ ap (p.at e.parens e.line) (ap plain_form h ∙ k)))

-- lists of trees, one by one

pub exprs_flat : (s : List Scope) (a : Around) (es : List Expr) → flat_map (tree_mentions s a) es ≡ exprs_mentions s a (exprs_of (map plain_expr es))
unfolding exprs_mentions
exprs_flat s a [] = refl
exprs_flat s a (e ∷ es) = ap (λ z. tree_mentions s a e ++ z) (exprs_flat s a es)

fields_flat : (s : List Scope) (a : Around) (fs : List Field) → flat_map (field_mentions s a) fs ≡ fields_mentions s a (fields_of (map plain_field fs))
unfolding fields_mentions
fields_flat s a [] = refl
fields_flat s a (f ∷ fs) =
    ap (λ z. field_mentions s a f ++ z) (fields_flat s a fs) ∙ ap (λ (z : PlainField). expr_mentions s a z.value ++ fields_mentions s a (fields_of (map plain_field fs))) (sym (field_is f))

pub stmts_flat : (s : List Scope) (a : Around) (ss : List Stmt) → flat_map (tree_stmt_mentions s a) ss ≡ stmts_mentions s a (stmts_of (map plain_stmt ss))
unfolding stmts_mentions
stmts_flat s a [] = refl
stmts_flat s a (x ∷ xs) = ap (λ z. tree_stmt_mentions s a x ++ z) (stmts_flat s a xs)

pub number_mentions : (s : List Scope) (a : Around) (e : Expr) (n : _) → e.form ≡ (Number n) → [] ≡ tree_mentions s a e
unfolding form_mentions
number_mentions s a e n h = form_at s a e (Number n) _ h (number_is n)

pub words_mentions : (s : List Scope) (a : Around) (e : Expr) (n : _) → e.form ≡ (Text n) → [] ≡ tree_mentions s a e
unfolding form_mentions
words_mentions s a e n h = form_at s a e (Text n) _ h (words_is n)

pub truth_mentions : (s : List Scope) (a : Around) (e : Expr) (n : _) → e.form ≡ (Truth n) → [] ≡ tree_mentions s a e
unfolding form_mentions
truth_mentions s a e n h = form_at s a e (Truth n) _ h (truth_is n)

pub null_mentions : (s : List Scope) (a : Around) (e : Expr) → e.form ≡ Null → [] ≡ tree_mentions s a e
unfolding form_mentions
null_mentions s a e h = form_at s a e Null _ h (null_is)

pub use_mentions : (s : List Scope) (a : Around) (e : Expr) (n : Name) → e.form ≡ (Use n) → read_mention s a n ≡ tree_mentions s a e
unfolding form_mentions
use_mentions s a e n h = form_at s a e (Use n) _ h (use_is n)

pub list_mentions : (s : List Scope) (a : Around) (e : Expr) (v : Vec Expr Global) (xs : List Expr) → e.form ≡ (ListOf v) → xs ≡ v.items → flat_map (tree_mentions s a) xs ≡ tree_mentions s a e
unfolding form_mentions
list_mentions s a e v xs h h1 = ap (flat_map (tree_mentions s a)) h1 ∙ (exprs_flat s a v.items ∙ form_at s a e (ListOf v) _ h (list_is v))

pub in_fields_mentions : (s : List Scope) (a : Around) (e : Expr) (v : Vec Field Global) (xs : List Field) → e.form ≡ (Fields v) → xs ≡ v.items → flat_map (field_mentions s a) xs ≡ tree_mentions s a e
unfolding form_mentions
in_fields_mentions s a e v xs h h1 = ap (flat_map (field_mentions s a)) h1 ∙ (fields_flat s a v.items ∙ form_at s a e (Fields v) _ h (fields_is v))

pub in_member_mentions : (s : List Scope) (a : Around) (e : Expr) (b : Box Expr Global) (w : List ℕ) (x : Expr) → e.form ≡ (Member b w) → x ≡ b.value → member_mentions s a (object_of (plain_expr x)) w (is_some (value_builtin (plain_expr x) w)) (tree_mentions s a x) ≡ tree_mentions s a e
unfolding form_mentions
in_member_mentions s a e b w x h h1 = ap (λ z. member_mentions s a (object_of (plain_expr z)) w (is_some (value_builtin (plain_expr z) w)) (tree_mentions s a z)) h1 ∙ form_at s a e (Member b w) _ h (member_is b w)

pub index_mentions : (s : List Scope) (a : Around) (e : Expr) (b : Box Expr Global) (d : Box Expr Global) (x : Expr) (y : Expr) → e.form ≡ (Index b d) → x ≡ b.value → y ≡ d.value → tree_mentions s a x ++ tree_mentions s a y ≡ tree_mentions s a e
unfolding form_mentions
index_mentions s a e b d x y h h1 h2 = ap (λ z. tree_mentions s a z ++ tree_mentions s a y) h1 ∙ (ap (λ z. tree_mentions s a b.value ++ tree_mentions s a z) h2 ∙ form_at s a e (Index b d) _ h (index_is b d))

pub call_mentions : (s : List Scope) (a : Around) (e : Expr) (b : Box Expr Global) (v : Vec Expr Global) (x : Expr) (xs : List Expr) → e.form ≡ (Call b v) → x ≡ b.value → xs ≡ v.items → (if is_some (called_builtin (plain_expr x)) then [] else tree_mentions s a x) ++ flat_map (tree_mentions s a) xs ≡ tree_mentions s a e
unfolding form_mentions
call_mentions s a e b v x xs h h1 h2 = ap (λ z. (if is_some (called_builtin (plain_expr z)) then [] else tree_mentions s a z) ++ flat_map (tree_mentions s a) xs) h1 ∙ (ap (λ z. (if is_some (called_builtin (plain_expr b.value)) then [] else tree_mentions s a b.value) ++ z) (ap (flat_map (tree_mentions s a)) h2 ∙ exprs_flat s a v.items) ∙ form_at s a e (Call b v) _ h (call_is b v))

pub unary_mentions : (s : List Scope) (a : Around) (e : Expr) (k : Sign) (b : Box Expr Global) (x : Expr) → e.form ≡ (Unary k b) → x ≡ b.value → tree_mentions s a x ≡ tree_mentions s a e
unfolding form_mentions
unary_mentions s a e k b x h h1 = ap (tree_mentions s a) h1 ∙ form_at s a e (Unary k b) _ h (unary_is k b)

pub update_mentions : (s : List Scope) (a : Around) (e : Expr) (k : Step) (f : Fix) (n : Name) → e.form ≡ (Update k f n) → assign_mention s a n ≡ tree_mentions s a e
unfolding form_mentions
update_mentions s a e k f n h = form_at s a e (Update k f n) _ h (update_is k f n)

pub binary_mentions : (s : List Scope) (a : Around) (e : Expr) (k : Operator) (b : Box Expr Global) (d : Box Expr Global) (x : Expr) (y : Expr) → e.form ≡ (Binary k b d) → x ≡ b.value → y ≡ d.value → tree_mentions s a x ++ tree_mentions s a y ≡ tree_mentions s a e
unfolding form_mentions
binary_mentions s a e k b d x y h h1 h2 = ap (λ z. tree_mentions s a z ++ tree_mentions s a y) h1 ∙ (ap (λ z. tree_mentions s a b.value ++ tree_mentions s a z) h2 ∙ form_at s a e (Binary k b d) _ h (binary_is k b d))

pub conditional_mentions : (s : List Scope) (a : Around) (e : Expr) (b : Box Expr Global) (d : Box Expr Global) (f : Box Expr Global) (x : Expr) (y : Expr) (w : Expr) → e.form ≡ (Conditional b d f) → x ≡ b.value → y ≡ d.value → w ≡ f.value → tree_mentions s a x ++ (tree_mentions s a y ++ tree_mentions s a w) ≡ tree_mentions s a e
unfolding form_mentions
conditional_mentions s a e b d f x y w h h1 h2 h3 = ap (λ z. tree_mentions s a z ++ (tree_mentions s a y ++ tree_mentions s a w)) h1 ∙ (ap (λ z. tree_mentions s a b.value ++ (tree_mentions s a z ++ tree_mentions s a w)) h2 ∙ (ap (λ z. tree_mentions s a b.value ++ (tree_mentions s a d.value ++ tree_mentions s a z)) h3 ∙ form_at s a e (Conditional b d f) _ h (conditional_is b d f)))

pub assign_mentions : (s : List Scope) (a : Around) (e : Expr) (k : AssignOp) (n : Name) (b : Box Expr Global) (x : Expr) → e.form ≡ (Assign k n b) → x ≡ b.value → assign_mention s a n ++ tree_mentions s a x ≡ tree_mentions s a e
unfolding form_mentions
assign_mentions s a e k n b x h h1 = ap (λ z. assign_mention s a n ++ tree_mentions s a z) h1 ∙ form_at s a e (Assign k n b) _ h (assign_is k n b)

-- the head of a function, and then its body
head_first : (x y z : List Unresolved) → (x ++ y) ++ z ≡ x ++ (y ++ z)
head_first x y z = append_assoc x y z

arrow_is : (s : List Scope) (k : Spot) (ns : List Name) (x : Expr)
    → arrow_mentions s k ns x
    ≡ begin_mention (function_scope k.at ns (stmts_of []) ∷ s) k.at k
    ++ (parameter_mentions (function_scope k.at ns (stmts_of []) ∷ s) (in_function k.at) ns ++ tree_mentions (function_scope k.at ns (stmts_of []) ∷ s) (in_function k.at) x)
arrow_is s k ns x =
    let inner = function_scope k.at ns (stmts_of []) ∷ s in
    head_first (begin_mention inner k.at k) (parameter_mentions inner (in_function k.at) ns) (tree_mentions inner (in_function k.at) x)

pub arrow_value_mentions : (s : List Scope) (a : Around) (e : Expr) (k : Spot) (n : Vec Name Global) (b : Box Expr Global) (ns : List Name) (x : Expr) → e.form ≡ (ArrowValue k n b) → ns ≡ n.items → x ≡ b.value → arrow_mentions s k ns x ≡ tree_mentions s a e
unfolding form_mentions
arrow_value_mentions s a e k n b ns x h h1 h2 = ap (λ z. arrow_mentions s k z x) h1 ∙ (ap (λ z. arrow_mentions s k n.items z) h2 ∙ (arrow_is s k n.items b.value ∙ form_at s a e (ArrowValue k n b) _ h (arrow_value_is k n b)))

-- a function with statements
pub body_is : (s : List Scope) (k : Spot) (ns : List Name) (ss : List Stmt)
    → body_mentions s k ns ss
    ≡ begin_mention (function_scope k.at ns (stmts_of (map plain_stmt ss)) ∷ s) k.at k
    ++ (parameter_mentions (function_scope k.at ns (stmts_of (map plain_stmt ss)) ∷ s) (in_function k.at) ns
    ++ stmts_mentions (function_scope k.at ns (stmts_of (map plain_stmt ss)) ∷ s) (in_function k.at) (stmts_of (map plain_stmt ss)))
body_is s k ns ss =
    let inner = function_scope k.at ns (stmts_of (map plain_stmt ss)) ∷ s in
    head_first (begin_mention inner k.at k) (parameter_mentions inner (in_function k.at) ns) (flat_map (tree_stmt_mentions inner (in_function k.at)) ss)
    ∙ ap (λ z. begin_mention inner k.at k ++ (parameter_mentions inner (in_function k.at) ns ++ z)) (stmts_flat inner (in_function k.at) ss)

pub arrow_block_mentions : (s : List Scope) (a : Around) (e : Expr) (k : Spot) (n : Vec Name Global) (v : Vec Stmt Global) (ns : List Name) (ss : List Stmt) → e.form ≡ (ArrowBlock k n v) → ns ≡ n.items → ss ≡ v.items → body_mentions s k ns ss ≡ tree_mentions s a e
unfolding form_mentions
arrow_block_mentions s a e k n v ns ss h h1 h2 = ap (λ z. body_mentions s k z ss) h1 ∙ (ap (λ z. body_mentions s k n.items z) h2 ∙ (body_is s k n.items v.items ∙ form_at s a e (ArrowBlock k n v) _ h (arrow_block_is k n v)))

pub function_mentions : (s : List Scope) (a : Around) (e : Expr) (k : Spot) (n : Vec Name Global) (v : Vec Stmt Global) (ns : List Name) (ss : List Stmt) → e.form ≡ (Function k n v) → ns ≡ n.items → ss ≡ v.items → body_mentions s k ns ss ≡ tree_mentions s a e
unfolding form_mentions
function_mentions s a e k n v ns ss h h1 h2 = ap (λ z. body_mentions s k z ss) h1 ∙ (ap (λ z. body_mentions s k n.items z) h2 ∙ (body_is s k n.items v.items ∙ form_at s a e (Function k n v) _ h (function_is k n v)))
