-- The mentions of each form of a statement, from those of its parts.
use Rattle.std.proofs.Common.{◌≡◌, ℕ, List, [], ◌∷◌, ◌++◌, ◌∙◌, ap, refl, sym, map, Option, Some, None, append_assoc}
use Rattle.std.specs.Prelude.{Vec, codes}
use Rattle.std.specs.List.{flat_map}
use Rattle.std.specs.declared.alloc.Global.{Global}
use Rattle.std.specs.declared.boxed.Box.{Box}
use Rattle.js_tree.specs.declared.tree.Name.{Name}
use Rattle.js_tree.specs.declared.tree.Spot.{Spot}
use Rattle.js_tree.specs.declared.tree.DeclareKind.{DeclareKind}
use Rattle.js_tree.specs.declared.tree.Expr.{Expr}
use Rattle.js_tree.specs.declared.tree.Declarator.{Declarator, out-Declarator}
use Rattle.js_tree.specs.declared.tree.Stmt.{Stmt}
use Rattle.js_tree.specs.declared.tree.Start.{Start, Nothing, Declares, Evaluates}
use Rattle.js_tree.specs.declared.tree.StmtForm.{StmtForm, Empty, Block, Declaration, Expression, If, IfElse, While, ForThree, ForOf, Break, Continue, ReturnNothing, Return}
use Rattle.js_tree.specs.declared.tree.Item.{Item}
use Rattle.js_tree.specs.declared.tree.Item.TheVariants.{Statement, Function}
use Rattle.js_tree.specs.Plain.{PlainDeclarator, PlainStmtForm, declarators_of}
use Rattle.js_tree.specs.Views.{plain_start, plain_stmt, plain_stmt_form, plain_declarator}
use Rattle.js_tree.proofs.Statements.{declarator_is, nothing_is, start_is, evaluates_is, with_form, empty_is, expression_is, declaration_is, block_is, if_is, if_else_is, while_is, for_is, for_of_is, break_is, continue_is, return_nothing_is, return_is}
use Rattle.js_names.specs.declared.mention.Around.{Around}
use Rattle.js_names.specs.declared.mention.What.{What}
use Rattle.js_names.specs.declared.mention.Role.{Role}
use Rattle.js_names.specs.Entries.{top}
use Rattle.js_names.specs.Scopes.{Scope, for_three_scope}
use Rattle.js_names.specs.Unresolved.{one_mention, word_at, perhaps_mentions, declarators_mentions, start_mentions, stmt_mentions, stmt_form_mentions, item_mentions, declared_role, in_loop, in_function}
use Rattle.js_names.specs.inner.TreeMentions.{tree_mentions, declarator_mentions, perhaps_tree_mentions, start_tree_mentions, tree_stmt_mentions, block_mentions, for_mentions, listed_mentions, iteration_mentions, declared_mentions, tree_item_mentions}
use Rattle.js_names.proofs.Exprs.{stmts_flat, body_is}

-- the mentions of a statement are those of its form
form_at : (s : List Scope) (a : Around) (x : Stmt) (f : StmtForm) (g : PlainStmtForm) → x.form ≡ f → plain_stmt_form f ≡ g → stmt_form_mentions s a g ≡ tree_stmt_mentions s a x
unfolding stmt_mentions
form_at s a x f g h k = sym (ap (stmt_mentions s a) (with_form x f g h k))

declarators_flat : (s : List Scope) (a : Around) (k : DeclareKind) (ds : List Declarator) → flat_map (declarator_mentions s a k) ds ≡ declarators_mentions s a k (declarators_of (map plain_declarator ds))
unfolding declarators_mentions
declarators_flat s a k [] = refl
declarators_flat s a k (d ∷ ds) =
    append_assoc (one_mention s a (What.Declares (declared_role k)) (plain_declarator d).name) (perhaps_mentions s a (plain_declarator d).value) (flat_map (declarator_mentions s a k) ds)
    ∙ ap (λ z. one_mention s a (What.Declares (declared_role k)) (plain_declarator d).name ++ (perhaps_mentions s a (plain_declarator d).value ++ z)) (declarators_flat s a k ds)

pub declarator_parts : (s : List Scope) (a : Around) (k : DeclareKind) (d : Declarator)
    → one_mention s a (What.Declares (declared_role k)) (out-Declarator d).name ++ perhaps_tree_mentions s a (out-Declarator d).value ≡ declarator_mentions s a k d
declarator_parts s a k d = ap (λ (z : PlainDeclarator). one_mention s a (What.Declares (declared_role k)) z.name ++ perhaps_mentions s a z.value) (sym (declarator_is d))

pub present_mentions : (s : List Scope) (a : Around) (e : Option Expr) (x : Expr) → e ≡ Some x → tree_mentions s a x ≡ perhaps_tree_mentions s a e
unfolding perhaps_mentions
present_mentions s a e x h = sym (ap (perhaps_tree_mentions s a) h)

pub absent_mentions : (s : List Scope) (a : Around) (e : Option Expr) → e ≡ None → [] ≡ perhaps_tree_mentions s a e
unfolding perhaps_mentions
absent_mentions s a e h = sym (ap (perhaps_tree_mentions s a) h)

-- what a `for` begins with

pub nothing_mentions : (s : List Scope) (a : Around) (b : Start) → b ≡ Nothing → [] ≡ start_tree_mentions s a b
unfolding start_mentions
nothing_mentions s a b h = sym (ap (start_mentions s a) (ap plain_start h ∙ nothing_is))

pub declares_mentions : (s : List Scope) (a : Around) (b : Start) (line : ℕ) (k : DeclareKind) (v : Vec Declarator Global) (ds : List Declarator) → b ≡ Declares line k v → ds ≡ v.items
    → flat_map (declarator_mentions s a k) ds ≡ start_tree_mentions s a b
unfolding start_mentions
declares_mentions s a b line k v ds h d = ap (flat_map (declarator_mentions s a k)) d ∙ (declarators_flat s a k v.items ∙ sym (ap (start_mentions s a) (ap plain_start h ∙ start_is line k v)))

pub evaluates_mentions : (s : List Scope) (a : Around) (b : Start) (e : Expr) → b ≡ Evaluates e → tree_mentions s a e ≡ start_tree_mentions s a b
unfolding start_mentions
evaluates_mentions s a b e h = sym (ap (start_mentions s a) (ap plain_start h ∙ evaluates_is e))

-- statements

pub empty_mentions : (s : List Scope) (a : Around) (x : Stmt) → x.form ≡ Empty → [] ≡ tree_stmt_mentions s a x
unfolding stmt_form_mentions
empty_mentions s a x h = form_at s a x Empty _ h empty_is

pub in_block_mentions : (s : List Scope) (a : Around) (x : Stmt) (v : Vec Stmt Global) (ss : List Stmt) → x.form ≡ Block v → ss ≡ v.items → block_mentions s a ss ≡ tree_stmt_mentions s a x
unfolding stmt_form_mentions
in_block_mentions s a x v ss h d = ap (block_mentions s a) d ∙ (stmts_flat _ a v.items ∙ form_at s a x (Block v) _ h (block_is v))

pub declaration_mentions : (s : List Scope) (a : Around) (x : Stmt) (k : DeclareKind) (v : Vec Declarator Global) (ds : List Declarator) → x.form ≡ Declaration k v → ds ≡ v.items
    → flat_map (declarator_mentions s a k) ds ≡ tree_stmt_mentions s a x
unfolding stmt_form_mentions
declaration_mentions s a x k v ds h d = ap (flat_map (declarator_mentions s a k)) d ∙ (declarators_flat s a k v.items ∙ form_at s a x (Declaration k v) _ h (declaration_is k v))

pub expression_mentions : (s : List Scope) (a : Around) (x : Stmt) (e : Expr) → x.form ≡ Expression e → tree_mentions s a e ≡ tree_stmt_mentions s a x
unfolding stmt_form_mentions
expression_mentions s a x e h = form_at s a x (Expression e) _ h (expression_is e)

pub if_mentions : (s : List Scope) (a : Around) (x : Stmt) (e : Expr) (b : Box Stmt Global) (y : Stmt) → x.form ≡ If e b → y ≡ b.value → tree_mentions s a e ++ tree_stmt_mentions s a y ≡ tree_stmt_mentions s a x
unfolding stmt_form_mentions
if_mentions s a x e b y h d = ap (λ z. tree_mentions s a e ++ tree_stmt_mentions s a z) d ∙ form_at s a x (If e b) _ h (if_is e b)

pub if_else_mentions : (s : List Scope) (a : Around) (x : Stmt) (e : Expr) (b o : Box Stmt Global) (y z : Stmt) → x.form ≡ IfElse e b o → y ≡ b.value → z ≡ o.value
    → (tree_mentions s a e ++ tree_stmt_mentions s a y) ++ tree_stmt_mentions s a z ≡ tree_stmt_mentions s a x
unfolding stmt_form_mentions
if_else_mentions s a x e b o y z h d f =
    append_assoc (tree_mentions s a e) (tree_stmt_mentions s a y) (tree_stmt_mentions s a z)
    ∙ (ap (λ w. tree_mentions s a e ++ (tree_stmt_mentions s a w ++ tree_stmt_mentions s a z)) d
    ∙ (ap (λ w. tree_mentions s a e ++ (tree_stmt_mentions s a b.value ++ tree_stmt_mentions s a w)) f ∙ form_at s a x (IfElse e b o) _ h (if_else_is e b o)))

pub while_mentions : (s : List Scope) (a i : Around) (x : Stmt) (e : Expr) (b : Box Stmt Global) (y : Stmt) → x.form ≡ While e b → y ≡ b.value → i ≡ in_loop a → tree_mentions s a e ++ tree_stmt_mentions s i y ≡ tree_stmt_mentions s a x
unfolding stmt_form_mentions
while_mentions s a i x e b y h d l =
    ap (λ z. tree_mentions s a e ++ tree_stmt_mentions s z y) l ∙ (ap (λ z. tree_mentions s a e ++ tree_stmt_mentions s (in_loop a) z) d ∙ form_at s a x (While e b) _ h (while_is e b))

for_parts : (s : List Scope) (a : Around) (b : Start) (t n : Option Expr) (y : Stmt)
    → for_mentions s a b t n y
    ≡ start_tree_mentions (for_three_scope a.owner (plain_start b) (plain_stmt y) ∷ s) a b
    ++ (perhaps_tree_mentions (for_three_scope a.owner (plain_start b) (plain_stmt y) ∷ s) a t
    ++ (perhaps_tree_mentions (for_three_scope a.owner (plain_start b) (plain_stmt y) ∷ s) a n ++ tree_stmt_mentions (for_three_scope a.owner (plain_start b) (plain_stmt y) ∷ s) (in_loop a) y))
for_parts s a b t n y =
    let inner = for_three_scope a.owner (plain_start b) (plain_stmt y) ∷ s in
    append_assoc (start_tree_mentions inner a b ++ perhaps_tree_mentions inner a t) (perhaps_tree_mentions inner a n) (tree_stmt_mentions inner (in_loop a) y)
    ∙ append_assoc (start_tree_mentions inner a b) (perhaps_tree_mentions inner a t) (perhaps_tree_mentions inner a n ++ tree_stmt_mentions inner (in_loop a) y)

pub in_for_mentions : (s : List Scope) (a : Around) (x : Stmt) (b : Start) (t n : Option Expr) (o : Box Stmt Global) (y : Stmt) → x.form ≡ ForThree b t n o → y ≡ o.value → for_mentions s a b t n y ≡ tree_stmt_mentions s a x
unfolding stmt_form_mentions
in_for_mentions s a x b t n o y h d =
    ap (for_mentions s a b t n) d ∙ (for_parts s a b t n o.value ∙ form_at s a x (ForThree b t n o) _ h (for_is b t n o))

pub in_each_mentions : (s : List Scope) (a : Around) (x : Stmt) (k : DeclareKind) (n : Name) (e : Expr) (o : Box Stmt Global) (y : Stmt) → x.form ≡ ForOf k n e o → y ≡ o.value
    → listed_mentions s a k n e ++ iteration_mentions s a k n y ≡ tree_stmt_mentions s a x
unfolding stmt_form_mentions
in_each_mentions s a x k n e o y h d = ap (λ z. listed_mentions s a k n e ++ iteration_mentions s a k n z) d ∙ form_at s a x (ForOf k n e o) _ h (for_of_is k n e o)

pub break_mentions : (s : List Scope) (a : Around) (x : Stmt) (k : Spot) → x.form ≡ Break k → one_mention s a What.LoopWord (word_at (codes "break") k) ≡ tree_stmt_mentions s a x
unfolding stmt_form_mentions
break_mentions s a x k h = form_at s a x (Break k) _ h (break_is k)

pub continue_mentions : (s : List Scope) (a : Around) (x : Stmt) (k : Spot) → x.form ≡ Continue k → one_mention s a What.LoopWord (word_at (codes "continue") k) ≡ tree_stmt_mentions s a x
unfolding stmt_form_mentions
continue_mentions s a x k h = form_at s a x (Continue k) _ h (continue_is k)

pub return_nothing_mentions : (s : List Scope) (a : Around) (x : Stmt) (k : Spot) → x.form ≡ ReturnNothing k → one_mention s a What.Returns (word_at (codes "return") k) ≡ tree_stmt_mentions s a x
unfolding stmt_form_mentions
return_nothing_mentions s a x k h = form_at s a x (ReturnNothing k) _ h (return_nothing_is k)

pub return_mentions : (s : List Scope) (a : Around) (x : Stmt) (k : Spot) (e : Expr) → x.form ≡ Return k e → one_mention s a What.Returns (word_at (codes "return") k) ++ tree_mentions s a e ≡ tree_stmt_mentions s a x
unfolding stmt_form_mentions
return_mentions s a x k e h = form_at s a x (Return k e) _ h (return_is k e)

-- what a program lists

pub statement_mentions : (s : List Scope) (a : Around) (i : Item) (k : Spot) (x : Stmt) → i ≡ Statement k x → a ≡ in_function top → tree_stmt_mentions s a x ≡ tree_item_mentions s i
unfolding item_mentions
statement_mentions s a i k x h l = ap (λ z. tree_stmt_mentions s z x) l ∙ sym (ap (tree_item_mentions s) h)

pub function_item_mentions : (s : List Scope) (i : Item) (k : Spot) (n : Name) (v : Vec Name Global) (w : Vec Stmt Global) (ns : List Name) (ss : List Stmt) → i ≡ Function k n v w → ns ≡ v.items → ss ≡ w.items
    → declared_mentions s k n ns ss ≡ tree_item_mentions s i
unfolding item_mentions
function_item_mentions s i k n v w ns ss h d f =
    ap (λ z. declared_mentions s k n z ss) d ∙ (ap (declared_mentions s k n v.items) f
    ∙ (ap (λ z. one_mention s (in_function top) (What.Declares Role.Function) n ++ z) (body_is s k v.items w.items) ∙ sym (ap (tree_item_mentions s) h)))
