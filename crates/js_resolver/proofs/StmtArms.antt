-- The form of each statement, from the numbers of its parts.
use Rattle.std.proofs.Common.{◌≡◌, ℕ, List, [], ◌∷◌, ◌++◌, ◌∙◌, ap, refl, sym, subst, map, Option, Some, None, Bool, false}
use Rattle.std.specs.Prelude.{Vec, Result, IfOk, is_some, option_to_list}
use Rattle.std.specs.declared.alloc.Global.{Global}
use Rattle.std.specs.declared.boxed.Box.{Box}
use Rattle.js_tree.specs.declared.tree.Name.{Name}
use Rattle.js_tree.specs.declared.tree.Spot.{Spot}
use Rattle.js_tree.specs.declared.tree.DeclareKind.{DeclareKind}
use Rattle.js_tree.specs.declared.tree.Declarator.{Declarator}
use Rattle.js_tree.specs.declared.tree.Expr.{Expr}
use Rattle.js_tree.specs.declared.tree.Start.{Start, Nothing, Declares, Evaluates}
use Rattle.js_tree.specs.declared.tree.Stmt.{Stmt}
use Rattle.js_tree.specs.declared.tree.StmtForm.{StmtForm, Empty, Block, Declaration, Expression, If, IfElse, While, ForThree, ForOf, Break, Continue, ReturnNothing, Return}
use Rattle.js_tree.specs.Plain as p
use Rattle.js_tree.specs.Plain.{declarators_of, stmts_of}
use Rattle.js_tree.specs.Views.{plain_expr, plain_declarator, plain_start, plain_stmt, plain_stmt_form}
use Rattle.js_program.specs.declared.node.Declared.{Declared}
use Rattle.js_program.specs.declared.node.NodeForm.{NodeForm}
use Rattle.js_program.specs.declared.node.NodeForm.TheVariants as N
use Rattle.js_program.specs.PlainProgram as n
use Rattle.js_names.specs.Mentions.{Mention}
use Rattle.js_names.specs.Entries.{own_of_all, own_of_start, is_present}
use Rattle.js_resolver.specs.declared.emitter.Emitter.{Emitter}
use Rattle.js_resolver.specs.Variables.{slot_at}
use Rattle.js_resolver.specs.Pieces.{Piece, beside, after}
use Rattle.js_resolver.specs.NodeForms.{declared_of, for_node, fresh, has_start, stmt_node}
use Rattle.js_resolver.specs.Nodes.{expr_piece, perhaps_piece, declarators_piece, start_piece, stmt_piece, stmt_parts, stmts_piece}
use Rattle.js_resolver.specs.inner.Emits.{count, Puts, Emits, EmitsDeclarators, EmitsPerhaps, FormsStmt, tree_perhaps}
use Rattle.js_resolver.proofs.Emitting.{adds_none, closes, emits_none, emits_both, forms_stmt, if_closes}
use Rattle.js_tree.proofs.Statements.{nothing_is, start_is, evaluates_is, stmt_is, empty_is, expression_is, declaration_is, block_is, if_is, if_else_is, while_is, for_is, for_of_is, break_is, continue_is, return_nothing_is, return_is}

pub empty_arm : (ps : List Mention) (a : Emitter) (f : StmtForm) → f ≡ Empty
    → FormsStmt ps a a N.Empty (plain_stmt_form f)
unfolding stmt_parts
empty_arm ps a f h = forms_stmt ps a a N.Empty [] p.empty (plain_stmt_form f) (sym (ap plain_stmt_form h ∙ empty_is)) (emits_none a) refl

pub break_arm : (ps : List Mention) (a : Emitter) (f : StmtForm) (k : Spot) → f ≡ Break k
    → FormsStmt ps a a N.Break (plain_stmt_form f)
unfolding stmt_parts
break_arm ps a f k h = forms_stmt ps a a N.Break [] (p.break_of k) (plain_stmt_form f) (sym (ap plain_stmt_form h ∙ break_is k)) (emits_none a) refl

pub continue_arm : (ps : List Mention) (a : Emitter) (f : StmtForm) (k : Spot) → f ≡ Continue k
    → FormsStmt ps a a N.Continue (plain_stmt_form f)
unfolding stmt_parts
continue_arm ps a f k h = forms_stmt ps a a N.Continue [] (p.continue_of k) (plain_stmt_form f) (sym (ap plain_stmt_form h ∙ continue_is k)) (emits_none a) refl

pub return_nothing_arm : (ps : List Mention) (a : Emitter) (f : StmtForm) (k : Spot) → f ≡ ReturnNothing k
    → FormsStmt ps a a N.ReturnNothing (plain_stmt_form f)
unfolding stmt_parts
return_nothing_arm ps a f k h = forms_stmt ps a a N.ReturnNothing [] (p.return_nothing k) (plain_stmt_form f) (sym (ap plain_stmt_form h ∙ return_nothing_is k)) (emits_none a) refl

pub expression_arm : (ps : List Mention) (a b : Emitter) (f : StmtForm) (e : Expr) (i : ℕ) → f ≡ Expression e → Emits a b (i ∷ []) (expr_piece ps (count a) (plain_expr e))
    → FormsStmt ps a b (N.Expression i) (plain_stmt_form f)
unfolding stmt_parts
expression_arm ps a b f e i h k = forms_stmt ps a b (N.Expression i) (i ∷ []) (p.expression (plain_expr e)) (plain_stmt_form f) (sym (ap plain_stmt_form h ∙ expression_is e)) k refl

pub return_arm : (ps : List Mention) (a b : Emitter) (f : StmtForm) (s : Spot) (e : Expr) (i : ℕ) → f ≡ Return s e → Emits a b (i ∷ []) (expr_piece ps (count a) (plain_expr e))
    → FormsStmt ps a b (N.Return i) (plain_stmt_form f)
unfolding stmt_parts
return_arm ps a b f s e i h k = forms_stmt ps a b (N.Return i) (i ∷ []) (p.return_of s (plain_expr e)) (plain_stmt_form f) (sym (ap plain_stmt_form h ∙ return_is s e)) k refl

pub block_arm : (ps : List Mention) (a b : Emitter) (f : StmtForm) (v : Vec Stmt Global) (xs ys : List Stmt) (vs : Vec ℕ Global) (w : Vec ℕ Global) → f ≡ Block v → xs ≡ v.items → ys ≡ v.items → vs.items ≡ fresh ps (own_of_all 0 false (stmts_of (map plain_stmt xs))) → Emits a b w.items (stmts_piece ps (count a) (stmts_of (map plain_stmt ys)))
    → FormsStmt ps a b (N.Block vs w) (plain_stmt_form f)
unfolding stmt_parts
block_arm ps a b f v xs ys vs w h d e q k = forms_stmt ps a b (N.Block vs w) w.items (p.block (stmts_of (map plain_stmt ys))) (plain_stmt_form f) (ap (λ z. p.block (stmts_of (map plain_stmt z))) e ∙ sym (ap plain_stmt_form h ∙ block_is v)) k
    (ap (λ z. n.block z w.items) (q ∙ ap (λ z. fresh ps (own_of_all 0 false (stmts_of (map plain_stmt z)))) (d ∙ sym e)))

pub declaration_arm : (ps : List Mention) (a b : Emitter) (f : StmtForm) (k : DeclareKind) (v : Vec Declarator Global) (xs : List Declarator) (w : Vec Declared Global) → f ≡ Declaration k v → xs ≡ v.items → EmitsDeclarators ps a b w.items xs
    → FormsStmt ps a b (N.Declaration k w) (plain_stmt_form f)
unfolding stmt_parts
declaration_arm ps a b f k v xs w h d m = subst (FormsStmt ps a b (N.Declaration k w)) (ap (λ z. p.declaration k (declarators_of (map plain_declarator z))) d ∙ sym (ap plain_stmt_form h ∙ declaration_is k v)) (record { adds = m.adds; form = ap (λ z. n.declaration k z) m.declared_are })

pub if_arm : (ps : List Mention) (a b c : Emitter) (f : StmtForm) (e : Expr) (l : Box Stmt Global) (x : Stmt) (i j : ℕ) → f ≡ If e l → x ≡ l.value → Emits a b (i ∷ []) (expr_piece ps (count a) (plain_expr e)) → Emits b c (j ∷ []) (stmt_piece ps (count b) (plain_stmt x))
    → FormsStmt ps a c (N.If i j) (plain_stmt_form f)
unfolding stmt_parts
if_arm ps a b c f e l x i j h d k m = forms_stmt ps a c (N.If i j) (i ∷ j ∷ []) (p.if_alone (plain_expr e) (plain_stmt x)) (plain_stmt_form f)
    (ap (λ z. p.if_alone (plain_expr e) (plain_stmt z)) d ∙ sym (ap plain_stmt_form h ∙ if_is e l))
    (emits_both (λ q. stmt_piece ps q (plain_stmt x)) a b c (i ∷ []) (j ∷ []) (expr_piece ps (count a) (plain_expr e)) k m) refl

pub while_arm : (ps : List Mention) (a b c : Emitter) (f : StmtForm) (e : Expr) (l : Box Stmt Global) (x : Stmt) (i j : ℕ) → f ≡ While e l → x ≡ l.value → Emits a b (i ∷ []) (expr_piece ps (count a) (plain_expr e)) → Emits b c (j ∷ []) (stmt_piece ps (count b) (plain_stmt x))
    → FormsStmt ps a c (N.While i j) (plain_stmt_form f)
unfolding stmt_parts
while_arm ps a b c f e l x i j h d k m = forms_stmt ps a c (N.While i j) (i ∷ j ∷ []) (p.while_of (plain_expr e) (plain_stmt x)) (plain_stmt_form f)
    (ap (λ z. p.while_of (plain_expr e) (plain_stmt z)) d ∙ sym (ap plain_stmt_form h ∙ while_is e l))
    (emits_both (λ q. stmt_piece ps q (plain_stmt x)) a b c (i ∷ []) (j ∷ []) (expr_piece ps (count a) (plain_expr e)) k m) refl

pub for_of_arm : (ps : List Mention) (a b c : Emitter) (f : StmtForm) (w : DeclareKind) (t : Name) (e : Expr) (l : Box Stmt Global) (x : Stmt) (v i j : ℕ) → f ≡ ForOf w t e l → x ≡ l.value → v ≡ slot_at ps t.spot.at → Emits a b (i ∷ []) (expr_piece ps (count a) (plain_expr e)) → Emits b c (j ∷ []) (stmt_piece ps (count b) (plain_stmt x))
    → FormsStmt ps a c (N.ForOf v i j) (plain_stmt_form f)
unfolding stmt_parts
for_of_arm ps a b c f w t e l x v i j h d q k m = forms_stmt ps a c (N.ForOf v i j) (i ∷ j ∷ []) (p.for_of w t (plain_expr e) (plain_stmt x)) (plain_stmt_form f)
    (ap (λ z. p.for_of w t (plain_expr e) (plain_stmt z)) d ∙ sym (ap plain_stmt_form h ∙ for_of_is w t e l))
    (emits_both (λ o. stmt_piece ps o (plain_stmt x)) a b c (i ∷ []) (j ∷ []) (expr_piece ps (count a) (plain_expr e)) k m) (ap (λ z. n.for_of z i j) q)

pub if_else_arm : (ps : List Mention) (a b c d : Emitter) (f : StmtForm) (e : Expr) (l m : Box Stmt Global) (x y : Stmt) (i j k : ℕ) → f ≡ IfElse e l m → x ≡ l.value → y ≡ m.value → Emits a b (i ∷ []) (expr_piece ps (count a) (plain_expr e)) → Emits b c (j ∷ []) (stmt_piece ps (count b) (plain_stmt x)) → Emits c d (k ∷ []) (stmt_piece ps (count c) (plain_stmt y))
    → FormsStmt ps a d (N.IfElse i j k) (plain_stmt_form f)
unfolding stmt_parts
if_else_arm ps a b c d f e l m x y i j k h q s t o u = forms_stmt ps a d (N.IfElse i j k) (i ∷ j ∷ k ∷ []) (p.if_else (plain_expr e) (plain_stmt x) (plain_stmt y)) (plain_stmt_form f)
    (ap (λ w. p.if_else (plain_expr e) (plain_stmt w) (plain_stmt y)) q ∙ (ap (λ w. p.if_else (plain_expr e) (plain_stmt l.value) (plain_stmt w)) s ∙ sym (ap plain_stmt_form h ∙ if_else_is e l m)))
    (emits_both (λ w. stmt_piece ps w (plain_stmt y)) a c d (i ∷ j ∷ []) (k ∷ []) (beside (expr_piece ps (count a) (plain_expr e)) (stmt_piece ps (after (count a) (expr_piece ps (count a) (plain_expr e))) (plain_stmt x)))
    (emits_both (λ w. stmt_piece ps w (plain_stmt x)) a b c (i ∷ []) (j ∷ []) (expr_piece ps (count a) (plain_expr e)) t o) u) refl

-- the parts of a `for`, of which three may be absent
for_parts : (vs : List ℕ) (f t s : Option ℕ) (i : ℕ) → n.for_three vs f t s i ≡ for_node vs (is_some f) (is_some t) (is_some s) (((option_to_list f ++ option_to_list t) ++ option_to_list s) ++ i ∷ [])
for_parts vs None None None i = refl
for_parts vs None None (Some z) i = refl
for_parts vs None (Some y) None i = refl
for_parts vs None (Some y) (Some z) i = refl
for_parts vs (Some x) None None i = refl
for_parts vs (Some x) None (Some z) i = refl
for_parts vs (Some x) (Some y) None i = refl
for_parts vs (Some x) (Some y) (Some z) i = refl

whole : (a b : Emitter) (o : Option ℕ) (present : Bool) (x : Piece) → EmitsPerhaps a b o present x → Emits a b (option_to_list o) x
whole a b o present x h = record { adds = h.adds; parts = h.parts }

pub for_arm : (ps : List Mention) (a b c d e : Emitter) (f : StmtForm) (s u : Start) (t w : Option Expr) (l : Box Stmt Global) (x : Stmt) (vs : Vec ℕ Global) (i j k : Option ℕ) (m : ℕ) → f ≡ ForThree s t w l → x ≡ l.value → vs.items ≡ fresh ps (own_of_start 0 (plain_start s))
    → EmitsPerhaps a b i (has_start (plain_start s)) (start_piece ps (count a) (plain_start s))
    → EmitsPerhaps b c j (is_present (tree_perhaps t)) (perhaps_piece ps (count b) (tree_perhaps t))
    → EmitsPerhaps c d k (is_present (tree_perhaps w)) (perhaps_piece ps (count c) (tree_perhaps w))
    → Emits d e (m ∷ []) (stmt_piece ps (count d) (plain_stmt x))
    → FormsStmt ps a e (N.ForThree vs i j k m) (plain_stmt_form f)
unfolding stmt_parts
for_arm ps a b c d e f s u t w l x vs i j k m h q v g1 g2 g3 g4 =
    let p1 = start_piece ps (count a) (plain_start s) in
    let p2 = beside p1 (perhaps_piece ps (after (count a) p1) (tree_perhaps t)) in
    let p3 = beside p2 (perhaps_piece ps (after (count a) p2) (tree_perhaps w)) in
    let h1 = whole a b i (has_start (plain_start s)) p1 g1 in
    let h2 = emits_both (λ z. perhaps_piece ps z (tree_perhaps t)) a b c (option_to_list i) (option_to_list j) p1 h1 (whole b c j (is_present (tree_perhaps t)) (perhaps_piece ps (count b) (tree_perhaps t)) g2) in
    let h3 = emits_both (λ z. perhaps_piece ps z (tree_perhaps w)) a c d (option_to_list i ++ option_to_list j) (option_to_list k) p2 h2 (whole c d k (is_present (tree_perhaps w)) (perhaps_piece ps (count c) (tree_perhaps w)) g3) in
    let h4 = emits_both (λ z. stmt_piece ps z (plain_stmt x)) a d e ((option_to_list i ++ option_to_list j) ++ option_to_list k) (m ∷ []) p3 h3 g4 in
    let ns = ((option_to_list i ++ option_to_list j) ++ option_to_list k) ++ m ∷ [] in
    forms_stmt ps a e (N.ForThree vs i j k m) ns (p.for_three (plain_start s) (tree_perhaps t) (tree_perhaps w) (plain_stmt x)) (plain_stmt_form f)
    (ap (λ z. p.for_three (plain_start s) (tree_perhaps t) (tree_perhaps w) (plain_stmt z)) q ∙ sym (ap plain_stmt_form h ∙ for_is s t w l)) h4
    (ap (λ z. n.for_three z i j k m) v
    ∙ (for_parts (fresh ps (own_of_start 0 (plain_start s))) i j k m
    ∙ (ap (λ z. for_node (fresh ps (own_of_start 0 (plain_start s))) z (is_some j) (is_some k) ns) g1.same
    ∙ (ap (λ z. for_node (fresh ps (own_of_start 0 (plain_start s))) (has_start (plain_start s)) z (is_some k) ns) g2.same
    ∙ ap (λ z. for_node (fresh ps (own_of_start 0 (plain_start s))) (has_start (plain_start s)) (is_present (tree_perhaps t)) z ns) g3.same))))

pub stmt_closed : (ps : List Mention) {E : Type 0} (r : Result ℕ E) (a b c : Emitter) (s : Stmt) (form : NodeForm) → FormsStmt ps a b form (plain_stmt_form s.form) → IfOk r (λ i. Puts b c s.line form i)
    → IfOk r (λ i. Emits a c (i ∷ []) (stmt_piece ps (count a) (plain_stmt s)))
unfolding stmt_piece
stmt_closed ps r a b c s form h k = if_closes r a b c s.line form (stmt_node ps (plain_stmt_form s.form)) (stmt_parts ps (count a) (plain_stmt_form s.form)) (stmt_piece ps (count a) (plain_stmt s)) (sym (ap (stmt_piece ps (count a)) (stmt_is s))) h k

-- what may be absent

pub absent_arm : (ps : List Mention) (a : Emitter) (e : Option Expr) → e ≡ None → EmitsPerhaps a a None (is_present (tree_perhaps e)) (perhaps_piece ps (count a) (tree_perhaps e))
unfolding perhaps_piece
absent_arm ps a e h = subst (λ z. EmitsPerhaps a a None (is_present (tree_perhaps z)) (perhaps_piece ps (count a) (tree_perhaps z))) (sym h) (record { adds = adds_none a; parts = refl; same = refl })

pub present_arm : (ps : List Mention) (a b : Emitter) (e : Option Expr) (x : Expr) (i : ℕ) → e ≡ Some x → Emits a b (i ∷ []) (expr_piece ps (count a) (plain_expr x)) → EmitsPerhaps a b (Some i) (is_present (tree_perhaps e)) (perhaps_piece ps (count a) (tree_perhaps e))
unfolding perhaps_piece
present_arm ps a b e x i h k = subst (λ z. EmitsPerhaps a b (Some i) (is_present (tree_perhaps z)) (perhaps_piece ps (count a) (tree_perhaps z))) (sym h) (record { adds = k.adds; parts = k.parts; same = refl })

pub nothing_arm : (ps : List Mention) (a : Emitter) (s : Start) → s ≡ Nothing → EmitsPerhaps a a None (has_start (plain_start s)) (start_piece ps (count a) (plain_start s))
unfolding start_piece
nothing_arm ps a s h = subst (λ z. EmitsPerhaps a a None (has_start z) (start_piece ps (count a) z)) (sym (ap plain_start h ∙ nothing_is)) (record { adds = adds_none a; parts = refl; same = refl })

pub evaluates_arm : (ps : List Mention) (a b : Emitter) (s : Start) (x : Expr) (i : ℕ) → s ≡ Evaluates x → Emits a b (i ∷ []) (expr_piece ps (count a) (plain_expr x)) → EmitsPerhaps a b (Some i) (has_start (plain_start s)) (start_piece ps (count a) (plain_start s))
unfolding start_piece
evaluates_arm ps a b s x i h k = subst (λ z. EmitsPerhaps a b (Some i) (has_start z) (start_piece ps (count a) z)) (sym (ap plain_start h ∙ evaluates_is x)) (record { adds = k.adds; parts = k.parts; same = refl })

pub declares_arm : (ps : List Mention) (a b c : Emitter) (s : Start) (line : ℕ) (kind : DeclareKind) (v : Vec Declarator Global) (xs : List Declarator) (w : Vec Declared Global) (i : ℕ) → s ≡ Declares line kind v → xs ≡ v.items
    → EmitsDeclarators ps a b w.items xs → Puts b c line (N.Declaration kind w) i → EmitsPerhaps a c (Some i) (has_start (plain_start s)) (start_piece ps (count a) (plain_start s))
unfolding start_piece
declares_arm ps a b c s line kind v xs w i h d k m =
    let ds = declarators_of (map plain_declarator xs) in
    let one = closes a b c line i (N.Declaration kind w) (λ parts. n.declaration kind (declared_of ps ds parts)) (declarators_piece ps (count a) ds) (record { adds = k.adds; form = ap (λ z. n.declaration kind z) k.declared_are }) m in
    subst (λ z. EmitsPerhaps a c (Some i) (has_start z) (start_piece ps (count a) z)) (ap (λ z. p.declared line kind (declarators_of (map plain_declarator z))) d ∙ sym (ap plain_start h ∙ start_is line kind v)) (record { adds = one.adds; parts = one.parts; same = refl })
