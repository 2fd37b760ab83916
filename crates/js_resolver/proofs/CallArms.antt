-- Members and calls, which may be forms of the language.
use Rattle.std.proofs.Common.{◌≡◌, ℕ, ◌-◌, ◌≤◌, drop, get_or, take, List, [], ◌∷◌, ◌++◌, ◌∙◌, ap, refl, sym, subst, length, map, Option, Some, None, Bool, true, false, arith, if◌then◌else◌}
use Rattle.std.proofs.lemmas.List.{drop_more, take_all, length-drop}
use Rattle.std.specs.Prelude.{Result, Ok, Err, IfOk, Vec, is_some}
use Rattle.std.specs.declared.alloc.Global.{Global}
use Rattle.js_tree.specs.declared.tree.Expr.{Expr}
use Rattle.js_tree.specs.declared.tree.Operator.{Operator}
use Rattle.js_tree.specs.declared.tree.Operator.TheVariants.{Divide}
use Rattle.js_tree.specs.Plain as p
use Rattle.js_tree.specs.Plain.{PlainExpr, PlainExprs, exprs_of}
use Rattle.js_tree.specs.Views.{plain_expr}
use Rattle.js_program.specs.declared.builtin.Builtin.{Builtin}
use Rattle.js_program.specs.declared.builtin.Builtin.TheVariants.{Floor}
use Rattle.js_program.specs.declared.node.NodeForm.{NodeForm}
use Rattle.js_program.specs.declared.node.NodeForm.TheVariants as N
use Rattle.js_program.specs.PlainProgram as n
use Rattle.js_names.specs.Mentions.{Mention}
use Rattle.js_names.specs.Forms.{called_builtin, value_builtin}
use Rattle.js_resolver.specs.declared.emit.Called.{Called}
use Rattle.js_resolver.specs.declared.emit.Called.TheVariants as C
use Rattle.js_resolver.specs.declared.emitter.Emitter.{Emitter}
use Rattle.js_resolver.specs.Pieces.{none, after, beside}
use Rattle.js_resolver.specs.NodeForms.{begins_with_division, call_node, floors_division, is_division, member_node, method_of}
use Rattle.js_resolver.specs.Nodes.{arguments_piece, expr_parts, expr_piece, exprs_piece, form_parts}
use Rattle.js_resolver.specs.inner.Emits.{count, is_divide, Emits, EmitsCallee, EmitsCalled, Forms, FormsCall, FormsExpr, FormsBuiltin, builtin_in, word_in, parts_in, called_piece, callee_piece}
use Rattle.js_resolver.proofs.Emitting.{adds_both, adds_none, counts, emits_both, emits_none}

pub member_builtin : (ps : List Mention) (a : Emitter) (x : PlainExpr) (t : List ℕ) (f : Builtin) (w : Vec ℕ Global) → value_builtin x t ≡ Some f → w.items ≡ [] → FormsExpr ps a a (N.Builtin f w) (p.member x t)
unfolding form_parts
member_builtin ps a x t f w e d =
    subst (λ o. Forms a a (N.Builtin f w) (λ parts. member_node o t parts) (if is_some o then none else expr_piece ps (count a) x)) (sym e) (record { adds = adds_none a; form = ap (n.builtin f) d })

pub member_plain : (ps : List Mention) (a b : Emitter) (x : PlainExpr) (t : List ℕ) (i : ℕ) → value_builtin x t ≡ None → Emits a b (i ∷ []) (expr_piece ps (count a) x) → FormsExpr ps a b (N.Member i t) (p.member x t)
unfolding form_parts
member_plain ps a b x t i e k =
    subst (λ o. Forms a b (N.Member i t) (λ parts. member_node o t parts) (if is_some o then none else expr_piece ps (count a) x)) (sym e) (record { adds = k.adds; form = ap (member_node None t) k.parts })

-- arguments of which none is divided
arguments_plain : (ps : List Mention) (b : ℕ) (es : PlainExprs) → arguments_piece ps b false es ≡ exprs_piece ps b es
unfolding arguments_piece exprs_piece
arguments_plain ps b p.no_exprs = refl
arguments_plain ps b (p.expr_in e es) = refl

pub builtin_plain : (ps : List Mention) (a b : Emitter) (f : Builtin) (es : PlainExprs) (w : Vec ℕ Global) → floors_division (Some f) es ≡ false → Emits a b w.items (exprs_piece ps (count a) es) → FormsBuiltin ps a b (N.Builtin f w) f es
builtin_plain ps a b f es w e k =
    subst (λ z. Forms a b (N.Builtin f w) (call_node (Some f) None z) (arguments_piece ps (count a) z es)) (sym e)
    (subst (λ z. Forms a b (N.Builtin f w) (call_node (Some f) None false) z) (sym (arguments_plain ps (count a) es)) (record { adds = k.adds; form = ap (n.builtin f) k.parts }))

-- any form but `Math.floor`
pub not_floor : (f : Builtin) (es : PlainExprs) → (f ≡ Floor → ⊥) → floors_division (Some f) es ≡ false
not_floor Floor es h = absurd (h refl)
not_floor _ es h = refl

-- `Math.floor` of nothing
pub floor_none : (ps : List Mention) (a : Emitter) (xs : List Expr) (w : Vec ℕ Global) → xs ≡ [] → w.items ≡ [] → FormsBuiltin ps a a (N.Builtin Floor w) Floor (exprs_of (map plain_expr xs))
unfolding arguments_piece
floor_none ps a xs w e d = subst (λ z. FormsBuiltin ps a a (N.Builtin Floor w) Floor (exprs_of (map plain_expr z))) (sym e) (record { adds = adds_none a; form = ap (n.builtin Floor) d })

-- of a division
pub floor_divides : (ps : List Mention) (a b c d : Emitter) (first l r : PlainExpr) (parens line : ℕ) (es all : PlainExprs) (i j : ℕ) (w : Vec ℕ Global) → all ≡ p.expr_in first es → first ≡ p.at parens line (p.binary Divide l r)
    → Emits a b (i ∷ []) (expr_piece ps (count a) l) → Emits b c (j ∷ []) (expr_piece ps (count b) r) → Emits c d w.items (exprs_piece ps (count c) es) → FormsBuiltin ps a d (N.FloorDivide i j w) Floor all
unfolding arguments_piece expr_parts form_parts
floor_divides ps a b c d first l r parens line es whole i j w o e g h k =
    let x = beside (expr_piece ps (count a) l) (expr_piece ps (after (count a) (expr_piece ps (count a) l)) r) in
    let two : Emits a c (i ∷ j ∷ []) x = emits_both (λ z. expr_piece ps z r) a b c (i ∷ []) (j ∷ []) (expr_piece ps (count a) l) g h in
    let all : Emits a d (i ∷ j ∷ w.items) (beside x (exprs_piece ps (after (count a) x) es)) = emits_both (λ z. exprs_piece ps z es) a c d (i ∷ j ∷ []) w.items x two k in
    subst (λ z. FormsBuiltin ps a d (N.FloorDivide i j w) Floor z) (sym (o ∙ ap (λ z. p.expr_in z es) e)) (record { adds = all.adds; form = ap (call_node (Some Floor) None true) all.parts })

-- and of anything else

pub divides_is : (o : Operator) → is_divide o ≡ true → o ≡ Divide
divides_is Divide e = refl
divides_is _ e = cc

pub divides_not : (o : Operator) (parens line : ℕ) (l r : PlainExpr) → is_divide o ≡ false → is_division (p.at parens line (p.binary o l r)) ≡ false
divides_not Divide parens line l r e = cc
divides_not _ parens line l r e = refl

pub floor_plain : (first : PlainExpr) (es all : PlainExprs) → all ≡ p.expr_in first es → is_division first ≡ false → floors_division (Some Floor) all ≡ false
floor_plain first es all o e = ap begins_with_division o ∙ e

-- arguments of which there is a first
pub first_and_rest : (xs : List Expr) (d x : Expr) → 1 ≤ length xs → x ≡ get_or xs 0 d → xs ≡ x ∷ take (length xs - 1) (drop 1 xs)
first_and_rest xs d x h e =
    drop_more xs 0 d (omega arith) ∙ (ap (λ z. z ∷ drop 1 xs) (sym e) ∙ ap (λ z. x ∷ z) (sym (take_all (length xs - 1) (drop 1 xs) (omega (arith, length-drop 1 xs)))))

pub exprs_first : (xs ys : List Expr) (x : Expr) → xs ≡ x ∷ ys → exprs_of (map plain_expr xs) ≡ p.expr_in (plain_expr x) (exprs_of (map plain_expr ys))
exprs_first xs ys x e = ap (λ z. exprs_of (map plain_expr z)) e

-- a method
pub called_method : (ps : List Mention) (a b : Emitter) (e x : PlainExpr) (parens line : ℕ) (t : List ℕ) (i : ℕ) → e ≡ p.at parens line (p.member x t) → value_builtin x t ≡ None
    → Emits a b (i ∷ []) (expr_piece ps (count a) x) → EmitsCalled ps a b (C.Method i t) e
unfolding expr_parts form_parts
called_method ps a b e x parens line t i q v g =
    subst (λ z. EmitsCalled ps a b (C.Method i t) z) (sym q) (record {
      emits = subst (λ o. Emits a b (i ∷ []) (if is_some (if is_some o then None else Some t) then (if is_some o then none else expr_piece ps (count a) x) else expr_piece ps (count a) (p.at parens line (p.member x t)))) (sym v) g;
      builtin = refl;
      word = ap (λ o. if is_some o then None else Some t) (sym v);
    })

-- anything else
pub called_other : (ps : List Mention) (a b : Emitter) (e : PlainExpr) (i : ℕ) → method_of e ≡ None → Emits a b (i ∷ []) (expr_piece ps (count a) e) → EmitsCalled ps a b (C.Other i) e
called_other ps a b e i q g = record {
  emits = subst (λ o. Emits a b (i ∷ []) (if is_some o then expr_parts ps (count a) e else expr_piece ps (count a) e)) (sym q) g;
  builtin = refl;
  word = sym q;
}

-- a form that was not found
pub no_value : (o r : Option Builtin) → o ≡ r → is_some o ≡ false → r ≡ None
no_value None r e h = sym e
no_value (Some f) r e h = cc

-- a member that is a form of the language is not a method
pub no_method : (e x : PlainExpr) (parens line : ℕ) (t : List ℕ) → e ≡ p.at parens line (p.member x t) → is_some (value_builtin x t) ≡ true → method_of e ≡ None
no_method e x parens line t q v = ap method_of q ∙ ap (λ z. if z then None else Some t) v

-- a form of the language that is called
pub callee_builtin : (ps : List Mention) (a : Emitter) (e : PlainExpr) (f : Builtin) → called_builtin e ≡ Some f → EmitsCallee ps a a (C.Builtin f) e
unfolding EmitsCallee
callee_builtin ps a e f q = record {
  emits = subst (λ o. Emits a a [] (if is_some o then none else called_piece ps (count a) e)) (sym q) (emits_none a);
  builtin = sym q;
  word = λ h. absurd (cc (sym q ∙ h));
}

-- and anything else
pub callee_called : {E : Type 0} (r : Result Called E) (ps : List Mention) (a b : Emitter) (e : PlainExpr) → called_builtin e ≡ None → IfOk r (λ x. EmitsCalled ps a b x e) → IfOk r (λ x. EmitsCallee ps a b x e)
unfolding EmitsCallee
callee_called (Err y) ps a b e q h = tt
callee_called (Ok x) ps a b e q h = record {
  emits = subst (λ o. Emits a b (parts_in x) (if is_some o then none else called_piece ps (count a) e)) (sym q) h.emits;
  builtin = h.builtin ∙ sym q;
  word = λ k. h.word;
}

-- the arguments of a method, and of anything else

pub arguments_method : (ps : List Mention) (a b : Emitter) (i : ℕ) (t : List ℕ) (es : PlainExprs) (w : Vec ℕ Global) → Emits a b w.items (exprs_piece ps (count a) es) → FormsCall ps a b (N.Method i t w) (C.Method i t) es
arguments_method ps a b i t es w k =
    subst (λ z. Forms a b (N.Method i t w) (λ parts. call_node None (Some t) false (i ∷ parts)) z) (sym (arguments_plain ps (count a) es)) (record { adds = k.adds; form = ap (λ z. n.method i t z) k.parts })

pub arguments_other : (ps : List Mention) (a b : Emitter) (i : ℕ) (es : PlainExprs) (w : Vec ℕ Global) → Emits a b w.items (exprs_piece ps (count a) es) → FormsCall ps a b (N.Call i w) (C.Other i) es
arguments_other ps a b i es w k =
    subst (λ z. Forms a b (N.Call i w) (λ parts. call_node None None false (i ∷ parts)) z) (sym (arguments_plain ps (count a) es)) (record { adds = k.adds; form = ap (λ z. n.call i z) k.parts })

-- a whole call

-- the node of a call, by what is called
call_node_is : (f : Option Builtin) (g : Option Builtin) (v w : Option (List ℕ)) (d : Bool) (parts : List ℕ) → f ≡ g → (g ≡ None → v ≡ w) → call_node f v d parts ≡ call_node g w d parts
call_node_is f (Some b) v w d parts e h = ap (λ z. call_node z v d parts) e
call_node_is f None v w d parts e h = ap (λ z. call_node z v d parts) e ∙ ap (λ z. call_node None z d parts) (h refl)

pub call_whole : (ps : List Mention) (a b c : Emitter) (x : NodeForm) (called : Called) (e : PlainExpr) (es : PlainExprs) → EmitsCallee ps a b called e → FormsCall ps b c x called es → FormsExpr ps a c x (p.call e es)
unfolding form_parts EmitsCallee
call_whole ps a b c x called e es h k =
    let u = callee_piece ps (count a) e in
    let f = called_builtin e in
    let d = floors_division f es in
    let j : Forms b c x (λ parts. call_node (builtin_in called) (word_in called) d (parts_in called ++ parts)) (arguments_piece ps (count b) d es) =
    subst (λ o. Forms b c x (λ parts. call_node (builtin_in called) (word_in called) (floors_division o es) (parts_in called ++ parts)) (arguments_piece ps (count b) (floors_division o es) es)) h.builtin k in
    let m : count b ≡ after (count a) u = counts a b u h.emits.adds in
    record {
      adds = adds_both (λ z. arguments_piece ps z d es) a b c u h.emits.adds j.adds;
      form = j.form
          ∙ (call_node_is (builtin_in called) f (word_in called) (method_of e) d (parts_in called ++ (arguments_piece ps (count b) d es).parts) h.builtin h.word
          ∙ (ap (λ z. call_node f (method_of e) d (z ++ (arguments_piece ps (count b) d es).parts)) h.emits.parts
          ∙ ap (λ z. call_node f (method_of e) d (u.parts ++ (arguments_piece ps z d es).parts)) m));
    }
