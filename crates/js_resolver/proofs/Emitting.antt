-- Nodes and functions that a walk adds.
use Rattle.std.proofs.Common.{◌≡◌, ℕ, List, [], ◌∷◌, ◌++◌, ◌∙◌, ap, refl, sym, subst, length, append_assoc, append-nil, length-append, arith}
use Rattle.std.specs.Prelude.{Result, Ok, Err, IfOk}
use Rattle.std.proofs.lemmas.List.{length-map}
use Rattle.js_tree.specs.Plain.{PlainForm, PlainStmtForm}
use Rattle.js_program.specs.declared.node.NodeForm.{NodeForm}
use Rattle.js_program.specs.PlainProgram.{PlainNodeForm}
use Rattle.js_program.specs.Views.{plain_node, plain_node_form}
use Rattle.js_names.specs.Mentions.{Mention}
use Rattle.js_resolver.specs.declared.emitter.Emitter.{Emitter}
use Rattle.js_resolver.specs.Pieces.{Piece, none, beside, after, closed}
use Rattle.js_resolver.specs.NodeForms.{expr_node, stmt_node}
use Rattle.js_resolver.specs.Nodes.{form_parts, stmt_parts}
use Rattle.js_resolver.specs.inner.Emits.{nodes_of, functions_of, count, Puts, Adds, Emits, Forms, FormsExpr, FormsStmt, Leaves}

-- how many nodes there are now
pub counts : (a b : Emitter) (x : Piece) → Adds a b x → count b ≡ after (count a) x
counts a b x h =
    omega (arith, ap length h.nodes, length-map a.nodes.items plain_node, length-map b.nodes.items plain_node, length-append (nodes_of a) x.nodes)

pub adds_none : (a : Emitter) → Adds a a none
adds_none a = record { nodes = sym (append-nil (nodes_of a)); functions = sym (append-nil (functions_of a)) }

pub emits_none : (a : Emitter) → Emits a a [] none
emits_none a = record { adds = adds_none a; parts = refl }

-- two pieces, one after the other
pub adds_both : (f : ℕ → Piece) (a b c : Emitter) (x : Piece) → Adds a b x → Adds b c (f (count b)) → Adds a c (beside x (f (after (count a) x)))
adds_both f a b c x h k =
    let j : Adds b c (f (after (count a) x)) = subst (λ n. Adds b c (f n)) (counts a b x h) k in
    let y = f (after (count a) x) in
    record {
      nodes = j.nodes ∙ (ap (λ z. z ++ y.nodes) h.nodes ∙ append_assoc (nodes_of a) x.nodes y.nodes);
      functions = j.functions ∙ (ap (λ z. z ++ y.functions) h.functions ∙ append_assoc (functions_of a) x.functions y.functions);
    }

pub emits_both : (f : ℕ → Piece) (a b c : Emitter) (ms ns : List ℕ) (x : Piece) → Emits a b ms x → Emits b c ns (f (count b)) → Emits a c (ms ++ ns) (beside x (f (after (count a) x)))
emits_both f a b c ms ns x h k = record {
  adds = adds_both f a b c x h.adds k.adds;
  parts = ap (λ z. z ++ ns) h.parts ∙ ap (λ z. x.parts ++ z) (k.parts ∙ ap (λ n. (f n).parts) (counts a b x h.adds));
}

-- the node of a form, after its parts
pub closes : (a b c : Emitter) (line n : ℕ) (form : NodeForm) (shape : List ℕ → PlainNodeForm) (x : Piece) → Forms a b form shape x → Puts b c line form n → Emits a c (n ∷ []) (closed (count a) line shape x)
closes a b c line n form shape x h k = record {
  adds = record {
    nodes = k.nodes ∙ (ap (λ z. nodes_of b ++ record { line = line; form = z } ∷ []) h.form ∙ (ap (λ z. z ++ record { line = line; form = shape x.parts } ∷ []) h.adds.nodes ∙ append_assoc (nodes_of a) x.nodes (record { line = line; form = shape x.parts } ∷ [])));
    functions = k.functions ∙ h.adds.functions;
  };
  parts = ap (λ z. z ∷ []) (k.next ∙ counts a b x h.adds);
}

pub if_closes : {E : Type 0} (r : Result ℕ E) (a b c : Emitter) (line : ℕ) (form : NodeForm) (shape : List ℕ → PlainNodeForm) (x y : Piece) → closed (count a) line shape x ≡ y → Forms a b form shape x → IfOk r (λ n. Puts b c line form n)
    → IfOk r (λ n. Emits a c (n ∷ []) y)
if_closes (Err e) a b c line form shape x y q h k = tt
if_closes (Ok n) a b c line form shape x y q h k = subst (Emits a c (n ∷ [])) q (closes a b c line n form shape x h k)

-- a form from the numbers of its parts
pub forms_expr : (ps : List Mention) (a b : Emitter) (form : NodeForm) (ns : List ℕ) (f g : PlainForm) → f ≡ g → Emits a b ns (form_parts ps (count a) f) → plain_node_form form ≡ expr_node ps f ns → FormsExpr ps a b form g
forms_expr ps a b form ns f g e h k = subst (FormsExpr ps a b form) e (record { adds = h.adds; form = k ∙ ap (expr_node ps f) h.parts })

pub forms_stmt : (ps : List Mention) (a b : Emitter) (form : NodeForm) (ns : List ℕ) (f g : PlainStmtForm) → f ≡ g → Emits a b ns (stmt_parts ps (count a) f) → plain_node_form form ≡ stmt_node ps f ns → FormsStmt ps a b form g
forms_stmt ps a b form ns f g e h k = subst (FormsStmt ps a b form) e (record { adds = h.adds; form = k ∙ ap (stmt_node ps f) h.parts })

-- the same of a form that another walk answers
pub if_forms_expr : {E : Type 0} (r : Result NodeForm E) (ps : List Mention) (a b : Emitter) (f g : PlainForm) → f ≡ g → IfOk r (λ x. FormsExpr ps a b x f) → IfOk r (λ x. FormsExpr ps a b x g)
if_forms_expr r ps a b f g e h = subst (λ z. IfOk r (λ x. FormsExpr ps a b x z)) e h

-- loops: what is left

pub leaves_all : (a : Emitter) (w : Piece) → Leaves a a w w
leaves_all a w = record { nodes = refl; functions = refl }

pub leaves_none : (a b : Emitter) (w : Piece) → Leaves a b none w → Adds a b w
leaves_none a b w h = record { nodes = sym (append-nil (nodes_of b)) ∙ h.nodes; functions = sym (append-nil (functions_of b)) ∙ h.functions }

pub leaves_more : (f : ℕ → Piece) (a b c : Emitter) (x w : Piece) → Leaves a b (beside x (f (after (count b) x))) w → Adds b c x → Leaves a c (f (count c)) w
leaves_more f a b c x w h k =
    let y = f (after (count b) x) in
    subst (λ n. Leaves a c (f n) w) (sym (counts b c x k)) (record {
      nodes = ap (λ z. z ++ y.nodes) k.nodes ∙ (append_assoc (nodes_of b) x.nodes y.nodes ∙ h.nodes);
      functions = ap (λ z. z ++ y.functions) k.functions ∙ (append_assoc (functions_of b) x.functions y.functions ∙ h.functions);
    })

-- numbers so far and numbers to come
pub numbers_more : (f : ℕ → Piece) (b c : Emitter) (ms ns ks all : List ℕ) (x : Piece) → ms ++ (beside x (f (after (count b) x))).parts ≡ all → ks ≡ ms ++ ns → ns ≡ x.parts → Adds b c x → ks ++ (f (count c)).parts ≡ all
numbers_more f b c ms ns ks all x h e p k =
    ap (λ n. ks ++ (f n).parts) (counts b c x k)
    ∙ (ap (λ z. z ++ (f (after (count b) x)).parts) (e ∙ ap (λ z. ms ++ z) p)
    ∙ (append_assoc ms x.parts (f (after (count b) x)).parts ∙ h))
