-- Functions, each before those inside it.
use Rattle.std.proofs.Common.{◌≡◌, ℕ, ◌≤◌, List, [], ◌∷◌, ◌++◌, ◌∙◌, ap, sym, subst, length, map, drop, arith, append-nil, length-append}
use Rattle.std.specs.Prelude.{Result, Ok, Err, OnOk, Vec}
use Rattle.std.specs.declared.alloc.Global.{Global}
use Rattle.std.specs.List.{insert}
use Rattle.std.proofs.lemmas.List.{length-map}
use Rattle.std.proofs.Math.Seq.{take-append_seam, drop-append_seam}
use Rattle.indexmap.proofs.SetLemmas.{map-insert}
use Rattle.js_tree.specs.declared.tree.Expr.{Expr}
use Rattle.js_tree.specs.declared.tree.Item.{Item}
use Rattle.js_tree.specs.declared.tree.Item.TheVariants.{Statement, Function}
use Rattle.js_tree.specs.declared.tree.Name.{Name}
use Rattle.js_tree.specs.declared.tree.Spot.{Spot}
use Rattle.js_tree.specs.declared.tree.Stmt.{Stmt}
use Rattle.js_tree.specs.Plain as p
use Rattle.js_tree.specs.Plain.{PlainStmts, stmts_of}
use Rattle.js_tree.specs.Views.{plain_expr, plain_item, plain_stmt}
use Rattle.js_program.specs.declared.node.Body.{Body}
use Rattle.js_program.specs.declared.node.NodeForm.TheVariants as N
use Rattle.js_program.specs.PlainProgram as n
use Rattle.js_program.specs.PlainProgram.{PlainBody, PlainContent}
use Rattle.js_program.specs.Views.{plain_body, plain_node}
use Rattle.js_names.specs.Mentions.{Mention}
use Rattle.js_resolver.specs.declared.emitter.Emitter.{Emitter}
use Rattle.js_resolver.specs.Variables.{body_of, code_at}
use Rattle.js_resolver.specs.Pieces.{Piece, function_piece, one_value}
use Rattle.js_resolver.specs.Nodes.{expr_piece, form_parts, item_piece, stmt_piece, stmts_piece}
use Rattle.js_resolver.specs.inner.Emits.{functions_of, count, Adds, Emits, EmitsMore, FormsExpr, PutsBody}

inserted : {A : Type 0} (xs ys : List A) (y : A) → insert (xs ++ ys) (length xs) y ≡ xs ++ y ∷ ys
inserted xs ys y = ap (λ z. z ++ y ∷ drop (length xs) (xs ++ ys)) (take-append_seam xs ys) ∙ ap (λ z. xs ++ y ∷ z) (drop-append_seam xs ys)

-- the place that was noted before is there
pub place_is_there : (a b : Emitter) (x : Piece) (place : ℕ) → place ≡ length a.functions.items → Adds a b x → place ≤ length b.functions.items
place_is_there a b x place e h =
    omega (arith, e, ap length h.functions, length-map a.functions.items plain_body, length-map b.functions.items plain_body, length-append (functions_of a) x.functions)

-- the body that is put
pub puts_body : (a b : Emitter) (place : ℕ) (body : Body) (plain : PlainBody) → plain_body body ≡ plain → b.nodes.items ≡ a.nodes.items → b.functions.items ≡ insert a.functions.items place body → PutsBody a b place plain
puts_body a b place body plain e h k = record {
  nodes = ap (map plain_node) h;
  functions = ap (map plain_body) k ∙ (map-insert plain_body a.functions.items place body ∙ ap (insert (functions_of a) place) e);
}

pub on_puts_body : {A E : Type 0} (r : Result A E) (a b : Emitter) (place : ℕ) (body : Body) (plain : PlainBody) → plain_body body ≡ plain → OnOk r (b.nodes.items ≡ a.nodes.items) → OnOk r (b.functions.items ≡ insert a.functions.items place body) → OnOk r (PutsBody a b place plain)
on_puts_body (Err y) a b place body plain e h k = tt
on_puts_body (Ok y) a b place body plain e h k = puts_body a b place body plain e h k

-- a function whose statements or value were emitted
pub function_adds : (ps : List Mention) (a b c : Emitter) (place : ℕ) (spot : Spot) (names : List Name) (ns : List ℕ) (content : List ℕ → PlainContent) (x : Piece) → place ≡ length a.functions.items → Emits a b ns x
    → PutsBody b c place (body_of ps spot.at (length names) (content ns) spot.line) → Adds a c (function_piece ps spot names content x)
function_adds ps a b c place spot names ns content x e h k =
    let body = body_of ps spot.at (length names) (content ns) spot.line in
    let at : place ≡ length (functions_of a) = e ∙ sym (length-map a.functions.items plain_body) in
    record {
      nodes = k.nodes ∙ h.adds.nodes;
      functions = k.functions
          ∙ (ap (λ z. insert z place body) h.adds.functions
          ∙ (ap (λ z. insert (functions_of a ++ x.functions) z body) at
          ∙ (inserted (functions_of a) x.functions body
          ∙ ap (λ z. functions_of a ++ body_of ps spot.at (length names) (content z) spot.line ∷ x.functions) h.parts)));
    }

pub on_function_adds : {A E : Type 0} (r : Result A E) (ps : List Mention) (a b c : Emitter) (place : ℕ) (spot : Spot) (names : List Name) (ns : List ℕ) (content : List ℕ → PlainContent) (x : Piece) → place ≡ length a.functions.items → Emits a b ns x
    → OnOk r (PutsBody b c place (body_of ps spot.at (length names) (content ns) spot.line)) → OnOk r (Adds a c (function_piece ps spot names content x))
on_function_adds (Err y) ps a b c place spot names ns content x e h k = tt
on_function_adds (Ok y) ps a b c place spot names ns content x e h k = function_adds ps a b c place spot names ns content x e h k

-- the node that makes it
pub function_form : (ps : List Mention) (a b : Emitter) (spot : Spot) (names : List Name) (ss : PlainStmts) (code : ℕ) → code ≡ code_at ps spot.at → Adds a b (function_piece ps spot names n.statements (stmts_piece ps (count a) ss))
    → FormsExpr ps a b (N.Function code) (p.function spot names ss)
unfolding form_parts
function_form ps a b spot names ss code e h = record { adds = h; form = ap (λ z. n.function z) e }

pub arrow_form : (ps : List Mention) (a b c : Emitter) (place : ℕ) (spot : Spot) (names : List Name) (x : Expr) (i code : ℕ) → place ≡ length a.functions.items → Emits a b (i ∷ []) (expr_piece ps (count a) (plain_expr x))
    → PutsBody b c place (body_of ps spot.at (length names) (n.one_value i) spot.line) → code ≡ code_at ps spot.at → FormsExpr ps a c (N.Function code) (p.arrow_value spot names (plain_expr x))
unfolding form_parts
arrow_form ps a b c place spot names x i code e h k q = record {
  adds = function_adds ps a b c place spot names (i ∷ []) one_value (expr_piece ps (count a) (plain_expr x)) e h k;
  form = ap (λ z. n.function z) q;
}

-- what a program lists

pub statement_item : (ps : List Mention) (a b : Emitter) (i : Item) (spot : Spot) (x : Stmt) (ms ks : List ℕ) (k : ℕ) → i ≡ Statement spot x → Emits a b (k ∷ []) (stmt_piece ps (count a) (plain_stmt x)) → ks ≡ ms ++ k ∷ []
    → EmitsMore a b ms ks (item_piece ps (count a) (plain_item i))
unfolding item_piece
statement_item ps a b i spot x ms ks k h e q = subst (λ z. EmitsMore a b ms ks (item_piece ps (count a) (plain_item z))) (sym h) (record { adds = e.adds; more = q ∙ ap (λ z. ms ++ z) e.parts })

pub function_item : {A E : Type 0} (r : Result A E) (ps : List Mention) (a b : Emitter) (i : Item) (spot : Spot) (name : Name) (v : Vec Name Global) (u : Vec Stmt Global) (names : List Name) (ss : List Stmt) (ms : List ℕ) → i ≡ Function spot name v u → names ≡ v.items → ss ≡ u.items
    → OnOk r (Adds a b (function_piece ps spot names n.statements (stmts_piece ps (count a) (stmts_of (map plain_stmt ss))))) → OnOk r (EmitsMore a b ms ms (item_piece ps (count a) (plain_item i)))
unfolding item_piece
function_item (Err y) ps a b i spot name v u names ss ms h d e k = tt
function_item (Ok y) ps a b i spot name v u names ss ms h d e k =
    let all : Adds a b (function_piece ps spot v.items n.statements (stmts_piece ps (count a) (stmts_of (map plain_stmt u.items)))) =
    subst (λ z. Adds a b (function_piece ps spot z n.statements (stmts_piece ps (count a) (stmts_of (map plain_stmt u.items))))) d
    (subst (λ z. Adds a b (function_piece ps spot names n.statements (stmts_piece ps (count a) (stmts_of (map plain_stmt z))))) e k) in
    subst (λ z. EmitsMore a b ms ms (item_piece ps (count a) (plain_item z))) (sym h) (record { adds = all; more = sym (append-nil ms) })
