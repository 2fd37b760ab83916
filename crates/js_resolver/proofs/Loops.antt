-- Loops over forms that stand one after the other: what is done and what is left make the whole.
use Rattle.std.proofs.Common.{◌≡◌, ℕ, ◌+◌, ◌<◌, ◌≤◌, List, [], ◌∷◌, ◌++◌, ◌∙◌, ap, refl, sym, subst, length, map, drop, get_or, Option, Some, None, Bool, append_assoc, append-nil}
use Rattle.std.specs.Prelude.{option_to_list, is_some}
use Rattle.std.proofs.lemmas.List.{drop_all, map-append}
use Rattle.js_data.proofs.Shared.{drop_at}
use Rattle.js_tree.specs.declared.tree.Expr.{Expr}
use Rattle.js_tree.specs.declared.tree.Field.{Field}
use Rattle.js_tree.specs.declared.tree.Declarator.{Declarator, out-Declarator}
use Rattle.js_tree.specs.declared.tree.Item.{Item}
use Rattle.js_tree.specs.declared.tree.Stmt.{Stmt}
use Rattle.js_tree.specs.Plain.{PlainField, PlainDeclarator, field_in, declarator_in, exprs_of, fields_of, declarators_of, stmts_of}
use Rattle.js_tree.specs.Views.{plain_expr, plain_field, plain_declarator, plain_stmt, plain_item}
use Rattle.js_program.specs.declared.node.Declared.{Declared}
use Rattle.js_program.specs.declared.node.Variable.{Variable}
use Rattle.js_program.specs.PlainProgram.{PlainDeclared}
use Rattle.js_program.specs.Views.{plain_declared}
use Rattle.js_names.specs.Mentions.{Mention}
use Rattle.js_names.specs.Entries.{is_present}
use Rattle.js_resolver.specs.declared.emitter.Emitter.{Emitter}
use Rattle.js_resolver.specs.Variables.{named_at}
use Rattle.js_resolver.specs.Pieces.{Piece, none, beside, after}
use Rattle.js_resolver.specs.NodeForms.{keys_of, perhaps_part, parts_after, declared_of}
use Rattle.js_resolver.specs.Nodes.{expr_piece, exprs_piece, fields_piece, perhaps_piece, declarators_piece, stmt_piece, stmts_piece, item_piece, items_piece}
use Rattle.js_resolver.specs.inner.Emits.{count, Adds, Emits, EmitsMore, EmitsDeclarators, EmitsPerhaps, Leaves, tree_perhaps}
use Rattle.js_resolver.proofs.Emitting.{counts, leaves_all, leaves_none, leaves_more, numbers_more}
use Rattle.js_tree.proofs.Forms.{field_is}
use Rattle.js_tree.proofs.Statements.{declarator_is}

-- and the numbers so far
pub record Remains (start now : Emitter) (numbers : List ℕ) (rest whole : Piece) : Type 0 where
  pub leaves : Leaves start now rest whole
  pub parts : numbers ++ rest.parts ≡ whole.parts

pub remains_all : (a : Emitter) (ns : List ℕ) (w : Piece) → ns ≡ [] → Remains a a ns w w
remains_all a ns w e = record { leaves = leaves_all a w; parts = ap (λ z. z ++ w.parts) e }

pub remains_none : (a b : Emitter) (ns : List ℕ) (w : Piece) → Remains a b ns none w → Emits a b ns w
remains_none a b ns w h = record { adds = leaves_none a b w h.leaves; parts = sym (append-nil ns) ∙ h.parts }

pub remains_more : (f : ℕ → Piece) (a b c : Emitter) (ms ns ks : List ℕ) (x w : Piece) → Remains a b ms (beside x (f (after (count b) x))) w → Adds b c x → ks ≡ ms ++ ns → ns ≡ x.parts → Remains a c ks (f (count c)) w
remains_more f a b c ms ns ks x w h k e p = record {
  leaves = leaves_more f a b c x w h.leaves k;
  parts = numbers_more f b c ms ns ks w.parts x h.parts e p k;
}

pub exprs_more : (ps : List Mention) (xs : List Expr) (i : ℕ) (d x : Expr) (a b c : Emitter) (ms ks : List ℕ) (n : ℕ) (w : Piece) → i < length xs → x ≡ get_or xs i d
    → Remains a b ms (exprs_piece ps (count b) (exprs_of (map plain_expr (drop i xs)))) w → Emits b c (n ∷ []) (expr_piece ps (count b) (plain_expr x)) → ks ≡ ms ++ n ∷ []
    → Remains a c ks (exprs_piece ps (count c) (exprs_of (map plain_expr (drop (i + 1) xs)))) w
unfolding exprs_piece
exprs_more ps xs i d x a b c ms ks n w h e r k q =
    remains_more (λ m. exprs_piece ps m (exprs_of (map plain_expr (drop (i + 1) xs)))) a b c ms (n ∷ []) ks (expr_piece ps (count b) (plain_expr x)) w
    (subst (λ z. Remains a b ms (exprs_piece ps (count b) (exprs_of (map plain_expr z))) w) (drop_at xs i d x h e) r) k.adds q k.parts

pub stmts_more : (ps : List Mention) (xs : List Stmt) (i : ℕ) (d x : Stmt) (a b c : Emitter) (ms ks : List ℕ) (n : ℕ) (w : Piece) → i < length xs → x ≡ get_or xs i d
    → Remains a b ms (stmts_piece ps (count b) (stmts_of (map plain_stmt (drop i xs)))) w → Emits b c (n ∷ []) (stmt_piece ps (count b) (plain_stmt x)) → ks ≡ ms ++ n ∷ []
    → Remains a c ks (stmts_piece ps (count c) (stmts_of (map plain_stmt (drop (i + 1) xs)))) w
unfolding stmts_piece
stmts_more ps xs i d x a b c ms ks n w h e r k q =
    remains_more (λ m. stmts_piece ps m (stmts_of (map plain_stmt (drop (i + 1) xs)))) a b c ms (n ∷ []) ks (stmt_piece ps (count b) (plain_stmt x)) w
    (subst (λ z. Remains a b ms (stmts_piece ps (count b) (stmts_of (map plain_stmt z))) w) (drop_at xs i d x h e) r) k.adds q k.parts

pub items_more : (ps : List Mention) (xs : List Item) (i : ℕ) (d x : Item) (a b c : Emitter) (ms ks : List ℕ) (w : Piece) → i < length xs → x ≡ get_or xs i d
    → Remains a b ms (items_piece ps (count b) (map plain_item (drop i xs))) w → EmitsMore b c ms ks (item_piece ps (count b) (plain_item x))
    → Remains a c ks (items_piece ps (count c) (map plain_item (drop (i + 1) xs))) w
unfolding items_piece
items_more ps xs i d x a b c ms ks w h e r k =
    remains_more (λ m. items_piece ps m (map plain_item (drop (i + 1) xs))) a b c ms (item_piece ps (count b) (plain_item x)).parts ks (item_piece ps (count b) (plain_item x)) w
    (subst (λ z. Remains a b ms (items_piece ps (count b) (map plain_item z)) w) (drop_at xs i d x h e) r) k.adds k.more refl

-- fields

field_next : (xs : List Field) (i : ℕ) (d x : Field) → i < length xs → x ≡ get_or xs i d → fields_of (map plain_field (drop i xs)) ≡ field_in x.key (plain_expr x.value) (fields_of (map plain_field (drop (i + 1) xs)))
field_next xs i d x h e =
    ap (λ z. fields_of (map plain_field z)) (drop_at xs i d x h e) ∙ ap (λ (z : PlainField). field_in z.key z.value (fields_of (map plain_field (drop (i + 1) xs)))) (field_is x)

pub fields_more : (ps : List Mention) (xs : List Field) (i : ℕ) (d x : Field) (a b c : Emitter) (ms ks : List ℕ) (n : ℕ) (w : Piece) → i < length xs → x ≡ get_or xs i d
    → Remains a b ms (fields_piece ps (count b) (fields_of (map plain_field (drop i xs)))) w → Emits b c (n ∷ []) (expr_piece ps (count b) (plain_expr x.value)) → ks ≡ ms ++ n ∷ []
    → Remains a c ks (fields_piece ps (count c) (fields_of (map plain_field (drop (i + 1) xs)))) w
unfolding fields_piece
fields_more ps xs i d x a b c ms ks n w h e r k q =
    remains_more (λ m. fields_piece ps m (fields_of (map plain_field (drop (i + 1) xs)))) a b c ms (n ∷ []) ks (expr_piece ps (count b) (plain_expr x.value)) w
    (subst (λ z. Remains a b ms (fields_piece ps (count b) z) w) (field_next xs i d x h e) r) k.adds q k.parts

pub fields_done : (ps : List Mention) (a b : Emitter) (ns : List ℕ) (rest : List Field) (w : Piece) → rest ≡ [] → Remains a b ns (fields_piece ps (count b) (fields_of (map plain_field rest))) w → Emits a b ns w
unfolding fields_piece
fields_done ps a b ns rest w e r = remains_none a b ns w (subst (λ z. Remains a b ns (fields_piece ps (count b) (fields_of (map plain_field z))) w) e r)

pub keys_more : (xs : List Field) (i : ℕ) (d x : Field) (ks ms w : List (List ℕ)) → i < length xs → x ≡ get_or xs i d → ks ++ keys_of (fields_of (map plain_field (drop i xs))) ≡ w → ms ≡ ks ++ x.key ∷ []
    → ms ++ keys_of (fields_of (map plain_field (drop (i + 1) xs))) ≡ w
keys_more xs i d x ks ms w h e inv q =
    let rest = keys_of (fields_of (map plain_field (drop (i + 1) xs))) in
    ap (λ z. z ++ rest) q ∙ (append_assoc ks (x.key ∷ []) rest ∙ (ap (λ z. ks ++ keys_of z) (sym (field_next xs i d x h e)) ∙ inv))

pub keys_done : (xs : List Field) (i : ℕ) (ks w : List (List ℕ)) → length xs ≤ i → ks ++ keys_of (fields_of (map plain_field (drop i xs))) ≡ w → ks ≡ w
keys_done xs i ks w h inv = sym (append-nil ks) ∙ (ap (λ z. ks ++ keys_of (fields_of (map plain_field z))) (sym (drop_all i xs h)) ∙ inv)

-- declarators

abbrev one_declared : Variable → Option ℕ → PlainDeclared
one_declared variable value = record { variable = variable; value = value }

part_is : (o : Option ℕ) (b : Bool) (ns : List ℕ) → is_some o ≡ b → perhaps_part b (option_to_list o ++ ns) ≡ o
part_is None b ns e = subst (λ z. perhaps_part z ns ≡ None) e refl
part_is (Some n) b ns e = subst (λ z. perhaps_part z (n ∷ ns) ≡ Some n) e refl

after_is : (o : Option ℕ) (b : Bool) (ns : List ℕ) → is_some o ≡ b → parts_after b (option_to_list o ++ ns) ≡ ns
after_is None b ns e = subst (λ z. parts_after z ns ≡ ns) e refl
after_is (Some n) b ns e = subst (λ z. parts_after z (n ∷ ns) ≡ ns) e refl

pub record RemainsDeclarators (ps : List Mention) (start now : Emitter) (declared : List Declared) (rest all : List Declarator) : Type 0 where
  pub leaves : Leaves start now (declarators_piece ps (count now) (declarators_of (map plain_declarator rest))) (declarators_piece ps (count start) (declarators_of (map plain_declarator all)))
  pub declared_are : map plain_declared declared ++ declared_of ps (declarators_of (map plain_declarator rest)) (declarators_piece ps (count now) (declarators_of (map plain_declarator rest))).parts
      ≡ declared_of ps (declarators_of (map plain_declarator all)) (declarators_piece ps (count start) (declarators_of (map plain_declarator all))).parts

pub declarators_more : (ps : List Mention) (xs : List Declarator) (i : ℕ) (d x : Declarator) (a b c : Emitter) (ms ks : List Declared) (m : Declared) → i < length xs → x ≡ get_or xs i d
    → RemainsDeclarators ps a b ms (drop i xs) xs → EmitsPerhaps b c m.value (is_present (tree_perhaps (out-Declarator x).value)) (perhaps_piece ps (count b) (tree_perhaps (out-Declarator x).value))
    → m.variable ≡ named_at ps (out-Declarator x).name.spot.at → ks ≡ ms ++ m ∷ []
    → RemainsDeclarators ps a c ks (drop (i + 1) xs) xs
unfolding declarators_piece
declarators_more ps xs i d x a b c ms ks m h e r k v q =
    let rest = drop (i + 1) xs in
    let ds = declarators_of (map plain_declarator rest) in
    let name = (out-Declarator x).name in
    let value = tree_perhaps (out-Declarator x).value in
    let end = (out-Declarator x).end in
    let px = perhaps_piece ps (count b) value in
    let py = declarators_piece ps (after (count b) px) ds in
    let is : declarators_of (map plain_declarator (drop i xs)) ≡ declarator_in name value end ds =
    ap (λ z. declarators_of (map plain_declarator z)) (drop_at xs i d x h e) ∙ ap (λ (z : PlainDeclarator). declarator_in z.name z.value z.end ds) (declarator_is x) in
    let all = declarators_of (map plain_declarator xs) in
    let w = declarators_piece ps (count a) all in
    let l : Leaves a b (beside px py) w = subst (λ z. Leaves a b (declarators_piece ps (count b) z) w) is r.leaves in
    let p : map plain_declared ms ++ declared_of ps (declarator_in name value end ds) (px.parts ++ py.parts) ≡ declared_of ps all w.parts =
    subst (λ z. map plain_declared ms ++ declared_of ps z (declarators_piece ps (count b) z).parts ≡ declared_of ps all w.parts) is r.declared_are in
    let one : one_declared (m.variable) (m.value) ∷ declared_of ps ds py.parts ≡ declared_of ps (declarator_in name value end ds) (px.parts ++ py.parts) =
    ap (λ z. one_declared (z) (m.value) ∷ declared_of ps ds py.parts) v
    ∙ (ap (λ z. one_declared (named_at ps name.spot.at) (z) ∷ declared_of ps ds py.parts) (sym (part_is m.value (is_present value) py.parts k.same))
    ∙ (ap (λ z. one_declared (named_at ps name.spot.at) (perhaps_part (is_present value) (option_to_list m.value ++ py.parts)) ∷ declared_of ps ds z) (sym (after_is m.value (is_present value) py.parts k.same))
    ∙ ap (λ z. declared_of ps (declarator_in name value end ds) (z ++ py.parts)) k.parts)) in
    record {
      leaves = leaves_more (λ n. declarators_piece ps n ds) a b c px w l k.adds;
      declared_are = ap (λ n. map plain_declared ks ++ declared_of ps ds (declarators_piece ps n ds).parts) (counts b c px k.adds)
          ∙ (ap (λ z. map plain_declared z ++ declared_of ps ds py.parts) q
          ∙ (ap (λ z. z ++ declared_of ps ds py.parts) (map-append plain_declared ms (m ∷ []))
          ∙ (append_assoc (map plain_declared ms) (map plain_declared (m ∷ [])) (declared_of ps ds py.parts)
          ∙ (ap (λ z. map plain_declared ms ++ z) one ∙ p))));
    }

pub declarators_all : (ps : List Mention) (a : Emitter) (ms : List Declared) (xs : List Declarator) → ms ≡ [] → RemainsDeclarators ps a a ms xs xs
declarators_all ps a ms xs e = record {
  leaves = leaves_all a (declarators_piece ps (count a) (declarators_of (map plain_declarator xs)));
  declared_are = ap (λ z. map plain_declared z ++ declared_of ps (declarators_of (map plain_declarator xs)) (declarators_piece ps (count a) (declarators_of (map plain_declarator xs))).parts) e;
}

pub declarators_none : (ps : List Mention) (a b : Emitter) (ms : List Declared) (rest xs : List Declarator) → rest ≡ [] → RemainsDeclarators ps a b ms rest xs → EmitsDeclarators ps a b ms xs
unfolding declarators_piece
declarators_none ps a b ms rest xs e r =
    let h : RemainsDeclarators ps a b ms [] xs = subst (λ z. RemainsDeclarators ps a b ms z xs) e r in
    record { adds = leaves_none a b (declarators_piece ps (count a) (declarators_of (map plain_declarator xs))) h.leaves; declared_are = sym (append-nil (map plain_declared ms)) ∙ h.declared_are }

-- the ends of the loops

pub exprs_done : (ps : List Mention) (a b : Emitter) (ns : List ℕ) (rest : List Expr) (w : Piece) → rest ≡ [] → Remains a b ns (exprs_piece ps (count b) (exprs_of (map plain_expr rest))) w → Emits a b ns w
unfolding exprs_piece
exprs_done ps a b ns rest w e r = remains_none a b ns w (subst (λ z. Remains a b ns (exprs_piece ps (count b) (exprs_of (map plain_expr z))) w) e r)

pub stmts_done : (ps : List Mention) (a b : Emitter) (ns : List ℕ) (rest : List Stmt) (w : Piece) → rest ≡ [] → Remains a b ns (stmts_piece ps (count b) (stmts_of (map plain_stmt rest))) w → Emits a b ns w
unfolding stmts_piece
stmts_done ps a b ns rest w e r = remains_none a b ns w (subst (λ z. Remains a b ns (stmts_piece ps (count b) (stmts_of (map plain_stmt z))) w) e r)

pub items_done : (ps : List Mention) (a b : Emitter) (ns : List ℕ) (rest : List Item) (w : Piece) → rest ≡ [] → Remains a b ns (items_piece ps (count b) (map plain_item rest)) w → Emits a b ns w
unfolding items_piece
items_done ps a b ns rest w e r = remains_none a b ns w (subst (λ z. Remains a b ns (items_piece ps (count b) (map plain_item z)) w) e r)
