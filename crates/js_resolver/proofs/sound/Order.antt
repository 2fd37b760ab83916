-- Each part of a node has a smaller number than the node.
use Rattle.std.proofs.Common.{◌≡◌, ℕ, suc, ◌+◌, ◌<◌, ◌≤◌, List, [], ◌∷◌, ◌++◌, refl, subst, length, length-append, arith, Option, Some, None, Bool, true, false, if◌then◌else◌}
use Rattle.std.proofs.lemmas.Bool.{lt-ltb, false≢true, and_parts, and_from}
use Rattle.std.specs.Prelude.{is_some, nat_lt}
use Rattle.js_tree.specs.declared.tree.Name.{Name}
use Rattle.js_tree.specs.declared.tree.Spot.{Spot}
use Rattle.js_tree.specs.Plain as t
use Rattle.js_tree.specs.Plain.{PlainExpr, PlainForm, PlainExprs, PlainFields, PlainPerhaps, PlainDeclarators, PlainStart, PlainStmt, PlainStmtForm, PlainStmts, PlainItem}
use Rattle.js_program.specs.declared.builtin.Builtin.{Builtin}
use Rattle.js_program.specs.PlainProgram as n
use Rattle.js_program.specs.PlainProgram.{PlainNodeForm, PlainNode, PlainContent, parts_of}
use Rattle.js_program.specs.Sound.{ordered}
use Rattle.js_names.specs.Entries.{is_present}
use Rattle.js_names.specs.Forms.{called_builtin, value_builtin}
use Rattle.js_names.specs.Mentions.{Mention, mentions}
use Rattle.js_resolver.specs.Pieces.{Piece, none, beside, after, closed, function_piece, one_value}
use Rattle.js_resolver.specs.NodeForms.{method_of, is_division, begins_with_division, is_floor, floors_division, expr_node, declared_of, has_start, stmt_node}
use Rattle.js_resolver.specs.Nodes.{expr_piece, expr_parts, form_parts, exprs_piece, arguments_piece, fields_piece, perhaps_piece, declarators_piece, start_piece, stmt_piece, stmt_parts, stmts_piece, item_piece, items_piece}
use Rattle.js_resolver.specs.Resolved.{program_of_tree}
use Rattle.js_resolver.proofs.sound.Parts.{Every, every_append, every_more, every_all, form_need, expr_need, truth_need, declared_need, stmt_need, kept_expr, kept_declared, kept_stmt}

abbrev pub InOrder : ℕ → List PlainNode → Type 0
InOrder i [] = Unit {0}
InOrder i (x ∷ xs) = Every (λ k. k < i) (parts_of x.form) × InOrder (suc i) xs

-- a piece from b on: it has this many parts at least, which lie below its end, and its nodes are in order
pub record IsOrderly (b need : ℕ) (x : Piece) : Type 0 where
  pub count : need ≤ length x.parts
  pub below : Every (λ k. k < after b x) x.parts
  pub order : InOrder b x.nodes

in_order-along : (i j : ℕ) (xs : List PlainNode) → i ≡ j → InOrder i xs → InOrder j xs
in_order-along i j xs e h = subst (λ k. InOrder k xs) e h

in_order-append : (i : ℕ) (xs ys : List PlainNode) → InOrder i xs → InOrder (i + length xs) ys → InOrder i (xs ++ ys)
in_order-append i [] ys h k = in_order-along (i + 0) i ys (omega arith) k
in_order-append i (x ∷ xs) ys h k = (h.0, in_order-append (suc i) xs ys h.1 (in_order-along (i + length (x ∷ xs)) (suc i + length xs) ys (omega arith) k))

every_below : (m n : ℕ) (xs : List ℕ) → m ≤ n → Every (λ k. k < m) xs → Every (λ k. k < n) xs
every_below m n xs h a = every_more (λ k. k < m) (λ k. k < n) xs (λ k l. omega arith) a

pub orderly_none : (b : ℕ) → IsOrderly b 0 none
orderly_none b = record { count = omega arith; below = tt; order = tt }

pub orderly_fewer : (b k j : ℕ) (x : Piece) → k ≤ j → IsOrderly b j x → IsOrderly b k x
orderly_fewer b k j x l h = record { count = omega (arith, h.count); below = h.below; order = h.order }

pub orderly_beside : (b j k : ℕ) (x y : Piece) → IsOrderly b j x → IsOrderly (after b x) k y → IsOrderly b (j + k) (beside x y)
orderly_beside b j k x y h g =
    let e : length (x.nodes ++ y.nodes) ≡ length x.nodes + length y.nodes = length-append x.nodes y.nodes in
    let d : length (x.parts ++ y.parts) ≡ length x.parts + length y.parts = length-append x.parts y.parts in
    let hc : j ≤ length x.parts = h.count in
    let gc : k ≤ length y.parts = g.count in
    record {
      count = omega arith;
      below = every_append (λ k. k < after b (beside x y)) x.parts y.parts (every_below (after b x) (after b (beside x y)) x.parts (omega arith) h.below) (every_below (after (after b x) y) (after b (beside x y)) y.parts (omega arith) g.below);
      order = in_order-append b x.nodes y.nodes h.order g.order;
    }

pub orderly_closed : (b line : ℕ) (need : ℕ) (form : List ℕ → PlainNodeForm) (x : Piece) → IsOrderly b need x → Every (λ k. k < after b x) (parts_of (form x.parts)) → IsOrderly b 1 (closed b line form x)
orderly_closed b line need form x h g =
    let node : PlainNode = record { line = line; form = form x.parts } in
    let e : length (x.nodes ++ node ∷ []) ≡ length x.nodes + length (node ∷ []) = length-append x.nodes (node ∷ []) in
    record { count = omega arith; below = (omega arith, tt); order = in_order-append b x.nodes (node ∷ []) h.order (g, tt) }

pub orderly_function : (b need : ℕ) (ps : List Mention) (spot : Spot) (names : List Name) (content : List ℕ → PlainContent) (x : Piece) → IsOrderly b need x → IsOrderly b 0 (function_piece ps spot names content x)
orderly_function b need ps spot names content x h = record { count = omega arith; below = tt; order = h.order }

-- a function that is called as a method is a part
method_need : (e : PlainExpr) → is_some (method_of e) ≡ true → 1 ≤ expr_need e
method_need (t.at parens line (t.member e word)) h =
    elim (is_some (value_builtin e word)) as (λ b. is_some (if b then None else Some word) ≡ true → 1 ≤ (if b then 0 else 1)) [ true ↦ λ k. absurd (false≢true k) | false ↦ λ k. omega arith ] h
method_need (t.at parens line _) h = absurd (false≢true h)

division_need : (e : PlainExpr) → is_division e ≡ true → 2 ≤ expr_need e
division_need (t.at parens line (t.binary op l r)) h = omega arith
division_need (t.at parens line _) h = absurd (false≢true h)

-- the part that a call calls
call_head : (b : ℕ) (o : Option Builtin) (w : Bool) (x y : Piece) (need : ℕ) → (w ≡ true → 1 ≤ need) → IsOrderly b 1 x → IsOrderly b need y → IsOrderly b (if is_some o then 0 else 1) (if is_some o then none else (if w then y else x))
call_head b (Some f) w x y need m h g = orderly_none b
call_head b None true x y need m h g = orderly_fewer b 1 need y (m refl) g
call_head b None false x y need m h g = h

floors_begin : (o : Option Builtin) (es : PlainExprs) → floors_division o es ≡ true → begins_with_division es ≡ true
floors_begin None es h = absurd (false≢true h)
floors_begin (Some f) es h = (and_parts (is_floor f) (begins_with_division es) h).1

argument_head : (b : ℕ) (opens : Bool) (x y : Piece) (need : ℕ) → (opens ≡ true → 2 ≤ need) → IsOrderly b 1 x → IsOrderly b need y → IsOrderly b (if opens then 2 else 0) (if opens then y else x)
argument_head b true x y need m h g = orderly_fewer b 2 need y (m refl) g
argument_head b false x y need m h g = orderly_fewer b 0 1 x (omega arith) h

no_arguments : (b : ℕ) (opens : Bool) → (opens ≡ true → false ≡ true) → IsOrderly b (if opens then 2 else 0) none
no_arguments b true h = absurd (false≢true (h refl))
no_arguments b false h = orderly_none b

member_head : (b : ℕ) (o : Option Builtin) (x : Piece) → IsOrderly b 1 x → IsOrderly b (if is_some o then 0 else 1) (if is_some o then none else x)
member_head b (Some f) x h = orderly_none b
member_head b None x h = h

orderly_also : (b j k : ℕ) (x y : Piece) → IsOrderly b j x → IsOrderly (after b x) k y → IsOrderly b j (beside x y)
orderly_also b j k x y h g = orderly_fewer b j (j + k) (beside x y) (omega arith) (orderly_beside b j k x y h g)

mutual
  unfolding expr_piece expr_parts form_parts exprs_piece arguments_piece fields_piece perhaps_piece declarators_piece start_piece stmt_piece stmt_parts stmts_piece

  pub expr_orderly : (ps : List Mention) (b : ℕ) (e : PlainExpr) → IsOrderly b 1 (expr_piece ps b e)
  expr_orderly ps b (t.at parens line form) =
      let h = form_orderly ps b form in
      orderly_closed b line (form_need form) (expr_node ps form) (form_parts ps b form) h (kept_expr (λ k. k < after b (form_parts ps b form)) ps form (form_parts ps b form).parts h.count h.below)

  pub parts_orderly : (ps : List Mention) (b : ℕ) (e : PlainExpr) → IsOrderly b (expr_need e) (expr_parts ps b e)
  parts_orderly ps b (t.at parens line form) = form_orderly ps b form

  pub form_orderly : (ps : List Mention) (b : ℕ) (form : PlainForm) → IsOrderly b (form_need form) (form_parts ps b form)
  form_orderly ps b (t.number i) = orderly_none b
  form_orderly ps b (t.text text) = orderly_none b
  form_orderly ps b (t.truth v) = orderly_none b
  form_orderly ps b t.null = orderly_none b
  form_orderly ps b (t.use_of name) = orderly_none b
  form_orderly ps b (t.list es) = exprs_orderly ps b es
  form_orderly ps b (t.fields fs) = fields_orderly ps b fs
  form_orderly ps b (t.member e word) = member_head b (value_builtin e word) (expr_piece ps b e) (expr_orderly ps b e)
  form_orderly ps b (t.index e i) = let x = expr_piece ps b e in orderly_beside b 1 1 x (expr_piece ps (after b x) i) (expr_orderly ps b e) (expr_orderly ps (after b x) i)
  form_orderly ps b (t.call e es) =
      let o = called_builtin e in
      let x = if is_some o then none else (if is_some (method_of e) then expr_parts ps b e else expr_piece ps b e) in
      orderly_beside b (if is_some o then 0 else 1) (if floors_division o es then 2 else 0) x (arguments_piece ps (after b x) (floors_division o es) es)
      (call_head b o (is_some (method_of e)) (expr_piece ps b e) (expr_parts ps b e) (expr_need e) (method_need e) (expr_orderly ps b e) (parts_orderly ps b e))
      (arguments_orderly ps (after b x) (floors_division o es) es (floors_begin o es))
  form_orderly ps b (t.unary s e) = expr_orderly ps b e
  form_orderly ps b (t.update s f name) = orderly_none b
  form_orderly ps b (t.binary op l r) = let x = expr_piece ps b l in orderly_beside b 1 1 x (expr_piece ps (after b x) r) (expr_orderly ps b l) (expr_orderly ps (after b x) r)
  form_orderly ps b (t.conditional l m r) =
      let x = expr_piece ps b l in
      let y = beside x (expr_piece ps (after b x) m) in
      orderly_beside b 2 1 y (expr_piece ps (after b y) r) (orderly_beside b 1 1 x (expr_piece ps (after b x) m) (expr_orderly ps b l) (expr_orderly ps (after b x) m)) (expr_orderly ps (after b y) r)
  form_orderly ps b (t.assign op name e) = expr_orderly ps b e
  form_orderly ps b (t.arrow_value spot names e) = orderly_function b 1 ps spot names one_value (expr_piece ps b e) (expr_orderly ps b e)
  form_orderly ps b (t.arrow_block spot names ss) = orderly_function b 0 ps spot names n.statements (stmts_piece ps b ss) (stmts_orderly ps b ss)
  form_orderly ps b (t.function spot names ss) = orderly_function b 0 ps spot names n.statements (stmts_piece ps b ss) (stmts_orderly ps b ss)

  pub exprs_orderly : (ps : List Mention) (b : ℕ) (es : PlainExprs) → IsOrderly b 0 (exprs_piece ps b es)
  exprs_orderly ps b t.no_exprs = orderly_none b
  exprs_orderly ps b (t.expr_in e es) =
      let x = expr_piece ps b e in orderly_fewer b 0 1 (beside x (exprs_piece ps (after b x) es)) (omega arith) (orderly_also b 1 0 x (exprs_piece ps (after b x) es) (expr_orderly ps b e) (exprs_orderly ps (after b x) es))

  pub arguments_orderly : (ps : List Mention) (b : ℕ) (opens : Bool) (es : PlainExprs) → (opens ≡ true → begins_with_division es ≡ true) → IsOrderly b (if opens then 2 else 0) (arguments_piece ps b opens es)
  arguments_orderly ps b opens t.no_exprs d = no_arguments b opens d
  arguments_orderly ps b opens (t.expr_in e es) d =
      let x = if opens then expr_parts ps b e else expr_piece ps b e in
      orderly_also b (if opens then 2 else 0) 0 x (exprs_piece ps (after b x) es)
      (argument_head b opens (expr_piece ps b e) (expr_parts ps b e) (expr_need e) (λ h. division_need e (d h)) (expr_orderly ps b e) (parts_orderly ps b e))
      (exprs_orderly ps (after b x) es)

  pub fields_orderly : (ps : List Mention) (b : ℕ) (fs : PlainFields) → IsOrderly b 0 (fields_piece ps b fs)
  fields_orderly ps b t.no_fields = orderly_none b
  fields_orderly ps b (t.field_in key e fs) =
      let x = expr_piece ps b e in orderly_fewer b 0 1 (beside x (fields_piece ps (after b x) fs)) (omega arith) (orderly_also b 1 0 x (fields_piece ps (after b x) fs) (expr_orderly ps b e) (fields_orderly ps (after b x) fs))

  pub perhaps_orderly : (ps : List Mention) (b : ℕ) (e : PlainPerhaps) → IsOrderly b (truth_need (is_present e)) (perhaps_piece ps b e)
  perhaps_orderly ps b t.absent = orderly_none b
  perhaps_orderly ps b (t.present e) = expr_orderly ps b e

  pub declarators_orderly : (ps : List Mention) (b : ℕ) (ds : PlainDeclarators) → IsOrderly b (declared_need ds) (declarators_piece ps b ds)
  declarators_orderly ps b t.no_declarators = orderly_none b
  declarators_orderly ps b (t.declarator_in name value end ds) =
      let x = perhaps_piece ps b value in
      orderly_beside b (truth_need (is_present value)) (declared_need ds) x (declarators_piece ps (after b x) ds) (perhaps_orderly ps b value) (declarators_orderly ps (after b x) ds)

  pub start_orderly : (ps : List Mention) (b : ℕ) (s : PlainStart) → IsOrderly b (truth_need (has_start s)) (start_piece ps b s)
  start_orderly ps b t.nothing = orderly_none b
  start_orderly ps b (t.declared line kind ds) =
      let x = declarators_piece ps b ds in
      let h = declarators_orderly ps b ds in
      orderly_closed b line (declared_need ds) (λ parts. n.declaration kind (declared_of ps ds parts)) x h (kept_declared (λ k. k < after b x) ps ds x.parts h.count h.below)
  start_orderly ps b (t.started e) = expr_orderly ps b e

  pub stmt_orderly : (ps : List Mention) (b : ℕ) (s : PlainStmt) → IsOrderly b 1 (stmt_piece ps b s)
  stmt_orderly ps b (t.on line form) =
      let h = stmt_form_orderly ps b form in
      orderly_closed b line (stmt_need form) (stmt_node ps form) (stmt_parts ps b form) h (kept_stmt (λ k. k < after b (stmt_parts ps b form)) ps form (stmt_parts ps b form).parts h.count h.below)

  pub stmt_form_orderly : (ps : List Mention) (b : ℕ) (form : PlainStmtForm) → IsOrderly b (stmt_need form) (stmt_parts ps b form)
  stmt_form_orderly ps b t.empty = orderly_none b
  stmt_form_orderly ps b (t.block ss) = stmts_orderly ps b ss
  stmt_form_orderly ps b (t.declaration kind ds) = declarators_orderly ps b ds
  stmt_form_orderly ps b (t.expression e) = expr_orderly ps b e
  stmt_form_orderly ps b (t.if_alone e s) = let x = expr_piece ps b e in orderly_beside b 1 1 x (stmt_piece ps (after b x) s) (expr_orderly ps b e) (stmt_orderly ps (after b x) s)
  stmt_form_orderly ps b (t.if_else e s other) =
      let x = expr_piece ps b e in
      let y = beside x (stmt_piece ps (after b x) s) in
      orderly_beside b 2 1 y (stmt_piece ps (after b y) other) (orderly_beside b 1 1 x (stmt_piece ps (after b x) s) (expr_orderly ps b e) (stmt_orderly ps (after b x) s)) (stmt_orderly ps (after b y) other)
  stmt_form_orderly ps b (t.while_of e s) = let x = expr_piece ps b e in orderly_beside b 1 1 x (stmt_piece ps (after b x) s) (expr_orderly ps b e) (stmt_orderly ps (after b x) s)
  stmt_form_orderly ps b (t.for_three start test next s) =
      let x = start_piece ps b start in
      let y = beside x (perhaps_piece ps (after b x) test) in
      let z = beside y (perhaps_piece ps (after b y) next) in
      let a = truth_need (has_start start) in
      let c = truth_need (is_present test) in
      let d = truth_need (is_present next) in
      orderly_beside b ((a + c) + d) 1 z (stmt_piece ps (after b z) s)
      (orderly_beside b (a + c) d y (perhaps_piece ps (after b y) next) (orderly_beside b a c x (perhaps_piece ps (after b x) test) (start_orderly ps b start) (perhaps_orderly ps (after b x) test)) (perhaps_orderly ps (after b y) next))
      (stmt_orderly ps (after b z) s)
  stmt_form_orderly ps b (t.for_of kind name e s) = let x = expr_piece ps b e in orderly_beside b 1 1 x (stmt_piece ps (after b x) s) (expr_orderly ps b e) (stmt_orderly ps (after b x) s)
  stmt_form_orderly ps b (t.break_of spot) = orderly_none b
  stmt_form_orderly ps b (t.continue_of spot) = orderly_none b
  stmt_form_orderly ps b (t.return_nothing spot) = orderly_none b
  stmt_form_orderly ps b (t.return_of spot e) = expr_orderly ps b e

  pub stmts_orderly : (ps : List Mention) (b : ℕ) (ss : PlainStmts) → IsOrderly b 0 (stmts_piece ps b ss)
  stmts_orderly ps b t.no_stmts = orderly_none b
  stmts_orderly ps b (t.stmt_in s ss) =
      let x = stmt_piece ps b s in orderly_fewer b 0 1 (beside x (stmts_piece ps (after b x) ss)) (omega arith) (orderly_also b 1 0 x (stmts_piece ps (after b x) ss) (stmt_orderly ps b s) (stmts_orderly ps (after b x) ss))

pub item_orderly : (ps : List Mention) (b : ℕ) (i : PlainItem) → IsOrderly b 0 (item_piece ps b i)
unfolding item_piece
item_orderly ps b (t.statement spot s) = orderly_fewer b 0 1 (stmt_piece ps b s) (omega arith) (stmt_orderly ps b s)
item_orderly ps b (t.function_of spot name names ss) = orderly_function b 0 ps spot names n.statements (stmts_piece ps b ss) (stmts_orderly ps b ss)

pub items_orderly : (ps : List Mention) (b : ℕ) (is : List PlainItem) → IsOrderly b 0 (items_piece ps b is)
unfolding items_piece
items_orderly ps b [] = orderly_none b
items_orderly ps b (i ∷ is) = let x = item_piece ps b i in orderly_beside b 0 0 x (items_piece ps (after b x) is) (item_orderly ps b i) (items_orderly ps (after b x) is)

in_order-ordered : (i : ℕ) (xs : List PlainNode) → InOrder i xs → ordered i xs ≡ true
unfolding ordered
in_order-ordered i [] h = refl
in_order-ordered i (x ∷ xs) h = and_from _ _ (every_all (λ k. nat_lt k i) (parts_of x.form) (every_more (λ k. k < i) (λ k. nat_lt k i ≡ true) (parts_of x.form) (λ k l. lt-ltb k i l) h.0)) (in_order-ordered (suc i) xs h.1)

-- the parts of each node of a tree's program are smaller than the node
pub program_ordered : (items : List PlainItem) → ordered 0 (program_of_tree items).nodes ≡ true
unfolding program_of_tree
program_ordered items = let x = items_piece (mentions items) 0 items in in_order-ordered 0 x.nodes (items_orderly (mentions items) 0 items).order
