-- The functions of a program stand in the order of the offsets where they begin.
use Rattle.std.proofs.Common.{◌≡◌, ◌∙◌, ℕ, List, [], ◌∷◌, ◌++◌, refl, ap, sym, subst, map, append_assoc, Option, Some, None, Bool, true, false, if◌then◌else◌}
use Rattle.std.proofs.lemmas.List.{map-append}
use Rattle.std.proofs.lemmas.Bool.{false≢true}
use Rattle.std.specs.Prelude.{is_some}
use Rattle.std.specs.List.{flat_map}
use Rattle.js_data.proofs.Shared.{kept-append}
use Rattle.js_tree.specs.declared.tree.Name.{Name}
use Rattle.js_tree.specs.declared.tree.Spot.{Spot}
use Rattle.js_tree.specs.declared.tree.DeclareKind.{DeclareKind}
use Rattle.js_tree.specs.Plain as t
use Rattle.js_tree.specs.Plain.{PlainExpr, PlainForm, PlainExprs, PlainFields, PlainPerhaps, PlainDeclarators, PlainStart, PlainStmt, PlainStmtForm, PlainStmts, PlainItem}
use Rattle.js_tree.specs.Nesting.{is_object}
use Rattle.js_program.specs.declared.builtin.Builtin.{Builtin}
use Rattle.js_program.specs.PlainProgram as n
use Rattle.js_program.specs.PlainProgram.{PlainBody, PlainContent}
use Rattle.js_names.specs.declared.mention.Around.{Around}
use Rattle.js_names.specs.declared.mention.What.{What}
use Rattle.js_names.specs.Entries.{top}
use Rattle.js_names.specs.Scopes.{Scope, block_scope, for_three_scope, list_scope, for_of_scope, function_scope}
use Rattle.js_names.specs.Forms.{is_undefined, is_reserved, object_of, called_builtin, value_builtin}
use Rattle.js_names.specs.Unresolved.{Unresolved, one_mention, read_mention, assign_mention, member_mentions, in_function, in_loop, begin_mention, parameter_mentions, expr_mentions, form_mentions, exprs_mentions, fields_mentions, perhaps_mentions, declarators_mentions, start_mentions, stmt_mentions, stmt_form_mentions, stmts_mentions, item_mentions}
use Rattle.js_names.specs.Mentions.{Mention}
use Rattle.js_names.specs.Slots.{is_begin}
use Rattle.js_resolver.specs.Variables.{capture_slots, body_of}
use Rattle.js_resolver.specs.Pieces.{Piece, none, beside, after, function_piece, one_value}
use Rattle.js_resolver.specs.NodeForms.{method_of, floors_division}
use Rattle.js_resolver.specs.Nodes.{expr_piece, expr_parts, form_parts, exprs_piece, arguments_piece, fields_piece, perhaps_piece, declarators_piece, start_piece, stmt_piece, stmt_parts, stmts_piece, item_piece, items_piece}

-- the functions that begin at some offsets
abbrev pub begun : List Unresolved → List ℕ
begun [] = []
begun (s ∷ ss) = if is_begin s.what then s.around.owner ∷ begun ss else begun ss

pub begun-append : (xs ys : List Unresolved) → begun (xs ++ ys) ≡ begun xs ++ begun ys
begun-append xs ys = kept-append begun (λ x. is_begin x.what) (λ x. x.around.owner) refl (λ _ _. refl) xs ys

abbrev pub captures_in_order : List PlainBody → List (List ℕ)
captures_in_order bodies = map (λ (c : PlainBody). c.captures) bodies

-- the functions of a piece are those that begin at these offsets
abbrev pub Lists : List Mention → List Unresolved → Piece → Type 0
Lists ps ms x = captures_in_order x.functions ≡ map (capture_slots ps) (begun ms)

listed_beside : (ps : List Mention) (r s : List Unresolved) (x y : Piece) → Lists ps r x → Lists ps s y → Lists ps (r ++ s) (beside x y)
listed_beside ps r s x y h k =
    map-append (λ (c : PlainBody). c.captures) x.functions y.functions
    ∙ (ap (λ z. z ++ captures_in_order y.functions) h
    ∙ (ap (λ z. map (capture_slots ps) (begun r) ++ z) k
    ∙ (sym (map-append (capture_slots ps) (begun r) (begun s)) ∙ ap (map (capture_slots ps)) (sym (begun-append r s)))))

listed_three : (ps : List Mention) (q r s : List Unresolved) (x y z : Piece) → Lists ps q x → Lists ps r y → Lists ps s z → Lists ps (q ++ (r ++ s)) (beside (beside x y) z)
listed_three ps q r s x y z h k l = subst (λ ms. Lists ps ms (beside (beside x y) z)) (append_assoc q r s) (listed_beside ps (q ++ r) s (beside x y) z (listed_beside ps q r x y h k) l)

listed_four : (ps : List Mention) (q r s u : List Unresolved) (x y z w : Piece) → Lists ps q x → Lists ps r y → Lists ps s z → Lists ps u w → Lists ps (q ++ (r ++ (s ++ u))) (beside (beside (beside x y) z) w)
listed_four ps q r s u x y z w h k l m =
    subst (λ ms. Lists ps ms (beside (beside (beside x y) z) w)) (append_assoc q r (s ++ u))
    (listed_three ps (q ++ r) s u (beside x y) z w (listed_beside ps q r x y h k) l m)

pub begun-parameters : (scopes : List Scope) (a : Around) (names : List Name) → begun (parameter_mentions scopes a names) ≡ []
begun-parameters scopes a [] = refl
begun-parameters scopes a (x ∷ xs) = begun-parameters scopes a xs

listed_function : (ps : List Mention) (scopes : List Scope) (spot : Spot) (names : List Name) (content : List ℕ → PlainContent) (ms : List Unresolved) (x : Piece)
    → Lists ps ms x → Lists ps (begin_mention scopes spot.at spot ++ (parameter_mentions scopes (in_function spot.at) names ++ ms)) (function_piece ps spot names content x)
unfolding body_of
listed_function ps scopes spot names content ms x h =
    ap (λ z. capture_slots ps spot.at ∷ z)
    (h ∙ ap (map (capture_slots ps)) (sym (begun-append (parameter_mentions scopes (in_function spot.at) names) ms ∙ ap (λ z. z ++ begun ms) (begun-parameters scopes (in_function spot.at) names))))

-- where no function begins
listed_none : (ps : List Mention) (ms : List Unresolved) (x : Piece) → begun ms ≡ [] → x.functions ≡ [] → Lists ps ms x
listed_none ps ms x h k = ap captures_in_order k ∙ ap (map (capture_slots ps)) (sym h)

begun-read : (scopes : List Scope) (a : Around) (name : Name) → begun (read_mention scopes a name) ≡ []
begun-read scopes a name =
    elim (is_object name.text) as (λ b. begun (if b then one_mention scopes a What.Misuses name else (if is_undefined name.text then [] else one_mention scopes a What.Reads name)) ≡ [])
    [ true ↦ refl | false ↦ elim (is_undefined name.text) as (λ b. begun (if b then [] else one_mention scopes a What.Reads name) ≡ []) [ true ↦ refl | false ↦ refl ] ]

begun-assign : (scopes : List Scope) (a : Around) (name : Name) → begun (assign_mention scopes a name) ≡ []
begun-assign scopes a name = elim (is_reserved name.text) as (λ b. begun (if b then one_mention scopes a What.Misuses name else one_mention scopes a What.Assigns name) ≡ []) [ true ↦ refl | false ↦ refl ]

-- a member: what stands before the dot, unless that is a form or a use of its owner
listed_member : (ps : List Mention) (scopes : List Scope) (a : Around) (object : Option Name) (word : List ℕ) (is_value : Bool) (ms : List Unresolved) (x : Piece)
    → (is_some object ≡ true → x.functions ≡ []) → (is_value ≡ true → begun ms ≡ []) → Lists ps ms x → Lists ps (member_mentions scopes a object word is_value ms) (if is_value then none else x)
listed_member ps scopes a None word true ms x f g h = listed_none ps ms none (g refl) refl
listed_member ps scopes a None word false ms x f g h = h
listed_member ps scopes a (Some object) word true ms x f g h = refl
listed_member ps scopes a (Some object) word false ms x f g h = ap captures_in_order (f refl)

begun-log : (scopes : List Scope) (a : Around) (name : Name) (word : List ℕ) (object : Option Name) (is_value : Bool) → begun (member_mentions scopes a object word is_value (read_mention scopes a name)) ≡ []
begun-log scopes a name word None is_value = begun-read scopes a name
begun-log scopes a name word (Some object) true = refl
begun-log scopes a name word (Some object) false = refl

-- no function begins in the owner of a form
begun-value : (scopes : List Scope) (a : Around) (e : PlainExpr) (word : List ℕ) → is_some (value_builtin e word) ≡ true → begun (expr_mentions scopes a e) ≡ []
unfolding expr_mentions form_mentions
begun-value scopes a (t.at parens line (t.use_of name)) word h = begun-read scopes a name
begun-value scopes a (t.at parens line (t.member (t.at p l (t.use_of name)) w)) word h = begun-log scopes a name w (object_of (t.at p l (t.use_of name))) (is_some (value_builtin (t.at p l (t.use_of name)) w))
begun-value scopes a (t.at parens line (t.member (t.at p l form) w)) word h = absurd (false≢true h)
begun-value scopes a (t.at parens line form) word h = absurd (false≢true h)

object_piece : (ps : List Mention) (b : ℕ) (e : PlainExpr) → is_some (object_of e) ≡ true → (expr_piece ps b e).functions ≡ []
unfolding expr_piece form_parts
object_piece ps b (t.at parens line (t.use_of name)) h = refl
object_piece ps b (t.at parens line form) h = absurd (false≢true h)

listed_head : (ps : List Mention) (o : Option Builtin) (w : Bool) (ms : List Unresolved) (x y : Piece) → Lists ps ms x → Lists ps ms y → Lists ps (if is_some o then [] else ms) (if is_some o then none else (if w then y else x))
listed_head ps (Some f) w ms x y h k = refl
listed_head ps None true ms x y h k = k
listed_head ps None false ms x y h k = h

listed_argument : (ps : List Mention) (opens : Bool) (ms : List Unresolved) (x y : Piece) → Lists ps ms x → Lists ps ms y → Lists ps ms (if opens then y else x)
listed_argument ps true ms x y h k = k
listed_argument ps false ms x y h k = h

mutual
  unfolding expr_piece expr_parts form_parts exprs_piece arguments_piece fields_piece perhaps_piece declarators_piece start_piece stmt_piece stmt_parts stmts_piece expr_mentions form_mentions exprs_mentions fields_mentions perhaps_mentions declarators_mentions start_mentions stmt_mentions stmt_form_mentions stmts_mentions

  pub expr_listed : (ps : List Mention) (scopes : List Scope) (a : Around) (b : ℕ) (e : PlainExpr) → Lists ps (expr_mentions scopes a e) (expr_piece ps b e)
  expr_listed ps scopes a b (t.at parens line form) = form_listed ps scopes a b form

  pub parts_listed : (ps : List Mention) (scopes : List Scope) (a : Around) (b : ℕ) (e : PlainExpr) → Lists ps (expr_mentions scopes a e) (expr_parts ps b e)
  parts_listed ps scopes a b (t.at parens line form) = form_listed ps scopes a b form

  pub form_listed : (ps : List Mention) (scopes : List Scope) (a : Around) (b : ℕ) (form : PlainForm) → Lists ps (form_mentions scopes a form) (form_parts ps b form)
  form_listed ps scopes a b (t.number i) = refl
  form_listed ps scopes a b (t.text text) = refl
  form_listed ps scopes a b (t.truth v) = refl
  form_listed ps scopes a b t.null = refl
  form_listed ps scopes a b (t.use_of name) = listed_none ps (read_mention scopes a name) none (begun-read scopes a name) refl
  form_listed ps scopes a b (t.list es) = exprs_listed ps scopes a b es
  form_listed ps scopes a b (t.fields fs) = fields_listed ps scopes a b fs
  form_listed ps scopes a b (t.member e word) =
      listed_member ps scopes a (object_of e) word (is_some (value_builtin e word)) (expr_mentions scopes a e) (expr_piece ps b e) (object_piece ps b e) (begun-value scopes a e word) (expr_listed ps scopes a b e)
  form_listed ps scopes a b (t.index e i) =
      let x = expr_piece ps b e in listed_beside ps (expr_mentions scopes a e) (expr_mentions scopes a i) x (expr_piece ps (after b x) i) (expr_listed ps scopes a b e) (expr_listed ps scopes a (after b x) i)
  form_listed ps scopes a b (t.call e es) =
      let o = called_builtin e in
      let x = if is_some o then none else (if is_some (method_of e) then expr_parts ps b e else expr_piece ps b e) in
      listed_beside ps (if is_some o then [] else expr_mentions scopes a e) (exprs_mentions scopes a es) x (arguments_piece ps (after b x) (floors_division o es) es)
      (listed_head ps o (is_some (method_of e)) (expr_mentions scopes a e) (expr_piece ps b e) (expr_parts ps b e) (expr_listed ps scopes a b e) (parts_listed ps scopes a b e))
      (arguments_listed ps scopes a (after b x) (floors_division o es) es)
  form_listed ps scopes a b (t.unary s e) = expr_listed ps scopes a b e
  form_listed ps scopes a b (t.update s f name) = listed_none ps (assign_mention scopes a name) none (begun-assign scopes a name) refl
  form_listed ps scopes a b (t.binary op l r) =
      let x = expr_piece ps b l in listed_beside ps (expr_mentions scopes a l) (expr_mentions scopes a r) x (expr_piece ps (after b x) r) (expr_listed ps scopes a b l) (expr_listed ps scopes a (after b x) r)
  form_listed ps scopes a b (t.conditional l m r) =
      let x = expr_piece ps b l in
      let y = expr_piece ps (after b x) m in
      let c = after b (beside x y) in
      listed_three ps (expr_mentions scopes a l) (expr_mentions scopes a m) (expr_mentions scopes a r) x y (expr_piece ps c r) (expr_listed ps scopes a b l) (expr_listed ps scopes a (after b x) m) (expr_listed ps scopes a c r)
  form_listed ps scopes a b (t.assign op name e) =
      let x = expr_piece ps b e in listed_beside ps (assign_mention scopes a name) (expr_mentions scopes a e) none x (listed_none ps (assign_mention scopes a name) none (begun-assign scopes a name) refl) (expr_listed ps scopes a b e)
  form_listed ps scopes a b (t.arrow_value spot names e) =
      let inner = function_scope spot.at names t.no_stmts ∷ scopes in
      listed_function ps inner spot names one_value (expr_mentions inner (in_function spot.at) e) (expr_piece ps b e) (expr_listed ps inner (in_function spot.at) b e)
  form_listed ps scopes a b (t.arrow_block spot names ss) =
      let inner = function_scope spot.at names ss ∷ scopes in
      listed_function ps inner spot names n.statements (stmts_mentions inner (in_function spot.at) ss) (stmts_piece ps b ss) (stmts_listed ps inner (in_function spot.at) b ss)
  form_listed ps scopes a b (t.function spot names ss) =
      let inner = function_scope spot.at names ss ∷ scopes in
      listed_function ps inner spot names n.statements (stmts_mentions inner (in_function spot.at) ss) (stmts_piece ps b ss) (stmts_listed ps inner (in_function spot.at) b ss)

  pub exprs_listed : (ps : List Mention) (scopes : List Scope) (a : Around) (b : ℕ) (es : PlainExprs) → Lists ps (exprs_mentions scopes a es) (exprs_piece ps b es)
  exprs_listed ps scopes a b t.no_exprs = refl
  exprs_listed ps scopes a b (t.expr_in e es) =
      let x = expr_piece ps b e in listed_beside ps (expr_mentions scopes a e) (exprs_mentions scopes a es) x (exprs_piece ps (after b x) es) (expr_listed ps scopes a b e) (exprs_listed ps scopes a (after b x) es)

  pub arguments_listed : (ps : List Mention) (scopes : List Scope) (a : Around) (b : ℕ) (opens : Bool) (es : PlainExprs) → Lists ps (exprs_mentions scopes a es) (arguments_piece ps b opens es)
  arguments_listed ps scopes a b opens t.no_exprs = refl
  arguments_listed ps scopes a b opens (t.expr_in e es) =
      let x = if opens then expr_parts ps b e else expr_piece ps b e in
      listed_beside ps (expr_mentions scopes a e) (exprs_mentions scopes a es) x (exprs_piece ps (after b x) es)
      (listed_argument ps opens (expr_mentions scopes a e) (expr_piece ps b e) (expr_parts ps b e) (expr_listed ps scopes a b e) (parts_listed ps scopes a b e))
      (exprs_listed ps scopes a (after b x) es)

  pub fields_listed : (ps : List Mention) (scopes : List Scope) (a : Around) (b : ℕ) (fs : PlainFields) → Lists ps (fields_mentions scopes a fs) (fields_piece ps b fs)
  fields_listed ps scopes a b t.no_fields = refl
  fields_listed ps scopes a b (t.field_in key e fs) =
      let x = expr_piece ps b e in listed_beside ps (expr_mentions scopes a e) (fields_mentions scopes a fs) x (fields_piece ps (after b x) fs) (expr_listed ps scopes a b e) (fields_listed ps scopes a (after b x) fs)

  pub perhaps_listed : (ps : List Mention) (scopes : List Scope) (a : Around) (b : ℕ) (e : PlainPerhaps) → Lists ps (perhaps_mentions scopes a e) (perhaps_piece ps b e)
  perhaps_listed ps scopes a b t.absent = refl
  perhaps_listed ps scopes a b (t.present e) = expr_listed ps scopes a b e

  pub declarators_listed : (ps : List Mention) (scopes : List Scope) (a : Around) (b : ℕ) (kind : DeclareKind) (ds : PlainDeclarators) → Lists ps (declarators_mentions scopes a kind ds) (declarators_piece ps b ds)
  declarators_listed ps scopes a b kind t.no_declarators = refl
  declarators_listed ps scopes a b kind (t.declarator_in name value end ds) =
      let x = perhaps_piece ps b value in
      listed_beside ps (perhaps_mentions scopes a value) (declarators_mentions scopes a kind ds) x (declarators_piece ps (after b x) ds) (perhaps_listed ps scopes a b value) (declarators_listed ps scopes a (after b x) kind ds)

  pub start_listed : (ps : List Mention) (scopes : List Scope) (a : Around) (b : ℕ) (s : PlainStart) → Lists ps (start_mentions scopes a s) (start_piece ps b s)
  start_listed ps scopes a b t.nothing = refl
  start_listed ps scopes a b (t.declared line kind ds) = declarators_listed ps scopes a b kind ds
  start_listed ps scopes a b (t.started e) = expr_listed ps scopes a b e

  pub stmt_listed : (ps : List Mention) (scopes : List Scope) (a : Around) (b : ℕ) (s : PlainStmt) → Lists ps (stmt_mentions scopes a s) (stmt_piece ps b s)
  stmt_listed ps scopes a b (t.on line form) = stmt_form_listed ps scopes a b form

  pub stmt_form_listed : (ps : List Mention) (scopes : List Scope) (a : Around) (b : ℕ) (form : PlainStmtForm) → Lists ps (stmt_form_mentions scopes a form) (stmt_parts ps b form)
  stmt_form_listed ps scopes a b t.empty = refl
  stmt_form_listed ps scopes a b (t.block ss) = stmts_listed ps (block_scope a.owner ss ∷ scopes) a b ss
  stmt_form_listed ps scopes a b (t.declaration kind ds) = declarators_listed ps scopes a b kind ds
  stmt_form_listed ps scopes a b (t.expression e) = expr_listed ps scopes a b e
  stmt_form_listed ps scopes a b (t.if_alone e s) =
      let x = expr_piece ps b e in listed_beside ps (expr_mentions scopes a e) (stmt_mentions scopes a s) x (stmt_piece ps (after b x) s) (expr_listed ps scopes a b e) (stmt_listed ps scopes a (after b x) s)
  stmt_form_listed ps scopes a b (t.if_else e s other) =
      let x = expr_piece ps b e in
      let y = stmt_piece ps (after b x) s in
      let c = after b (beside x y) in
      listed_three ps (expr_mentions scopes a e) (stmt_mentions scopes a s) (stmt_mentions scopes a other) x y (stmt_piece ps c other) (expr_listed ps scopes a b e) (stmt_listed ps scopes a (after b x) s) (stmt_listed ps scopes a c other)
  stmt_form_listed ps scopes a b (t.while_of e s) =
      let x = expr_piece ps b e in
      listed_beside ps (expr_mentions scopes a e) (stmt_mentions scopes (in_loop a) s) x (stmt_piece ps (after b x) s) (expr_listed ps scopes a b e) (stmt_listed ps scopes (in_loop a) (after b x) s)
  stmt_form_listed ps scopes a b (t.for_three start test next s) =
      let inner = for_three_scope a.owner start s ∷ scopes in
      let x = start_piece ps b start in
      let y = perhaps_piece ps (after b x) test in
      let c = after b (beside x y) in
      let z = perhaps_piece ps c next in
      let d = after b (beside (beside x y) z) in
      listed_four ps (start_mentions inner a start) (perhaps_mentions inner a test) (perhaps_mentions inner a next) (stmt_mentions inner (in_loop a) s) x y z (stmt_piece ps d s)
      (start_listed ps inner a b start) (perhaps_listed ps inner a (after b x) test) (perhaps_listed ps inner a c next) (stmt_listed ps inner (in_loop a) d s)
  stmt_form_listed ps scopes a b (t.for_of kind name e s) =
      let listed = list_scope a.owner kind name ∷ scopes in
      let inner = for_of_scope a.owner kind name s ∷ scopes in
      let x = expr_piece ps b e in
      listed_beside ps (expr_mentions listed a e) (stmt_mentions inner (in_loop a) s) x (stmt_piece ps (after b x) s) (expr_listed ps listed a b e) (stmt_listed ps inner (in_loop a) (after b x) s)
  stmt_form_listed ps scopes a b (t.break_of spot) = refl
  stmt_form_listed ps scopes a b (t.continue_of spot) = refl
  stmt_form_listed ps scopes a b (t.return_nothing spot) = refl
  stmt_form_listed ps scopes a b (t.return_of spot e) = expr_listed ps scopes a b e

  pub stmts_listed : (ps : List Mention) (scopes : List Scope) (a : Around) (b : ℕ) (ss : PlainStmts) → Lists ps (stmts_mentions scopes a ss) (stmts_piece ps b ss)
  stmts_listed ps scopes a b t.no_stmts = refl
  stmts_listed ps scopes a b (t.stmt_in s ss) =
      let x = stmt_piece ps b s in listed_beside ps (stmt_mentions scopes a s) (stmts_mentions scopes a ss) x (stmts_piece ps (after b x) ss) (stmt_listed ps scopes a b s) (stmts_listed ps scopes a (after b x) ss)

item_listed : (ps : List Mention) (scopes : List Scope) (b : ℕ) (i : PlainItem) → Lists ps (item_mentions scopes i) (item_piece ps b i)
unfolding item_piece item_mentions
item_listed ps scopes b (t.statement spot s) = stmt_listed ps scopes (in_function top) b s
item_listed ps scopes b (t.function_of spot name names ss) =
    let inner = function_scope spot.at names ss ∷ scopes in
    listed_function ps inner spot names n.statements (stmts_mentions inner (in_function spot.at) ss) (stmts_piece ps b ss) (stmts_listed ps inner (in_function spot.at) b ss)

-- what the functions of a program copy, in the order in which the functions begin
pub items_listed : (ps : List Mention) (scopes : List Scope) (b : ℕ) (is : List PlainItem) → Lists ps (flat_map (item_mentions scopes) is) (items_piece ps b is)
unfolding items_piece
items_listed ps scopes b [] = refl
items_listed ps scopes b (i ∷ is) =
    let x = item_piece ps b i in listed_beside ps (item_mentions scopes i) (flat_map (item_mentions scopes) is) x (items_piece ps (after b x) is) (item_listed ps scopes b i) (items_listed ps scopes (after b x) is)
