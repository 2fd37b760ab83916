-- A program with no fault of a name, whose names stand apart, is sound.
use Rattle.std.proofs.Common.{◌≡◌, ◌∙◌, inl, inr, ℕ, ◌<◌, List, [], ◌∷◌, ◌++◌, refl, ap, sym, subst, length, map, Option, Some, None, Bool, true, false, if◌then◌else◌}
use Rattle.std.proofs.lemmas.Bool.{false≢true, true≢false}
use Rattle.std.specs.Prelude.{is_some}
use Rattle.std.specs.List.{flat_map}
use Rattle.js_tree.specs.declared.tree.Name.{Name}
use Rattle.js_tree.specs.declared.tree.Spot.{Spot}
use Rattle.js_tree.specs.declared.tree.DeclareKind.{DeclareKind}
use Rattle.js_tree.specs.Plain as t
use Rattle.js_tree.specs.Plain.{PlainExpr, PlainForm, PlainExprs, PlainFields, PlainPerhaps, PlainDeclarators, PlainStart, PlainStmt, PlainStmtForm, PlainStmts, PlainItem}
use Rattle.js_tree.specs.Nesting.{is_object}
use Rattle.js_program.specs.Sound.{IsSound}
use Rattle.js_names.specs.declared.mention.Around.{Around}
use Rattle.js_names.specs.declared.mention.Declared.{Declared}
use Rattle.js_names.specs.declared.mention.Role.{Role}
use Rattle.js_names.specs.declared.mention.Role.TheVariants.{Function}
use Rattle.js_names.specs.declared.mention.What.{What}
use Rattle.js_names.specs.Entries.{top, own_of_all, vars_of_all, own_of_item, vars_of_item}
use Rattle.js_names.specs.Scopes.{Scope, block_scope, for_three_scope, list_scope, for_of_scope, for_of_role, function_scope, program_scope}
use Rattle.js_names.specs.Forms.{is_undefined, is_reserved, object_of, called_builtin, value_builtin}
use Rattle.js_names.specs.Spots.{program_spot}
use Rattle.js_names.specs.Unresolved.{Unresolved, one_mention, read_mention, assign_mention, member_mentions, in_function, in_loop, begin_mention, parameter_mentions, declared_role, unresolved_mentions, expr_mentions, form_mentions, exprs_mentions, fields_mentions, perhaps_mentions, declarators_mentions, start_mentions, stmt_mentions, stmt_form_mentions, stmts_mentions, item_mentions}
use Rattle.js_names.specs.Mentions.{Mention, look_up, mentions, found, found_var, found_here, or_else, functions_of, declared_at, is_var}
use Rattle.js_names.specs.Slots.{held_by, parameter_in}
use Rattle.js_names.specs.Rules.{name_fault}
use Rattle.js_resolver.specs.Resolved.{program_of_tree}
use Rattle.js_resolver.proofs.sound.Found.{AllFound, AllHave}
use Rattle.js_resolver.proofs.sound.Functions.{begun}
use Rattle.js_resolver.proofs.sound.Lists.{In, HasMention}
use Rattle.js_resolver.proofs.sound.Mentions.{IsDeclared, IsChain, IsKnown, AreSettled, is_name, unbroken}
use Rattle.js_resolver.proofs.sound.Program.{program_scopes}
use Rattle.js_resolver.proofs.sound.Room.{NoRepeats}
use Rattle.js_resolver.proofs.sound.Fine.{items_have, accepted_sound}
use Rattle.js_resolver.proofs.sound.Scopes.{AllStated, stated_append, have_left, have_right, own_declares, vars_declare, stated_own, stated_all, stmt_vars, stmts_vars}
use Rattle.js_resolver.proofs.sound.Known.{ScopesKnown, AllDeclared, BeginApart, OwnKnown, VarsKnown, around_is, declared-is, here_known, here_look, here_look_var, block_known, for_known, list_known, each_known, function_known}

mention_known : (ps : List Mention) (s : Unresolved) → AllDeclared ps → BeginApart ps → ScopesKnown ps s.around.owner s.scopes → HasMention (look_up s) ps → IsKnown ps (look_up s)
unfolding look_up
mention_known ps s all apart k has =
    let Goal : Declared → Type 0 = λ d. IsDeclared ps d × In d.owner (functions_of s.scopes) in
    let text = s.name.text in
    let var : (d : Declared) → found_var s.scopes text ≡ Some d → Goal d = λ d e. let r = k.var text d e in (r.0, subst (In d.owner) (sym k.within) (inl r.1)) in
    let declares : (role : Role) (d : Declared) → (if is_var role then found_var s.scopes text else found s.scopes text) ≡ Some d → Goal d =
    λ role d. elim (is_var role) as (λ b. (if b then found_var s.scopes text else found s.scopes text) ≡ Some d → Goal d) [ true ↦ λ e. var d e | false ↦ λ e. k.found text d e ]
    in
    let look : (w : What) (d : Declared) → declared_at w s.scopes text ≡ Some d → Goal d =
    λ w d. elim w as (λ w. declared_at w s.scopes text ≡ Some d → Goal d) [
      | What.Declares role ↦ λ e. declares role d e
      | What.Reads ↦ λ e. k.found text d e
      | What.Assigns ↦ λ e. k.found text d e
      | What.Misuses ↦ λ e. cc
      | What.LoopWord ↦ λ e. cc
      | What.Returns ↦ λ e. cc
      | What.Begins ↦ λ e. cc
    ]
    in
    let quiet : (w : What) → is_name w ≡ false → declared_at w s.scopes text ≡ None =
    λ w. elim w as (λ w. is_name w ≡ false → declared_at w s.scopes text ≡ None) [
      | What.Declares role ↦ λ e. absurd (true≢false e)
      | What.Reads ↦ λ e. absurd (true≢false e)
      | What.Assigns ↦ λ e. absurd (true≢false e)
      | What.Misuses ↦ λ e. refl
      | What.LoopWord ↦ λ e. refl
      | What.Returns ↦ λ e. refl
      | What.Begins ↦ λ e. refl
    ]
    in
    record {
      outer = k.outer;
      within = k.within;
      chain = k.chain;
      found = λ d e. look s.what d e;
      declares = λ role e. all (look_up s) has role e;
      silent = λ e. quiet s.what e;
      begins = λ e. around_is ps (look_up s) apart has e;
    }

abbrev AllKnown : List Mention → List Unresolved → Type 0
AllKnown ps [] = Unit {0}
AllKnown ps (s ∷ ss) = IsKnown ps (look_up s) × AllKnown ps ss

-- names that have declarations, and functions that begin apart
record AreRight (ps : List Mention) : Type 0 where
  pub declared : AllDeclared ps
  pub begin : BeginApart ps

abbrev Knows : List Mention → List Unresolved → Type 0
Knows ps ss = AllHave ps ss → AllKnown ps ss

known_append : (ps : List Mention) (xs ys : List Unresolved) → AllKnown ps xs → AllKnown ps ys → AllKnown ps (xs ++ ys)
known_append ps [] ys h k = k
known_append ps (x ∷ xs) ys h k = (h.0, known_append ps xs ys h.1 k)

knows_append : (ps : List Mention) (xs ys : List Unresolved) → Knows ps xs → Knows ps ys → Knows ps (xs ++ ys)
knows_append ps xs ys f g h = known_append ps xs ys (f (have_left ps xs ys h)) (g (have_right ps xs ys h))

knows_mention : (ps : List Mention) (r : AreRight ps) (scopes : List Scope) (a : Around) (what : What) (name : Name) → ScopesKnown ps a.owner scopes → Knows ps (one_mention scopes a what name)
knows_mention ps r scopes a what name k h = (mention_known ps _ r.declared r.begin k h.0, tt)

knows_read : (ps : List Mention) (r : AreRight ps) (scopes : List Scope) (a : Around) (name : Name) → ScopesKnown ps a.owner scopes → Knows ps (read_mention scopes a name)
knows_read ps r scopes a name k =
    elim (is_object name.text) as (λ b. Knows ps (if b then one_mention scopes a What.Misuses name else (if is_undefined name.text then [] else one_mention scopes a What.Reads name))) [
      | true ↦ knows_mention ps r scopes a What.Misuses name k
      | false ↦ elim (is_undefined name.text) as (λ b. Knows ps (if b then [] else one_mention scopes a What.Reads name)) [ true ↦ λ h. tt | false ↦ knows_mention ps r scopes a What.Reads name k ]
    ]

knows_assign : (ps : List Mention) (r : AreRight ps) (scopes : List Scope) (a : Around) (name : Name) → ScopesKnown ps a.owner scopes → Knows ps (assign_mention scopes a name)
knows_assign ps r scopes a name k =
    elim (is_reserved name.text) as (λ b. Knows ps (if b then one_mention scopes a What.Misuses name else one_mention scopes a What.Assigns name)) [ true ↦ knows_mention ps r scopes a What.Misuses name k | false ↦ knows_mention ps r scopes a What.Assigns name k ]

knows_member : (ps : List Mention) (r : AreRight ps) (scopes : List Scope) (a : Around) (object : Option Name) (word : List ℕ) (v : Bool) (ms : List Unresolved) → ScopesKnown ps a.owner scopes → Knows ps ms → Knows ps (member_mentions scopes a object word v ms)
knows_member ps r scopes a None word v ms k f = f
knows_member ps r scopes a (Some object) word true ms k f = λ h. tt
knows_member ps r scopes a (Some object) word false ms k f = knows_mention ps r scopes a What.Misuses _ k

knows_unless : (ps : List Mention) (b : Bool) (ms : List Unresolved) → Knows ps ms → Knows ps (if b then [] else ms)
knows_unless ps true ms f = λ h. tt
knows_unless ps false ms f = f

knows_parameters : (ps : List Mention) (r : AreRight ps) (scopes : List Scope) (f : ℕ) (names : List Name) → ScopesKnown ps f scopes → Knows ps (parameter_mentions scopes (in_function f) names)
knows_parameters ps r scopes f [] k h = tt
knows_parameters ps r scopes f (x ∷ xs) k h = (mention_known ps _ r.declared r.begin k h.0, knows_parameters ps r scopes f xs k h.1)

knows_function : (ps : List Mention) (r : AreRight ps) (scopes : List Scope) (f : ℕ) (spot : Spot) (names : List Name) (ss : PlainStmts) (ms : List Unresolved) → ScopesKnown ps f scopes
    → (AllHave ps ms → AllStated ps (found (function_scope spot.at names ss ∷ scopes)) spot.at (own_of_all spot.at true ss)) → (AllHave ps ms → AllStated ps (found_var (function_scope spot.at names ss ∷ scopes)) spot.at (vars_of_all spot.at true ss))
    → (ScopesKnown ps spot.at (function_scope spot.at names ss ∷ scopes) → Knows ps ms)
    → Knows ps (begin_mention (function_scope spot.at names ss ∷ scopes) spot.at spot ++ (parameter_mentions (function_scope spot.at names ss ∷ scopes) (in_function spot.at) names ++ ms))
knows_function ps r scopes f spot names ss ms known own vars g h =
    let inner = function_scope spot.at names ss ∷ scopes in
    let params = parameter_mentions inner (in_function spot.at) names in
    let rest = have_right ps params ms h.1 in
    let k = function_known ps scopes f spot names ss r.begin known (h.0, tt) (have_left ps params ms h.1) (own rest) (vars rest) in
    (mention_known ps _ r.declared r.begin k h.0, knows_append ps params ms (knows_parameters ps r inner spot.at names k) (g k) h.1)

mutual
  unfolding expr_mentions form_mentions exprs_mentions fields_mentions perhaps_mentions declarators_mentions start_mentions stmt_mentions stmt_form_mentions stmts_mentions

  expr_knows : (ps : List Mention) (r : AreRight ps) (scopes : List Scope) (a : Around) (e : PlainExpr) → ScopesKnown ps a.owner scopes → Knows ps (expr_mentions scopes a e)
  expr_knows ps r scopes a (t.at parens line form) k = form_knows ps r scopes a form k

  form_knows : (ps : List Mention) (r : AreRight ps) (scopes : List Scope) (a : Around) (form : PlainForm) → ScopesKnown ps a.owner scopes → Knows ps (form_mentions scopes a form)
  form_knows ps r scopes a (t.number i) k = λ h. tt
  form_knows ps r scopes a (t.text text) k = λ h. tt
  form_knows ps r scopes a (t.truth v) k = λ h. tt
  form_knows ps r scopes a t.null k = λ h. tt
  form_knows ps r scopes a (t.use_of name) k = knows_read ps r scopes a name k
  form_knows ps r scopes a (t.list es) k = exprs_knows ps r scopes a es k
  form_knows ps r scopes a (t.fields fs) k = fields_knows ps r scopes a fs k
  form_knows ps r scopes a (t.member e word) k = knows_member ps r scopes a (object_of e) word (is_some (value_builtin e word)) (expr_mentions scopes a e) k (expr_knows ps r scopes a e k)
  form_knows ps r scopes a (t.index e i) k = knows_append ps (expr_mentions scopes a e) (expr_mentions scopes a i) (expr_knows ps r scopes a e k) (expr_knows ps r scopes a i k)
  form_knows ps r scopes a (t.call e es) k =
      knows_append ps (if is_some (called_builtin e) then [] else expr_mentions scopes a e) (exprs_mentions scopes a es) (knows_unless ps (is_some (called_builtin e)) (expr_mentions scopes a e) (expr_knows ps r scopes a e k)) (exprs_knows ps r scopes a es k)
  form_knows ps r scopes a (t.unary s e) k = expr_knows ps r scopes a e k
  form_knows ps r scopes a (t.update s f name) k = knows_assign ps r scopes a name k
  form_knows ps r scopes a (t.binary op x y) k = knows_append ps (expr_mentions scopes a x) (expr_mentions scopes a y) (expr_knows ps r scopes a x k) (expr_knows ps r scopes a y k)
  form_knows ps r scopes a (t.conditional x y z) k =
      knows_append ps (expr_mentions scopes a x) (expr_mentions scopes a y ++ expr_mentions scopes a z) (expr_knows ps r scopes a x k) (knows_append ps (expr_mentions scopes a y) (expr_mentions scopes a z) (expr_knows ps r scopes a y k) (expr_knows ps r scopes a z k))
  form_knows ps r scopes a (t.assign op name e) k = knows_append ps (assign_mention scopes a name) (expr_mentions scopes a e) (knows_assign ps r scopes a name k) (expr_knows ps r scopes a e k)
  form_knows ps r scopes a (t.arrow_value spot names e) k =
      let inner = function_scope spot.at names t.no_stmts ∷ scopes in
      knows_function ps r scopes a.owner spot names t.no_stmts (expr_mentions inner (in_function spot.at) e) k (λ h. tt) (λ h. tt) (λ m. expr_knows ps r inner (in_function spot.at) e m)
  form_knows ps r scopes a (t.arrow_block spot names ss) k =
      let inner = function_scope spot.at names ss ∷ scopes in
      knows_function ps r scopes a.owner spot names ss (stmts_mentions inner (in_function spot.at) ss) k (stated_all ps inner (in_function spot.at) true ss) (stmts_vars ps inner (in_function spot.at) true ss) (λ m. stmts_knows ps r inner (in_function spot.at) ss m)
  form_knows ps r scopes a (t.function spot names ss) k =
      let inner = function_scope spot.at names ss ∷ scopes in
      knows_function ps r scopes a.owner spot names ss (stmts_mentions inner (in_function spot.at) ss) k (stated_all ps inner (in_function spot.at) true ss) (stmts_vars ps inner (in_function spot.at) true ss) (λ m. stmts_knows ps r inner (in_function spot.at) ss m)

  exprs_knows : (ps : List Mention) (r : AreRight ps) (scopes : List Scope) (a : Around) (es : PlainExprs) → ScopesKnown ps a.owner scopes → Knows ps (exprs_mentions scopes a es)
  exprs_knows ps r scopes a t.no_exprs k = λ h. tt
  exprs_knows ps r scopes a (t.expr_in e es) k = knows_append ps (expr_mentions scopes a e) (exprs_mentions scopes a es) (expr_knows ps r scopes a e k) (exprs_knows ps r scopes a es k)

  fields_knows : (ps : List Mention) (r : AreRight ps) (scopes : List Scope) (a : Around) (fs : PlainFields) → ScopesKnown ps a.owner scopes → Knows ps (fields_mentions scopes a fs)
  fields_knows ps r scopes a t.no_fields k = λ h. tt
  fields_knows ps r scopes a (t.field_in key e fs) k = knows_append ps (expr_mentions scopes a e) (fields_mentions scopes a fs) (expr_knows ps r scopes a e k) (fields_knows ps r scopes a fs k)

  perhaps_knows : (ps : List Mention) (r : AreRight ps) (scopes : List Scope) (a : Around) (e : PlainPerhaps) → ScopesKnown ps a.owner scopes → Knows ps (perhaps_mentions scopes a e)
  perhaps_knows ps r scopes a t.absent k = λ h. tt
  perhaps_knows ps r scopes a (t.present e) k = expr_knows ps r scopes a e k

  declarators_knows : (ps : List Mention) (r : AreRight ps) (scopes : List Scope) (a : Around) (kind : DeclareKind) (ds : PlainDeclarators) → ScopesKnown ps a.owner scopes → Knows ps (declarators_mentions scopes a kind ds)
  declarators_knows ps r scopes a kind t.no_declarators k = λ h. tt
  declarators_knows ps r scopes a kind (t.declarator_in name value end ds) k =
      knows_append ps (one_mention scopes a (What.Declares (declared_role kind)) name) (perhaps_mentions scopes a value ++ declarators_mentions scopes a kind ds) (knows_mention ps r scopes a (What.Declares (declared_role kind)) name k)
      (knows_append ps (perhaps_mentions scopes a value) (declarators_mentions scopes a kind ds) (perhaps_knows ps r scopes a value k) (declarators_knows ps r scopes a kind ds k))

  start_knows : (ps : List Mention) (r : AreRight ps) (scopes : List Scope) (a : Around) (s : PlainStart) → ScopesKnown ps a.owner scopes → Knows ps (start_mentions scopes a s)
  start_knows ps r scopes a t.nothing k = λ h. tt
  start_knows ps r scopes a (t.declared line kind ds) k = declarators_knows ps r scopes a kind ds k
  start_knows ps r scopes a (t.started e) k = expr_knows ps r scopes a e k

  stmt_knows : (ps : List Mention) (r : AreRight ps) (scopes : List Scope) (a : Around) (s : PlainStmt) → ScopesKnown ps a.owner scopes → Knows ps (stmt_mentions scopes a s)
  stmt_knows ps r scopes a (t.on line form) k = stmt_form_knows ps r scopes a form k

  stmt_form_knows : (ps : List Mention) (r : AreRight ps) (scopes : List Scope) (a : Around) (form : PlainStmtForm) → ScopesKnown ps a.owner scopes → Knows ps (stmt_form_mentions scopes a form)
  stmt_form_knows ps r scopes a t.empty k = λ h. tt
  stmt_form_knows ps r scopes a (t.block ss) k = λ h. stmts_knows ps r (block_scope a.owner ss ∷ scopes) a ss (block_known ps scopes a ss k h) h
  stmt_form_knows ps r scopes a (t.declaration kind ds) k = declarators_knows ps r scopes a kind ds k
  stmt_form_knows ps r scopes a (t.expression e) k = expr_knows ps r scopes a e k
  stmt_form_knows ps r scopes a (t.if_alone e s) k = knows_append ps (expr_mentions scopes a e) (stmt_mentions scopes a s) (expr_knows ps r scopes a e k) (stmt_knows ps r scopes a s k)
  stmt_form_knows ps r scopes a (t.if_else e s other) k =
      knows_append ps (expr_mentions scopes a e) (stmt_mentions scopes a s ++ stmt_mentions scopes a other) (expr_knows ps r scopes a e k) (knows_append ps (stmt_mentions scopes a s) (stmt_mentions scopes a other) (stmt_knows ps r scopes a s k) (stmt_knows ps r scopes a other k))
  stmt_form_knows ps r scopes a (t.while_of e s) k = knows_append ps (expr_mentions scopes a e) (stmt_mentions scopes (in_loop a) s) (expr_knows ps r scopes a e k) (stmt_knows ps r scopes (in_loop a) s k)
  stmt_form_knows ps r scopes a (t.for_three start test next s) k = λ h.
      let inner = for_three_scope a.owner start s ∷ scopes in
      let last = stmt_mentions inner (in_loop a) s in
      let m = for_known ps scopes a start s k (have_left ps (start_mentions inner a start) (perhaps_mentions inner a test ++ (perhaps_mentions inner a next ++ last)) h) in
      knows_append ps (start_mentions inner a start) (perhaps_mentions inner a test ++ (perhaps_mentions inner a next ++ last)) (start_knows ps r inner a start m)
      (knows_append ps (perhaps_mentions inner a test) (perhaps_mentions inner a next ++ last) (perhaps_knows ps r inner a test m) (knows_append ps (perhaps_mentions inner a next) last (perhaps_knows ps r inner a next m) (stmt_knows ps r inner (in_loop a) s m))) h
  stmt_form_knows ps r scopes a (t.for_of kind name e s) k = λ h.
      let listed = list_scope a.owner kind name ∷ scopes in
      let inner = for_of_scope a.owner kind name s ∷ scopes in
      let m = list_known ps scopes a kind name k (h.0, tt) in
      let body = each_known ps scopes a kind name s k (h.0, tt) in
      knows_append ps (one_mention listed a (What.Declares (for_of_role kind)) name) (expr_mentions listed a e ++ stmt_mentions inner (in_loop a) s) (knows_mention ps r listed a (What.Declares (for_of_role kind)) name m)
      (knows_append ps (expr_mentions listed a e) (stmt_mentions inner (in_loop a) s) (expr_knows ps r listed a e m) (stmt_knows ps r inner (in_loop a) s body)) h
  stmt_form_knows ps r scopes a (t.break_of spot) k = knows_mention ps r scopes a What.LoopWord _ k
  stmt_form_knows ps r scopes a (t.continue_of spot) k = knows_mention ps r scopes a What.LoopWord _ k
  stmt_form_knows ps r scopes a (t.return_nothing spot) k = knows_mention ps r scopes a What.Returns _ k
  stmt_form_knows ps r scopes a (t.return_of spot e) k = λ h. (mention_known ps _ r.declared r.begin k h.0, expr_knows ps r scopes a e k h.1)

  stmts_knows : (ps : List Mention) (r : AreRight ps) (scopes : List Scope) (a : Around) (ss : PlainStmts) → ScopesKnown ps a.owner scopes → Knows ps (stmts_mentions scopes a ss)
  stmts_knows ps r scopes a t.no_stmts k = λ h. tt
  stmts_knows ps r scopes a (t.stmt_in s ss) k = knows_append ps (stmt_mentions scopes a s) (stmts_mentions scopes a ss) (stmt_knows ps r scopes a s k) (stmts_knows ps r scopes a ss k)

item_knows : (ps : List Mention) (r : AreRight ps) (scopes : List Scope) (i : PlainItem) → ScopesKnown ps top scopes → Knows ps (item_mentions scopes i)
unfolding item_mentions
item_knows ps r scopes (t.statement spot s) k = stmt_knows ps r scopes (in_function top) s k
item_knows ps r scopes (t.function_of spot name names ss) k = λ h.
    let inner = function_scope spot.at names ss ∷ scopes in
    let body = in_function spot.at in
    (mention_known ps _ r.declared r.begin k h.0, knows_function ps r scopes top spot names ss (stmts_mentions inner body ss) k (stated_all ps inner body true ss) (stmts_vars ps inner body true ss) (λ m. stmts_knows ps r inner body ss m) h.1)

items_knows : (ps : List Mention) (r : AreRight ps) (scopes : List Scope) (is : List PlainItem) → ScopesKnown ps top scopes → Knows ps (flat_map (item_mentions scopes) is)
items_knows ps r scopes [] k h = tt
items_knows ps r scopes (i ∷ is) k h = knows_append ps (item_mentions scopes i) (flat_map (item_mentions scopes) is) (item_knows ps r scopes i k) (items_knows ps r scopes is k) h

-- what the program's own list declares

item_stated : (ps : List Mention) (scopes : List Scope) (i : PlainItem) → AllHave ps (item_mentions scopes i) → AllStated ps (found scopes) top (own_of_item i) × AllStated ps (found_var scopes) top (vars_of_item i)
unfolding item_mentions look_up
item_stated ps scopes (t.statement spot s) h = (stated_own ps scopes (in_function top) true s h, stmt_vars ps scopes (in_function top) true s h)
item_stated ps scopes (t.function_of spot name names ss) h =
    ((record { mention = _; has = h.0; role = Function; what = refl; declared = refl; spot = refl; owner = refl; same = refl; parameter = λ k. absurd (false≢true k) }, tt), tt)

items_stated : (ps : List Mention) (scopes : List Scope) (is : List PlainItem) → AllHave ps (flat_map (item_mentions scopes) is) → AllStated ps (found scopes) top (flat_map own_of_item is) × AllStated ps (found_var scopes) top (flat_map vars_of_item is)
items_stated ps scopes [] h = (tt, tt)
items_stated ps scopes (i ∷ is) h =
    let x = item_stated ps scopes i (have_left ps (item_mentions scopes i) (flat_map (item_mentions scopes) is) h) in
    let y = items_stated ps scopes is (have_right ps (item_mentions scopes i) (flat_map (item_mentions scopes) is) h) in
    (stated_append ps (found scopes) top (own_of_item i) (flat_map own_of_item is) x.0 y.0, stated_append ps (found_var scopes) top (vars_of_item i) (flat_map vars_of_item is) x.1 y.1)

scopes_first : (ps : List Mention) (s : Scope) → s.whole ≡ true → s.owner ≡ top → OwnKnown ps top s → VarsKnown ps top s → ScopesKnown ps top (s ∷ [])
unfolding functions_of found found_var
scopes_first ps s w owner own vars =
    let same : functions_of (s ∷ []) ≡ top ∷ [] = ap (λ (b : Bool). (if b then s.owner ∷ [] else []) ++ []) w ∙ ap (λ z. z ∷ []) owner in
    let look : (q : List ℕ) (d : Declared) (o : Option Declared) → (found_here s q ≡ o) → or_else o None ≡ Some d → IsDeclared ps d × In d.owner (top ∷ []) =
    λ q d o. elim o as (λ o. (found_here s q ≡ o) → or_else o None ≡ Some d → IsDeclared ps d × In d.owner (top ∷ []))
    [ None ↦ λ m h. cc | Some c ↦ λ m h. let z = declared-is ps top c d h (here_known ps top s w own vars q c m) in (z.0, inl z.1) ]
    in
    record {
      outer = [];
      within = same;
      chain = subst (IsChain ps) (sym same) tt;
      found = λ q d h. let z = look q d (found_here s q) refl h in (z.0, subst (In d.owner) (sym same) z.1);
      var = λ q d h. here_known ps top s w own vars q d (subst (λ (b : Bool). (if b then found_here s q else None) ≡ Some d) w h);
    }

program_known : (ps : List Mention) (items : List PlainItem) → AllHave ps (flat_map (item_mentions (program_scopes items)) items) → ScopesKnown ps top (program_scopes items)
unfolding program_scope
program_known ps items h =
    let s = program_scope items in
    let stated = items_stated ps (program_scopes items) items h in
    scopes_first ps s refl refl (λ q d here e. own_declares ps (found (s ∷ [])) top q d (flat_map own_of_item items) stated.0 e (here_look s [] q d here))
    (λ q d here e. vars_declare ps (found_var (s ∷ [])) top q d (flat_map vars_of_item items) stated.1 e (here_look_var s [] q d refl here))

known_at : (ps : List Mention) (ss : List Unresolved) (q : Mention) → AllKnown ps ss → HasMention q (map look_up ss) → IsKnown ps q
known_at ps [] q h k = absurd k
known_at ps (s ∷ ss) q h (inl e) = subst (IsKnown ps) (sym e) h.0
known_at ps (s ∷ ss) q h (inr k) = known_at ps ss q h.1 k

-- What the mentions of a tree are that some tokens spell: each declared name has a declaration in its function, names at one offset of the text are one mention, functions that begin at one offset are of one function; no two functions begin, and no two parameters of a function stand, at one mention.
pub record StandApart (items : List PlainItem) : Type 0 where
  pub declared : AllDeclared (mentions items)
  pub begin : BeginApart (mentions items)
  pub found : AllFound (flat_map (item_mentions (program_scopes items)) items)
  pub names : (q r : Mention) → HasMention q (mentions items) → HasMention r (mentions items) → is_some q.declared ≡ true → is_some r.declared ≡ true → q.name.spot.at ≡ r.name.spot.at → q ≡ r
  pub functions : NoRepeats (begun (flat_map (item_mentions (program_scopes items)) items))
  pub inner : In top (begun (flat_map (item_mentions (program_scopes items)) items)) → ⊥
  pub parameters : (f : ℕ) → NoRepeats (held_by f (flat_map parameter_in (mentions items)))

mentions_known : (items : List PlainItem) → StandApart items → (q : Mention) → HasMention q (mentions items) → IsKnown (mentions items) q
unfolding mentions unresolved_mentions
mentions_known items h q has =
    let ps = mentions items in
    let ss = flat_map (item_mentions (program_scopes items)) items in
    let right : AreRight ps = record { declared = h.declared; begin = h.begin } in
    let k : ScopesKnown ps top (program_scopes items) = program_known ps items (items_have items) in
    let first : AllKnown ps (begin_mention (program_scopes items) top (program_spot items)) = (mention_known ps _ right.declared right.begin k (inl refl), tt) in
    known_at ps (begin_mention (program_scopes items) top (program_spot items) ++ ss) q (known_append ps (begin_mention (program_scopes items) top (program_spot items)) ss first (items_knows ps right (program_scopes items) items k (items_have items))) has

-- the program of a tree that breaks no rule of names, and whose names stand apart, keeps its numbers in range
pub resolved_sound : (items : List PlainItem) → length (program_of_tree items).nodes < 4294967296 → length (program_of_tree items).functions < 4294967296 → length (program_of_tree items).constants < 4294967296
    → name_fault items ≡ None → StandApart items → IsSound (program_of_tree items)
resolved_sound items ln lf lc ok h =
    let settled : AreSettled (mentions items) = record { known = mentions_known items h; capture = λ q has. (unbroken items q ok has).1; apart = h.names } in
    accepted_sound items ln lf lc ok (record { settled = settled; found = h.found; functions = h.functions; inner = h.inner; parameters = h.parameters })
