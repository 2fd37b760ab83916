-- A mention of a program that declares a name, but for a `var`, stands directly in a scope whose own name that is.
use Rattle.std.proofs.Common.{◌≡◌, ℕ, List, [], ◌∷◌, ◌++◌, ◌∙◌, ap, refl, subst, Bool, true, false, Option, Some, None, if◌then◌else◌}
use Rattle.std.proofs.lemmas.Bool.{true≢false, false≢true}
use Rattle.std.proofs.lemmas.Slice.Eq.{bytes_eq-Decides}
use Rattle.std.specs.Prelude.{is_some}
use Rattle.std.specs.Str.{bytes_eq}
use Rattle.std.specs.List.{flat_map, AllByRecursion}
use Rattle.js_tree.specs.declared.tree.Name.{Name}
use Rattle.js_tree.specs.declared.tree.Spot.{Spot}
use Rattle.js_tree.specs.declared.tree.DeclareKind.{DeclareKind}
use Rattle.js_tree.specs.declared.tree.DeclareKind.TheVariants.{Const, Let, Var}
use Rattle.js_tree.specs.Plain as t
use Rattle.js_tree.specs.Plain.{PlainExpr, PlainForm, PlainExprs, PlainFields, PlainPerhaps, PlainDeclarators, PlainStart, PlainStmt, PlainStmtForm, PlainStmts, PlainItem}
use Rattle.js_tree.specs.Nesting.{is_object}
use Rattle.js_names.specs.declared.mention.Around.{Around}
use Rattle.js_names.specs.declared.mention.Declared.{Declared}
use Rattle.js_names.specs.declared.mention.What.{What}
use Rattle.js_names.specs.declared.mention.What.TheVariants.{Declares, Reads, Assigns, Misuses}
use Rattle.js_names.specs.Entries.{Entry, top, entry, own_declarators, own_of, own_of_all, own_of_start, own_of_item, vars_of_all}
use Rattle.js_names.specs.Scopes.{Scope, named, first, one_var, inner_scope, parameters, block_scope, for_three_scope, list_scope, for_of_scope, for_of_role, function_scope, program_scope}
use Rattle.js_names.specs.Forms.{is_undefined, is_reserved, object_of, called_builtin, value_builtin}
use Rattle.js_names.specs.Unresolved.{Unresolved, mention_in, one_mention, read_mention, assign_mention, member_mentions, in_function, in_loop, begin_mention, parameter_mentions, expr_mentions, form_mentions, exprs_mentions, fields_mentions, perhaps_mentions, declarators_mentions, start_mentions, stmt_mentions, stmt_form_mentions, stmts_mentions, item_mentions, unresolved_mentions}
use Rattle.js_names.specs.Mentions.{is_var, look_up}
use Rattle.js_names.specs.Lexicals.{is_lexical, ScopedExpr, ScopedForm, ScopedExprs, ScopedFields, ScopedPerhaps, ScopedDeclarators, ScopedStart, ScopedStmt, ScopedBody, ScopedStmtForm, ScopedStmts, ScopedItems}
use Rattle.js_names.specs.Kept.{IsOwn, IsLookedUpAlike, ProgramsKeepEnough}
use Rattle.js_names.proofs.KeptLemmas.{keeps_enough}

-- the innermost scope has the name itself
abbrev HasName : List Scope → List ℕ → Type 0
HasName [] q = Unit {0}
HasName (s ∷ ss) q = is_some (s.own q) ≡ true

abbrev HasOwn : List Scope → What → Name → Type 0
HasOwn scopes (Declares role) name = is_var role ≡ false → HasName scopes name.text
HasOwn scopes _ name = Unit {0}

abbrev AreHome : List Unresolved → Type 0
AreHome [] = Unit {0}
AreHome (s ∷ ss) = HasOwn s.scopes s.what s.name × AreHome ss

home_both : (xs ys : List Unresolved) → AreHome xs → AreHome ys → AreHome (xs ++ ys)
home_both [] ys h k = k
home_both (x ∷ xs) ys h k = (h.0, home_both xs ys h.1 k)

home_if : (b : Bool) (xs ys : List Unresolved) → AreHome xs → AreHome ys → AreHome (if b then xs else ys)
home_if true xs ys h k = h
home_if false xs ys h k = k

-- the innermost scope has these names itself
abbrev Owns : List Scope → List Entry → Type 0
Owns scopes [] = Unit {0}
Owns scopes (e ∷ es) = HasName scopes e.name × Owns scopes es

owns_left : (scopes : List Scope) (xs ys : List Entry) → Owns scopes (xs ++ ys) → Owns scopes xs
owns_left scopes [] ys h = tt
owns_left scopes (x ∷ xs) ys h = (h.0, owns_left scopes xs ys h.1)

owns_right : (scopes : List Scope) (xs ys : List Entry) → Owns scopes (xs ++ ys) → Owns scopes ys
owns_right scopes [] ys h = h
owns_right scopes (x ∷ xs) ys h = owns_right scopes xs ys h.1

-- a name among declarations
abbrev IsAmong : List ℕ → List Entry → Type 0
IsAmong q es = is_some (first (named q es)) ≡ true

among_first : (e : Entry) (es : List Entry) → IsAmong e.name (e ∷ es)
among_first e es =
    ap (λ (b : Bool). is_some (first (if b then e.declared ∷ named e.name es else named e.name es))) ((bytes_eq-Decides e.name e.name).1 refl)

among_right : (q : List ℕ) (xs ys : List Entry) → IsAmong q ys → IsAmong q (xs ++ ys)
among_right q [] ys h = h
among_right q (x ∷ xs) ys h =
    elim (bytes_eq x.name q) as (λ b. is_some (first (if b then x.declared ∷ named q (xs ++ ys) else named q (xs ++ ys))) ≡ true)
    [ true ↦ refl | false ↦ among_right q xs ys h ]

among_left : (q : List ℕ) (xs ys : List Entry) → IsAmong q xs → IsAmong q (xs ++ ys)
among_left q [] ys h = absurd (false≢true h)
among_left q (x ∷ xs) ys h =
    elim (bytes_eq x.name q) as (λ b. is_some (first (if b then x.declared ∷ named q xs else named q xs)) ≡ true
    → is_some (first (if b then x.declared ∷ named q (xs ++ ys) else named q (xs ++ ys))) ≡ true)
    [ true ↦ λ _. refl | false ↦ λ k. among_left q xs ys k ] h

-- a scope that has all of some names
owns_all : (s : Scope) (ss : List Scope) (es : List Entry) → ((q : List ℕ) → IsAmong q es → is_some (s.own q) ≡ true) → Owns (s ∷ ss) es
owns_all s ss [] f = tt
owns_all s ss (e ∷ es) f = (f e.name (among_first e es), owns_all s ss es (λ q h. f q (among_right q (e ∷ []) es h)))

block_owns : (scopes : List Scope) (o : ℕ) (ss : PlainStmts) → Owns (block_scope o ss ∷ scopes) (own_of_all o false ss)
unfolding block_scope
block_owns scopes o ss = owns_all (block_scope o ss) scopes (own_of_all o false ss) (λ q k. k)

for_owns : (scopes : List Scope) (o : ℕ) (start : PlainStart) (s : PlainStmt) → Owns (for_three_scope o start s ∷ scopes) (own_of_start o start)
unfolding for_three_scope
for_owns scopes o start s = owns_all (for_three_scope o start s) scopes (own_of_start o start) (λ q k. k)

list_owns : (scopes : List Scope) (o : ℕ) (kind : DeclareKind) (name : Name) → HasName (list_scope o kind name ∷ scopes) name.text
unfolding list_scope
list_owns scopes o kind name = among_first (entry name (for_of_role kind) top o false 0) []

-- what the `var`s of a function say of its parameters
abbrev given_vars : ℕ → PlainStmts → List ℕ → Option Declared
given_vars o ss q = one_var (named q (vars_of_all o true ss))

parameters_own : (scopes : List Scope) (o : ℕ) (names : List Name) (ss : PlainStmts) → Owns (function_scope o names ss ∷ scopes) (parameters o (given_vars o ss) names)
unfolding function_scope
parameters_own scopes o names ss =
    owns_all (function_scope o names ss) scopes (parameters o (given_vars o ss) names) (λ q k. among_left q (parameters o (given_vars o ss) names) (own_of_all o true ss) k)

function_owns : (scopes : List Scope) (o : ℕ) (names : List Name) (ss : PlainStmts) → Owns (function_scope o names ss ∷ scopes) (own_of_all o true ss)
unfolding function_scope
function_owns scopes o names ss =
    owns_all (function_scope o names ss) scopes (own_of_all o true ss) (λ q k. among_right q (parameters o (given_vars o ss) names) (own_of_all o true ss) k)

-- the body of an `if` or of a loop declares nothing for the scope in which it stands
var_owns : (scopes : List Scope) (o : ℕ) (d : Bool) (ds : PlainDeclarators) → Owns scopes (own_declarators o d Var ds)
var_owns scopes o d t.no_declarators = tt
var_owns scopes o d (t.declarator_in name value end ds) = var_owns scopes o d ds

body_owns : (scopes : List Scope) (o : ℕ) (d : Bool) (line : ℕ) (form : PlainStmtForm) → is_lexical (t.on line form) ≡ false → Owns scopes (own_of o d (t.on line form))
body_owns scopes o d line (t.declaration Const ds) h = absurd (true≢false h)
body_owns scopes o d line (t.declaration Let ds) h = absurd (true≢false h)
body_owns scopes o d line (t.declaration Var ds) h = var_owns scopes o d ds
body_owns scopes o d line form h = tt

home_read : (scopes : List Scope) (a : Around) (name : Name) → AreHome (read_mention scopes a name)
home_read scopes a name =
    home_if (is_object name.text) (one_mention scopes a Misuses name) (if is_undefined name.text then [] else one_mention scopes a Reads name) (tt, tt)
    (home_if (is_undefined name.text) [] (one_mention scopes a Reads name) tt (tt, tt))

home_assign : (scopes : List Scope) (a : Around) (name : Name) → AreHome (assign_mention scopes a name)
home_assign scopes a name = home_if (is_reserved name.text) (one_mention scopes a Misuses name) (one_mention scopes a Assigns name) (tt, tt) (tt, tt)

home_member : (scopes : List Scope) (a : Around) (o : Option Name) (word : List ℕ) (v : Bool) (ms : List Unresolved) → AreHome ms → AreHome (member_mentions scopes a o word v ms)
home_member scopes a None word v ms h = h
home_member scopes a (Some object) word true ms h = tt
home_member scopes a (Some object) word false ms h = (tt, tt)

home_parameters : (scopes : List Scope) (a : Around) (o : ℕ) (vars : List ℕ → Option Declared) (names : List Name) → Owns scopes (parameters o vars names) → AreHome (parameter_mentions scopes a names)
home_parameters scopes a o vars [] w = tt
home_parameters scopes a o vars (n ∷ ns) w = (λ _. w.0, home_parameters scopes a o vars ns w.1)

-- the first token and the parameters of a function, and what is in it
home_function : (scopes : List Scope) (spot : Spot) (names : List Name) (ss : PlainStmts) (ms : List Unresolved) → AreHome ms →
    AreHome (begin_mention (function_scope spot.at names ss ∷ scopes) spot.at spot ++ (parameter_mentions (function_scope spot.at names ss ∷ scopes) (in_function spot.at) names ++ ms))
home_function scopes spot names ss ms h =
    let inner = function_scope spot.at names ss ∷ scopes in (
      tt,
      home_both (parameter_mentions inner (in_function spot.at) names) ms
          (home_parameters inner (in_function spot.at) spot.at (given_vars spot.at ss) names (parameters_own scopes spot.at names ss)) h,
    )

mutual
  unfolding expr_mentions form_mentions exprs_mentions fields_mentions perhaps_mentions declarators_mentions start_mentions stmt_mentions stmt_form_mentions stmts_mentions

  home_expr : (scopes : List Scope) (a : Around) (e : PlainExpr) → ScopedExpr e → AreHome (expr_mentions scopes a e)
  home_expr scopes a (t.at parens line form) s = home_form scopes a form s

  home_form : (scopes : List Scope) (a : Around) (form : PlainForm) → ScopedForm form → AreHome (form_mentions scopes a form)
  home_form scopes a (t.number n) s = tt
  home_form scopes a (t.text text) s = tt
  home_form scopes a (t.truth b) s = tt
  home_form scopes a t.null s = tt
  home_form scopes a (t.use_of name) s = home_read scopes a name
  home_form scopes a (t.list es) s = home_exprs scopes a es s
  home_form scopes a (t.fields fs) s = home_fields scopes a fs s
  home_form scopes a (t.member e word) s = home_member scopes a (object_of e) word (is_some (value_builtin e word)) (expr_mentions scopes a e) (home_expr scopes a e s)
  home_form scopes a (t.index e i) s = home_both (expr_mentions scopes a e) (expr_mentions scopes a i) (home_expr scopes a e s.0) (home_expr scopes a i s.1)
  home_form scopes a (t.call e es) s =
      home_both (if is_some (called_builtin e) then [] else expr_mentions scopes a e) (exprs_mentions scopes a es)
      (home_if (is_some (called_builtin e)) [] (expr_mentions scopes a e) tt (home_expr scopes a e s.0)) (home_exprs scopes a es s.1)
  home_form scopes a (t.unary sign e) s = home_expr scopes a e s
  home_form scopes a (t.update step fix name) s = home_assign scopes a name
  home_form scopes a (t.binary op l r) s = home_both (expr_mentions scopes a l) (expr_mentions scopes a r) (home_expr scopes a l s.0) (home_expr scopes a r s.1)
  home_form scopes a (t.conditional l m r) s =
      home_both (expr_mentions scopes a l) (expr_mentions scopes a m ++ expr_mentions scopes a r) (home_expr scopes a l s.0)
      (home_both (expr_mentions scopes a m) (expr_mentions scopes a r) (home_expr scopes a m s.1.0) (home_expr scopes a r s.1.1))
  home_form scopes a (t.assign op name e) s = home_both (assign_mention scopes a name) (expr_mentions scopes a e) (home_assign scopes a name) (home_expr scopes a e s)
  home_form scopes a (t.arrow_value spot names e) s =
      let inner = function_scope spot.at names t.no_stmts ∷ scopes in
      home_function scopes spot names t.no_stmts (expr_mentions inner (in_function spot.at) e) (home_expr inner (in_function spot.at) e s)
  home_form scopes a (t.arrow_block spot names ss) s =
      let inner = function_scope spot.at names ss ∷ scopes in
      home_function scopes spot names ss (stmts_mentions inner (in_function spot.at) ss) (home_stmts inner (in_function spot.at) spot.at true ss s (function_owns scopes spot.at names ss))
  home_form scopes a (t.function spot names ss) s =
      let inner = function_scope spot.at names ss ∷ scopes in
      home_function scopes spot names ss (stmts_mentions inner (in_function spot.at) ss) (home_stmts inner (in_function spot.at) spot.at true ss s (function_owns scopes spot.at names ss))

  home_exprs : (scopes : List Scope) (a : Around) (es : PlainExprs) → ScopedExprs es → AreHome (exprs_mentions scopes a es)
  home_exprs scopes a t.no_exprs s = tt
  home_exprs scopes a (t.expr_in e es) s = home_both (expr_mentions scopes a e) (exprs_mentions scopes a es) (home_expr scopes a e s.0) (home_exprs scopes a es s.1)

  home_fields : (scopes : List Scope) (a : Around) (fs : PlainFields) → ScopedFields fs → AreHome (fields_mentions scopes a fs)
  home_fields scopes a t.no_fields s = tt
  home_fields scopes a (t.field_in key e fs) s = home_both (expr_mentions scopes a e) (fields_mentions scopes a fs) (home_expr scopes a e s.0) (home_fields scopes a fs s.1)

  home_perhaps : (scopes : List Scope) (a : Around) (e : PlainPerhaps) → ScopedPerhaps e → AreHome (perhaps_mentions scopes a e)
  home_perhaps scopes a t.absent s = tt
  home_perhaps scopes a (t.present e) s = home_expr scopes a e s

  home_declarators : (scopes : List Scope) (a : Around) (o : ℕ) (d : Bool) (kind : DeclareKind) (ds : PlainDeclarators) → ScopedDeclarators ds → Owns scopes (own_declarators o d kind ds) →
      AreHome (declarators_mentions scopes a kind ds)
  home_declarators scopes a o d kind t.no_declarators s w = tt
  home_declarators scopes a o d Const (t.declarator_in name value end ds) s w =
      (λ _. w.0, home_both (perhaps_mentions scopes a value) (declarators_mentions scopes a Const ds) (home_perhaps scopes a value s.0) (home_declarators scopes a o d Const ds s.1 w.1))
  home_declarators scopes a o d Let (t.declarator_in name value end ds) s w =
      (λ _. w.0, home_both (perhaps_mentions scopes a value) (declarators_mentions scopes a Let ds) (home_perhaps scopes a value s.0) (home_declarators scopes a o d Let ds s.1 w.1))
  home_declarators scopes a o d Var (t.declarator_in name value end ds) s w =
      (λ v. absurd (true≢false v), home_both (perhaps_mentions scopes a value) (declarators_mentions scopes a Var ds) (home_perhaps scopes a value s.0) (home_declarators scopes a o d Var ds s.1 w))

  home_start : (scopes : List Scope) (a : Around) (o : ℕ) (start : PlainStart) → ScopedStart start → Owns scopes (own_of_start o start) → AreHome (start_mentions scopes a start)
  home_start scopes a o t.nothing s w = tt
  home_start scopes a o (t.declared line kind ds) s w = home_declarators scopes a o false kind ds s w
  home_start scopes a o (t.started e) s w = home_expr scopes a e s

  home_stmt : (scopes : List Scope) (a : Around) (o : ℕ) (d : Bool) (x : PlainStmt) → ScopedStmt x → Owns scopes (own_of o d x) → AreHome (stmt_mentions scopes a x)
  home_stmt scopes a o d (t.on line form) s w = home_stmt_form scopes a o d line form s w

  home_body : (scopes : List Scope) (a : Around) (x : PlainStmt) → ScopedBody x → AreHome (stmt_mentions scopes a x)
  home_body scopes a (t.on line form) s = home_stmt_form scopes a 0 false line form s.1 (body_owns scopes 0 false line form s.0)

  home_stmt_form : (scopes : List Scope) (a : Around) (o : ℕ) (d : Bool) (line : ℕ) (form : PlainStmtForm) → ScopedStmtForm form → Owns scopes (own_of o d (t.on line form)) →
      AreHome (stmt_form_mentions scopes a form)
  home_stmt_form scopes a o d line t.empty s w = tt
  home_stmt_form scopes a o d line (t.block ss) s w = home_stmts (block_scope a.owner ss ∷ scopes) a a.owner false ss s (block_owns scopes a.owner ss)
  home_stmt_form scopes a o d line (t.declaration kind ds) s w = home_declarators scopes a o d kind ds s w
  home_stmt_form scopes a o d line (t.expression e) s w = home_expr scopes a e s
  home_stmt_form scopes a o d line (t.if_alone e x) s w = home_both (expr_mentions scopes a e) (stmt_mentions scopes a x) (home_expr scopes a e s.0) (home_body scopes a x s.1)
  home_stmt_form scopes a o d line (t.if_else e x y) s w =
      home_both (expr_mentions scopes a e) (stmt_mentions scopes a x ++ stmt_mentions scopes a y) (home_expr scopes a e s.0)
      (home_both (stmt_mentions scopes a x) (stmt_mentions scopes a y) (home_body scopes a x s.1.0) (home_body scopes a y s.1.1))
  home_stmt_form scopes a o d line (t.while_of e x) s w = home_both (expr_mentions scopes a e) (stmt_mentions scopes (in_loop a) x) (home_expr scopes a e s.0) (home_body scopes (in_loop a) x s.1)
  home_stmt_form scopes a o d line (t.for_three start test next x) s w =
      let inner = for_three_scope a.owner start x ∷ scopes in
      let body = stmt_mentions inner (in_loop a) x in
      home_both (start_mentions inner a start) (perhaps_mentions inner a test ++ (perhaps_mentions inner a next ++ body)) (home_start inner a a.owner start s.0 (for_owns scopes a.owner start x))
      (home_both (perhaps_mentions inner a test) (perhaps_mentions inner a next ++ body) (home_perhaps inner a test s.1.0)
      (home_both (perhaps_mentions inner a next) body (home_perhaps inner a next s.1.1.0) (home_body inner (in_loop a) x s.1.1.1)))
  home_stmt_form scopes a o d line (t.for_of kind name e x) s w =
      let listed = list_scope a.owner kind name ∷ scopes in
      let inner = for_of_scope a.owner kind name x ∷ scopes in
      (λ _. list_owns scopes a.owner kind name, home_both (expr_mentions listed a e) (stmt_mentions inner (in_loop a) x) (home_expr listed a e s.0) (home_body inner (in_loop a) x s.1))
  home_stmt_form scopes a o d line (t.break_of spot) s w = (tt, tt)
  home_stmt_form scopes a o d line (t.continue_of spot) s w = (tt, tt)
  home_stmt_form scopes a o d line (t.return_nothing spot) s w = (tt, tt)
  home_stmt_form scopes a o d line (t.return_of spot e) s w = (tt, home_expr scopes a e s)

  home_stmts : (scopes : List Scope) (a : Around) (o : ℕ) (d : Bool) (ss : PlainStmts) → ScopedStmts ss → Owns scopes (own_of_all o d ss) → AreHome (stmts_mentions scopes a ss)
  home_stmts scopes a o d t.no_stmts s w = tt
  home_stmts scopes a o d (t.stmt_in x xs) s w =
      home_both (stmt_mentions scopes a x) (stmts_mentions scopes a xs) (home_stmt scopes a o d x s.0 (owns_left scopes (own_of o d x) (own_of_all o d xs) w))
      (home_stmts scopes a o d xs s.1 (owns_right scopes (own_of o d x) (own_of_all o d xs) w))

home_items : (scopes : List Scope) (items : List PlainItem) → ScopedItems items → Owns scopes (flat_map own_of_item items) → AreHome (flat_map (item_mentions scopes) items)
unfolding item_mentions
home_items scopes [] s w = tt
home_items scopes (t.statement spot x ∷ items) s w =
    home_both (stmt_mentions scopes (in_function top) x) (flat_map (item_mentions scopes) items)
    (home_stmt scopes (in_function top) top true x s.0 (owns_left scopes (own_of top true x) (flat_map own_of_item items) w))
    (home_items scopes items s.1 (owns_right scopes (own_of top true x) (flat_map own_of_item items) w))
home_items scopes (t.function_of spot name names ss ∷ items) s w =
    let inner = function_scope spot.at names ss ∷ scopes in
    home_both (item_mentions scopes (t.function_of spot name names ss)) (flat_map (item_mentions scopes) items)
    (λ _. w.0, home_function scopes spot names ss (stmts_mentions inner (in_function spot.at) ss) (home_stmts inner (in_function spot.at) spot.at true ss s.0 (function_owns scopes spot.at names ss)))
    (home_items scopes items s.1 w.1)

home_program : (items : List PlainItem) → ScopedItems items → AreHome (unresolved_mentions items)
unfolding unresolved_mentions program_scope
home_program items s =
    (tt, home_items (program_scope items ∷ []) items s (owns_all (program_scope items) [] (flat_map own_of_item items) (λ q k. k)))

own_here : (own vars : List Entry) (owner : ℕ) (outside : List Scope) (what : What) (name : Name) → HasOwn (inner_scope own vars owner ∷ outside) what name → IsOwn own what name
own_here own vars owner outside (Declares role) name h = h
own_here own vars owner outside what name h = tt

looked_up_alike : (s : Unresolved) → HasOwn s.scopes s.what s.name → IsLookedUpAlike s
looked_up_alike s h own vars owner inside outside e =
    ap (λ (ss : List Scope). look_up (mention_in ss s.around s.what s.name)) e
    ∙ keeps_enough own vars owner inside outside s.around s.what s.name (λ n. own_here own vars owner outside s.what s.name
    (subst (λ (ss : List Scope). HasOwn ss s.what s.name) (e ∙ ap (λ (xs : List Scope). xs ++ inner_scope own vars owner ∷ outside) n) h))

all_alike : (ss : List Unresolved) → AreHome ss → AllByRecursion IsLookedUpAlike ss
all_alike [] h = tt
all_alike (s ∷ ss) h = (looked_up_alike s h.0, all_alike ss h.1)

pub programs_keep_enough : ProgramsKeepEnough
programs_keep_enough items s = all_alike (unresolved_mentions items) (home_program items s)
