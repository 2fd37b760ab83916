-- What holds of the scopes of some forms holds of the scopes of each mention in them, if it goes on into each scope that begins there.
use Rattle.std.proofs.Common.{◌≡◌, ℕ, List, [], ◌∷◌, ◌++◌, sym, subst, Option, Some, None, Bool, true, false, if◌then◌else◌, inl, inr}
use Rattle.std.specs.Prelude.{is_some}
use Rattle.js_tree.specs.declared.tree.Name.{Name}
use Rattle.js_tree.specs.declared.tree.Spot.{Spot}
use Rattle.js_tree.specs.declared.tree.DeclareKind.{DeclareKind}
use Rattle.js_tree.specs.Plain as t
use Rattle.js_tree.specs.Plain.{PlainExpr, PlainForm, PlainExprs, PlainFields, PlainPerhaps, PlainDeclarators, PlainStart, PlainStmt, PlainStmtForm, PlainStmts}
use Rattle.js_tree.specs.Nesting.{is_object}
use Rattle.js_names.specs.declared.mention.Around.{Around}
use Rattle.js_names.specs.declared.mention.What.{What}
use Rattle.js_names.specs.Scopes.{Scope, block_scope, for_three_scope, list_scope, for_of_scope, for_of_role, function_scope}
use Rattle.js_names.specs.Forms.{is_undefined, is_reserved, object_of, called_builtin, value_builtin}
use Rattle.js_names.specs.Unresolved.{Unresolved, one_mention, read_mention, assign_mention, member_mentions, in_function, in_loop, begin_mention, parameter_mentions, declared_role, expr_mentions, form_mentions, exprs_mentions, fields_mentions, perhaps_mentions, declarators_mentions, start_mentions, stmt_mentions, stmt_form_mentions, stmts_mentions}
use Rattle.js_resolver.proofs.sound.Functions.{begun, begun-append}
use Rattle.js_resolver.proofs.sound.Lists.{In, in-left, in-right}

-- what goes on into scopes that begin: those of blocks and loops, and those of all functions but f
pub record IsClosed (P : ℕ → List Scope → Type 0) (f : ℕ) : Type 0 where
  pub block : (g : ℕ) (ss : PlainStmts) (scopes : List Scope) → P g scopes → P g (block_scope g ss ∷ scopes)
  pub head : (g : ℕ) (start : PlainStart) (s : PlainStmt) (scopes : List Scope) → P g scopes → P g (for_three_scope g start s ∷ scopes)
  pub list : (g : ℕ) (kind : DeclareKind) (name : Name) (scopes : List Scope) → P g scopes → P g (list_scope g kind name ∷ scopes)
  pub iteration : (g : ℕ) (kind : DeclareKind) (name : Name) (s : PlainStmt) (scopes : List Scope) → P g scopes → P g (for_of_scope g kind name s ∷ scopes)
  pub function : (g h : ℕ) (names : List Name) (ss : PlainStmts) (scopes : List Scope) → (h ≡ f → ⊥) → P g scopes → P h (function_scope h names ss ∷ scopes)

abbrev pub AllIn : (ℕ → List Scope → Type 0) → List Unresolved → Type 0
AllIn P [] = Unit {0}
AllIn P (s ∷ ss) = P s.around.owner s.scopes × AllIn P ss

-- where f does not begin
abbrev pub Walks : (ℕ → List Scope → Type 0) → ℕ → List Unresolved → Type 0
Walks P f ss = (In f (begun ss) → ⊥) → AllIn P ss

in_append : (P : ℕ → List Scope → Type 0) (xs ys : List Unresolved) → AllIn P xs → AllIn P ys → AllIn P (xs ++ ys)
in_append P [] ys h k = k
in_append P (x ∷ xs) ys h k = (h.0, in_append P xs ys h.1 k)

pub walks_append : (P : ℕ → List Scope → Type 0) (f : ℕ) (xs ys : List Unresolved) → Walks P f xs → Walks P f ys → Walks P f (xs ++ ys)
walks_append P f xs ys g h absent =
    let both : In f (begun xs ++ begun ys) → ⊥ = λ m. absent (subst (In f) (sym (begun-append xs ys)) m) in
    in_append P xs ys (g (λ m. both (in-left f (begun xs) (begun ys) m))) (h (λ m. both (in-right f (begun xs) (begun ys) m)))

pub walks_mention : (P : ℕ → List Scope → Type 0) (f : ℕ) (scopes : List Scope) (a : Around) (what : What) (name : Name) → P a.owner scopes → Walks P f (one_mention scopes a what name)
walks_mention P f scopes a what name k absent = (k, tt)

walks_read : (P : ℕ → List Scope → Type 0) (f : ℕ) (scopes : List Scope) (a : Around) (name : Name) → P a.owner scopes → Walks P f (read_mention scopes a name)
walks_read P f scopes a name k =
    elim (is_object name.text) as (λ b. Walks P f (if b then one_mention scopes a What.Misuses name else (if is_undefined name.text then [] else one_mention scopes a What.Reads name))) [
      | true ↦ walks_mention P f scopes a What.Misuses name k
      | false ↦ elim (is_undefined name.text) as (λ b. Walks P f (if b then [] else one_mention scopes a What.Reads name)) [ true ↦ λ absent. tt | false ↦ walks_mention P f scopes a What.Reads name k ]
    ]

walks_assign : (P : ℕ → List Scope → Type 0) (f : ℕ) (scopes : List Scope) (a : Around) (name : Name) → P a.owner scopes → Walks P f (assign_mention scopes a name)
walks_assign P f scopes a name k =
    elim (is_reserved name.text) as (λ b. Walks P f (if b then one_mention scopes a What.Misuses name else one_mention scopes a What.Assigns name)) [ true ↦ walks_mention P f scopes a What.Misuses name k | false ↦ walks_mention P f scopes a What.Assigns name k ]

walks_member : (P : ℕ → List Scope → Type 0) (f : ℕ) (scopes : List Scope) (a : Around) (object : Option Name) (word : List ℕ) (v : Bool) (ms : List Unresolved) → P a.owner scopes → Walks P f ms → Walks P f (member_mentions scopes a object word v ms)
walks_member P f scopes a None word v ms k h = h
walks_member P f scopes a (Some object) word true ms k h = λ absent. tt
walks_member P f scopes a (Some object) word false ms k h = λ absent. (k, tt)

walks_unless : (P : ℕ → List Scope → Type 0) (f : ℕ) (b : Bool) (ms : List Unresolved) → Walks P f ms → Walks P f (if b then [] else ms)
walks_unless P f true ms h = λ absent. tt
walks_unless P f false ms h = h

walks_parameters : (P : ℕ → List Scope → Type 0) (f g : ℕ) (scopes : List Scope) (names : List Name) → P g scopes → AllIn P (parameter_mentions scopes (in_function g) names)
walks_parameters P f g scopes [] k = tt
walks_parameters P f g scopes (x ∷ xs) k = (k, walks_parameters P f g scopes xs k)

-- a function that is not f
pub walks_function : (P : ℕ → List Scope → Type 0) (f : ℕ) (r : IsClosed P f) (scopes : List Scope) (g : ℕ) (spot : Spot) (names : List Name) (ss : PlainStmts) (ms : List Unresolved) → P g scopes
    → (P spot.at (function_scope spot.at names ss ∷ scopes) → Walks P f ms)
    → Walks P f (begin_mention (function_scope spot.at names ss ∷ scopes) spot.at spot ++ (parameter_mentions (function_scope spot.at names ss ∷ scopes) (in_function spot.at) names ++ ms))
walks_function P f r scopes g spot names ss ms k walk absent =
    let inner = function_scope spot.at names ss ∷ scopes in
    let params = parameter_mentions inner (in_function spot.at) names in
    let m = r.function g spot.at names ss scopes (λ e. absent (inl (sym e))) k in
    let rest : In f (begun ms) → ⊥ = λ h. absent (inr (subst (In f) (sym (begun-append params ms)) (in-right f (begun params) (begun ms) h))) in
    (m, in_append P params ms (walks_parameters P f spot.at inner names m) (walk m rest))

mutual
  unfolding expr_mentions form_mentions exprs_mentions fields_mentions perhaps_mentions declarators_mentions start_mentions stmt_mentions stmt_form_mentions stmts_mentions

  expr_walks : (P : ℕ → List Scope → Type 0) (f : ℕ) (r : IsClosed P f) (scopes : List Scope) (a : Around) (e : PlainExpr) → P a.owner scopes → Walks P f (expr_mentions scopes a e)
  expr_walks P f r scopes a (t.at parens line form) k = form_walks P f r scopes a form k

  form_walks : (P : ℕ → List Scope → Type 0) (f : ℕ) (r : IsClosed P f) (scopes : List Scope) (a : Around) (form : PlainForm) → P a.owner scopes → Walks P f (form_mentions scopes a form)
  form_walks P f r scopes a (t.number i) k = λ h. tt
  form_walks P f r scopes a (t.text text) k = λ h. tt
  form_walks P f r scopes a (t.truth v) k = λ h. tt
  form_walks P f r scopes a t.null k = λ h. tt
  form_walks P f r scopes a (t.use_of name) k = walks_read P f scopes a name k
  form_walks P f r scopes a (t.list es) k = exprs_walks P f r scopes a es k
  form_walks P f r scopes a (t.fields fs) k = fields_walks P f r scopes a fs k
  form_walks P f r scopes a (t.member e word) k = walks_member P f scopes a (object_of e) word (is_some (value_builtin e word)) (expr_mentions scopes a e) k (expr_walks P f r scopes a e k)
  form_walks P f r scopes a (t.index e i) k = walks_append P f (expr_mentions scopes a e) (expr_mentions scopes a i) (expr_walks P f r scopes a e k) (expr_walks P f r scopes a i k)
  form_walks P f r scopes a (t.call e es) k =
      walks_append P f (if is_some (called_builtin e) then [] else expr_mentions scopes a e) (exprs_mentions scopes a es) (walks_unless P f (is_some (called_builtin e)) (expr_mentions scopes a e) (expr_walks P f r scopes a e k)) (exprs_walks P f r scopes a es k)
  form_walks P f r scopes a (t.unary s e) k = expr_walks P f r scopes a e k
  form_walks P f r scopes a (t.update s x name) k = walks_assign P f scopes a name k
  form_walks P f r scopes a (t.binary op x y) k = walks_append P f (expr_mentions scopes a x) (expr_mentions scopes a y) (expr_walks P f r scopes a x k) (expr_walks P f r scopes a y k)
  form_walks P f r scopes a (t.conditional x y z) k =
      walks_append P f (expr_mentions scopes a x) (expr_mentions scopes a y ++ expr_mentions scopes a z) (expr_walks P f r scopes a x k) (walks_append P f (expr_mentions scopes a y) (expr_mentions scopes a z) (expr_walks P f r scopes a y k) (expr_walks P f r scopes a z k))
  form_walks P f r scopes a (t.assign op name e) k = walks_append P f (assign_mention scopes a name) (expr_mentions scopes a e) (walks_assign P f scopes a name k) (expr_walks P f r scopes a e k)
  form_walks P f r scopes a (t.arrow_value spot names e) k =
      let inner = function_scope spot.at names t.no_stmts ∷ scopes in
      walks_function P f r scopes a.owner spot names t.no_stmts (expr_mentions inner (in_function spot.at) e) k (λ m. expr_walks P f r inner (in_function spot.at) e m)
  form_walks P f r scopes a (t.arrow_block spot names ss) k =
      let inner = function_scope spot.at names ss ∷ scopes in
      walks_function P f r scopes a.owner spot names ss (stmts_mentions inner (in_function spot.at) ss) k (λ m. stmts_walks P f r inner (in_function spot.at) ss m)
  form_walks P f r scopes a (t.function spot names ss) k =
      let inner = function_scope spot.at names ss ∷ scopes in
      walks_function P f r scopes a.owner spot names ss (stmts_mentions inner (in_function spot.at) ss) k (λ m. stmts_walks P f r inner (in_function spot.at) ss m)

  exprs_walks : (P : ℕ → List Scope → Type 0) (f : ℕ) (r : IsClosed P f) (scopes : List Scope) (a : Around) (es : PlainExprs) → P a.owner scopes → Walks P f (exprs_mentions scopes a es)
  exprs_walks P f r scopes a t.no_exprs k = λ h. tt
  exprs_walks P f r scopes a (t.expr_in e es) k = walks_append P f (expr_mentions scopes a e) (exprs_mentions scopes a es) (expr_walks P f r scopes a e k) (exprs_walks P f r scopes a es k)

  fields_walks : (P : ℕ → List Scope → Type 0) (f : ℕ) (r : IsClosed P f) (scopes : List Scope) (a : Around) (fs : PlainFields) → P a.owner scopes → Walks P f (fields_mentions scopes a fs)
  fields_walks P f r scopes a t.no_fields k = λ h. tt
  fields_walks P f r scopes a (t.field_in key e fs) k = walks_append P f (expr_mentions scopes a e) (fields_mentions scopes a fs) (expr_walks P f r scopes a e k) (fields_walks P f r scopes a fs k)

  perhaps_walks : (P : ℕ → List Scope → Type 0) (f : ℕ) (r : IsClosed P f) (scopes : List Scope) (a : Around) (e : PlainPerhaps) → P a.owner scopes → Walks P f (perhaps_mentions scopes a e)
  perhaps_walks P f r scopes a t.absent k = λ h. tt
  perhaps_walks P f r scopes a (t.present e) k = expr_walks P f r scopes a e k

  declarators_walks : (P : ℕ → List Scope → Type 0) (f : ℕ) (r : IsClosed P f) (scopes : List Scope) (a : Around) (kind : DeclareKind) (ds : PlainDeclarators) → P a.owner scopes → Walks P f (declarators_mentions scopes a kind ds)
  declarators_walks P f r scopes a kind t.no_declarators k = λ h. tt
  declarators_walks P f r scopes a kind (t.declarator_in name value end ds) k =
      walks_append P f (one_mention scopes a (What.Declares (declared_role kind)) name) (perhaps_mentions scopes a value ++ declarators_mentions scopes a kind ds) (walks_mention P f scopes a (What.Declares (declared_role kind)) name k)
      (walks_append P f (perhaps_mentions scopes a value) (declarators_mentions scopes a kind ds) (perhaps_walks P f r scopes a value k) (declarators_walks P f r scopes a kind ds k))

  start_walks : (P : ℕ → List Scope → Type 0) (f : ℕ) (r : IsClosed P f) (scopes : List Scope) (a : Around) (s : PlainStart) → P a.owner scopes → Walks P f (start_mentions scopes a s)
  start_walks P f r scopes a t.nothing k = λ h. tt
  start_walks P f r scopes a (t.declared line kind ds) k = declarators_walks P f r scopes a kind ds k
  start_walks P f r scopes a (t.started e) k = expr_walks P f r scopes a e k

  pub stmt_walks : (P : ℕ → List Scope → Type 0) (f : ℕ) (r : IsClosed P f) (scopes : List Scope) (a : Around) (s : PlainStmt) → P a.owner scopes → Walks P f (stmt_mentions scopes a s)
  stmt_walks P f r scopes a (t.on line form) k = stmt_form_walks P f r scopes a form k

  stmt_form_walks : (P : ℕ → List Scope → Type 0) (f : ℕ) (r : IsClosed P f) (scopes : List Scope) (a : Around) (form : PlainStmtForm) → P a.owner scopes → Walks P f (stmt_form_mentions scopes a form)
  stmt_form_walks P f r scopes a t.empty k = λ h. tt
  stmt_form_walks P f r scopes a (t.block ss) k = stmts_walks P f r (block_scope a.owner ss ∷ scopes) a ss (r.block a.owner ss scopes k)
  stmt_form_walks P f r scopes a (t.declaration kind ds) k = declarators_walks P f r scopes a kind ds k
  stmt_form_walks P f r scopes a (t.expression e) k = expr_walks P f r scopes a e k
  stmt_form_walks P f r scopes a (t.if_alone e s) k = walks_append P f (expr_mentions scopes a e) (stmt_mentions scopes a s) (expr_walks P f r scopes a e k) (stmt_walks P f r scopes a s k)
  stmt_form_walks P f r scopes a (t.if_else e s other) k =
      walks_append P f (expr_mentions scopes a e) (stmt_mentions scopes a s ++ stmt_mentions scopes a other) (expr_walks P f r scopes a e k) (walks_append P f (stmt_mentions scopes a s) (stmt_mentions scopes a other) (stmt_walks P f r scopes a s k) (stmt_walks P f r scopes a other k))
  stmt_form_walks P f r scopes a (t.while_of e s) k = walks_append P f (expr_mentions scopes a e) (stmt_mentions scopes (in_loop a) s) (expr_walks P f r scopes a e k) (stmt_walks P f r scopes (in_loop a) s k)
  stmt_form_walks P f r scopes a (t.for_three start test next s) k =
      let inner = for_three_scope a.owner start s ∷ scopes in
      let last = stmt_mentions inner (in_loop a) s in
      let m = r.head a.owner start s scopes k in
      walks_append P f (start_mentions inner a start) (perhaps_mentions inner a test ++ (perhaps_mentions inner a next ++ last)) (start_walks P f r inner a start m)
      (walks_append P f (perhaps_mentions inner a test) (perhaps_mentions inner a next ++ last) (perhaps_walks P f r inner a test m)
      (walks_append P f (perhaps_mentions inner a next) last (perhaps_walks P f r inner a next m) (stmt_walks P f r inner (in_loop a) s m)))
  stmt_form_walks P f r scopes a (t.for_of kind name e s) k =
      let listed = list_scope a.owner kind name ∷ scopes in
      let inner = for_of_scope a.owner kind name s ∷ scopes in
      let m = r.list a.owner kind name scopes k in
      walks_append P f (one_mention listed a (What.Declares (for_of_role kind)) name) (expr_mentions listed a e ++ stmt_mentions inner (in_loop a) s) (walks_mention P f listed a (What.Declares (for_of_role kind)) name m)
      (walks_append P f (expr_mentions listed a e) (stmt_mentions inner (in_loop a) s) (expr_walks P f r listed a e m) (stmt_walks P f r inner (in_loop a) s (r.iteration a.owner kind name s scopes k)))
  stmt_form_walks P f r scopes a (t.break_of spot) k = λ absent. (k, tt)
  stmt_form_walks P f r scopes a (t.continue_of spot) k = λ absent. (k, tt)
  stmt_form_walks P f r scopes a (t.return_nothing spot) k = λ absent. (k, tt)
  stmt_form_walks P f r scopes a (t.return_of spot e) k = λ absent. (k, expr_walks P f r scopes a e k absent)

  pub stmts_walks : (P : ℕ → List Scope → Type 0) (f : ℕ) (r : IsClosed P f) (scopes : List Scope) (a : Around) (ss : PlainStmts) → P a.owner scopes → Walks P f (stmts_mentions scopes a ss)
  stmts_walks P f r scopes a t.no_stmts k = λ h. tt
  stmts_walks P f r scopes a (t.stmt_in s ss) k = walks_append P f (stmt_mentions scopes a s) (stmts_mentions scopes a ss) (stmt_walks P f r scopes a s k) (stmts_walks P f r scopes a ss k)
