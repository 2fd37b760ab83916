-- What the scopes of a program declare stands at its mentions.
use Rattle.std.proofs.Common.{◌≡◌, ◌∙◌, inl, inr, ℕ, List, [], ◌∷◌, ◌++◌, refl, ap, sym, subst, Option, Some, None, Bool, true, false, not, ◌&&◌, ◌||◌, if◌then◌else◌, nat_eq}
use Rattle.std.proofs.lemmas.Bool.{eq-eqb, and_right, false≢true, true≢false}
use Rattle.std.specs.Prelude.{is_some, max}
use Rattle.std.proofs.lemmas.Slice.Eq.{bytes_eq-Decides}
use Rattle.std.specs.Str.{bytes_eq}
use Rattle.std.specs.List.{filter_map, cons_option}
use Rattle.js_tree.specs.declared.tree.Name.{Name}
use Rattle.js_tree.specs.declared.tree.DeclareKind.{DeclareKind}
use Rattle.js_tree.specs.declared.tree.DeclareKind.TheVariants.{Const as const_word, Let as let_word, Var as var_word}
use Rattle.js_tree.specs.Plain as t
use Rattle.js_tree.specs.Plain.{PlainPerhaps, PlainDeclarators, PlainStart, PlainStmt, PlainStmtForm, PlainStmts}
use Rattle.js_names.specs.declared.mention.Around.{Around}
use Rattle.js_names.specs.declared.mention.Declared.{Declared}
use Rattle.js_names.specs.declared.mention.Role.{Role}
use Rattle.js_names.specs.declared.mention.Role.TheVariants.{Parameter, Const, Let, Var, Function}
use Rattle.js_names.specs.declared.mention.What.{What}
use Rattle.js_names.specs.Entries.{Entry, top, entry, own_declarator, own_declarators, var_declarator, var_declarators, own_of, own_of_all, own_of_start, vars_of, vars_of_form, vars_of_all, vars_of_start}
use Rattle.js_names.specs.Scopes.{Scope, named, first, one_var, merge, parameters, block_scope, for_three_scope, list_scope, for_of_scope, for_of_role}
use Rattle.js_names.specs.Unresolved.{Unresolved, one_mention, in_function, in_loop, parameter_mentions, declared_role, expr_mentions, perhaps_mentions, declarators_mentions, start_mentions, stmt_mentions, stmt_form_mentions, stmts_mentions}
use Rattle.js_names.specs.Mentions.{Mention, look_up, found, found_var, is_parameter, is_function}
use Rattle.js_names.specs.Slots.{held_by, is_among, hold, assigned_in, is_constant, constants_of, constant_at, constant_in, slots_of, parameter_in, parameter_at, variable_in, variable_at, variable_of}
use Rattle.js_resolver.proofs.sound.Found.{AllHave}
use Rattle.js_resolver.proofs.sound.Lists.{In, in-first_uses, HasMention, held-from, parameter_slot, variable_slot}
use Rattle.js_resolver.proofs.sound.Mentions.{IsDeclared}

pub constant-from : (h : Mention → Option ℕ) (v : ℕ) (q : Mention) (ps : List Mention) → HasMention q ps → h q ≡ Some v → In v (filter_map h ps)
constant-from h v q [] k e = absurd k
constant-from h v q (x ∷ xs) (inl s) e = subst (λ o. In v (cons_option o (filter_map h xs))) (sym e ∙ ap h s) (inl refl)
constant-from h v q (x ∷ xs) (inr k) e =
    let later = constant-from h v q xs k e in
    elim (h x) as (λ o. In v (cons_option o (filter_map h xs))) [ None ↦ later | Some y ↦ inr later ]

-- a mention declares a variable
pub declared_variable : (ps : List Mention) (q : Mention) (role : Role) (d : Declared) → HasMention q ps → q.what ≡ What.Declares role → q.declared ≡ Some d → is_parameter d.role ≡ false → q.name.spot.at ≡ d.offset → q.around.owner ≡ d.owner → IsDeclared ps d
unfolding constants_of
declared_variable ps q role d has what e variable spot owner =
    let assigned = assigned_in ps in
    let at : variable_at q.what q.declared ≡ Some d =
    ap (λ w. variable_at w q.declared) what ∙ (ap (variable_at (What.Declares role)) e ∙ ap (λ (b : Bool). if b then None else Some d) variable)
    in
    let constant : is_constant assigned d ≡ true → In d.offset (constants_of assigned ps) = λ c.
    let here : constant_at assigned q ≡ Some d.offset = ap (constant_in assigned) at ∙ ap (λ (b : Bool). if b then Some d.offset else None) c in
    in-first_uses d.offset (filter_map (constant_at assigned) ps) (constant-from (constant_at assigned) d.offset q ps has here)
    in
    let slot : is_constant assigned d ≡ false → In d.offset (slots_of assigned d.owner ps) = λ c.
    let here : variable_in assigned q ≡ hold d.owner d.offset ∷ [] = ap (variable_of assigned) at ∙ ap (λ (b : Bool). if b then [] else hold d.owner d.offset ∷ []) c in
    let held : In d.offset (held_by d.owner (hold d.owner d.offset ∷ [])) = subst (λ b. In d.offset (if b then d.offset ∷ [] else [])) (sym (eq-eqb d.owner d.owner refl)) (inl refl) in
    variable_slot assigned ps d.owner d.offset (held-from (variable_in assigned) d.owner d.offset q ps has (subst (λ z. In d.offset (held_by d.owner z)) (sym here) held))
    in
    record { constant = constant; slot = slot; mention = q; has = has; spot = spot; owner = owner; named = ap is_some e }

parameter_variable : (assigned : List ℕ) (d : Declared) → is_parameter d.role ≡ true → d.direct ≡ false → is_constant assigned d ≡ false
parameter_variable assigned d h e =
    let role : (r : Role) → is_parameter r ≡ true → is_function r ≡ false = λ r. elim r as (λ r. is_parameter r ≡ true → is_function r ≡ false)
    [ Parameter ↦ λ k. refl | Const ↦ λ k. refl | Let ↦ λ k. refl | Var ↦ λ k. refl | Function ↦ λ k. absurd (false≢true k) ]
    in
    ap (λ (b : Bool). b || (nat_eq d.owner top && (d.direct && not (is_among d.offset assigned)))) (role d.role h)
    ∙ (ap (λ (b : Bool). nat_eq d.owner top && (b && not (is_among d.offset assigned))) e ∙ and_right (nat_eq d.owner top) false refl)

-- a mention declares a parameter
pub declared_parameter : (ps : List Mention) (q : Mention) (d : Declared) → HasMention q ps → q.what ≡ What.Declares Parameter → q.declared ≡ Some d → is_parameter d.role ≡ true → d.direct ≡ false → q.name.spot.at ≡ d.offset → q.around.owner ≡ d.owner → IsDeclared ps d
declared_parameter ps q d has what e role direct spot owner =
    let assigned = assigned_in ps in
    let variable : is_constant assigned d ≡ false = parameter_variable assigned d role direct in
    let here : parameter_in q ≡ hold d.owner d.offset ∷ [] = ap (λ w. parameter_at w q) what ∙ (ap (λ f. hold f q.name.spot.at ∷ []) owner ∙ ap (λ v. hold d.owner v ∷ []) spot) in
    let held : In d.offset (held_by d.owner (hold d.owner d.offset ∷ [])) = subst (λ b. In d.offset (if b then d.offset ∷ [] else [])) (sym (eq-eqb d.owner d.owner refl)) (inl refl) in
    record {
      constant = λ c. absurd (true≢false (sym c ∙ variable));
      slot = λ c. parameter_slot assigned ps d.owner d.offset (held-from parameter_in d.owner d.offset q ps has (subst (λ z. In d.offset (held_by d.owner z)) (sym here) held));
      mention = q;
      has = has;
      spot = spot;
      owner = owner;
      named = ap is_some e;
    }

-- from where on a variable can be copied says nothing of where it is
pub declared_from : (ps : List Mention) (d : Declared) (end : ℕ) → IsDeclared ps d → IsDeclared ps (record d { end = end })
declared_from ps d end h = record { constant = h.constant; slot = h.slot; mention = h.mention; has = h.has; spot = h.spot; owner = h.owner; named = h.named }

-- an entry of a scope stands at a mention, where its name is looked up in these scopes
pub record IsStated (ps : List Mention) (look : List ℕ → Option Declared) (f : ℕ) (e : Entry) : Type 0 where
  pub mention : Mention
  pub has : HasMention mention ps
  pub role : Role
  pub what : mention.what ≡ What.Declares role
  pub declared : mention.declared ≡ look e.name
  pub spot : mention.name.spot.at ≡ e.declared.offset
  pub owner : mention.around.owner ≡ f
  pub same : e.declared.owner ≡ f
  pub parameter : is_parameter e.declared.role ≡ true → (role ≡ Parameter) × (e.declared.direct ≡ false)

abbrev pub AllStated : List Mention → (List ℕ → Option Declared) → ℕ → List Entry → Type 0
AllStated ps look f [] = Unit {0}
AllStated ps look f (e ∷ es) = IsStated ps look f e × AllStated ps look f es

pub stated_append : (ps : List Mention) (look : List ℕ → Option Declared) (f : ℕ) (xs ys : List Entry) → AllStated ps look f xs → AllStated ps look f ys → AllStated ps look f (xs ++ ys)
stated_append ps look f [] ys h k = k
stated_append ps look f (x ∷ xs) ys h k = (h.0, stated_append ps look f xs ys h.1 k)

pub have_left : (ps : List Mention) (xs ys : List Unresolved) → AllHave ps (xs ++ ys) → AllHave ps xs
have_left ps [] ys h = tt
have_left ps (x ∷ xs) ys h = (h.0, have_left ps xs ys h.1)

pub have_right : (ps : List Mention) (xs ys : List Unresolved) → AllHave ps (xs ++ ys) → AllHave ps ys
have_right ps [] ys h = h
have_right ps (x ∷ xs) ys h = have_right ps xs ys h.1

-- the variable of an entry, as the program knows it
stated_declares : (ps : List Mention) (look : List ℕ → Option Declared) (f : ℕ) (q : List ℕ) (d : Declared) (x : Entry) → IsStated ps look f x → look q ≡ Some d → bytes_eq x.name q ≡ true
    → x.declared.offset ≡ d.offset → x.declared.owner ≡ d.owner → x.declared.role ≡ d.role → (x.declared.direct ≡ false → d.direct ≡ false) → IsDeclared ps d × (d.owner ≡ f)
stated_declares ps look f q d x s l m offset owns roles direct =
    let at : s.mention.declared ≡ Some d = s.declared ∙ (ap look ((bytes_eq-Decides x.name q).0 m) ∙ l) in
    let owner : s.mention.around.owner ≡ d.owner = s.owner ∙ (sym s.same ∙ owns) in
    let spot : s.mention.name.spot.at ≡ d.offset = s.spot ∙ offset in
    let role : (b : Bool) → (is_parameter d.role ≡ b) → IsDeclared ps d = λ b. elim b as (λ b. (is_parameter d.role ≡ b) → IsDeclared ps d) [
      | true ↦ λ n. let r = s.parameter (ap is_parameter roles ∙ n) in declared_parameter ps s.mention d s.has (s.what ∙ ap What.Declares r.0) at n (direct r.1) spot owner
      | false ↦ λ n. declared_variable ps s.mention s.role d s.has s.what at n spot owner
    ]
    in
    (role (is_parameter d.role) refl, sym owner ∙ s.owner)

-- what one lookup finds among some entries
pub own_declares : (ps : List Mention) (look : List ℕ → Option Declared) (f : ℕ) (q : List ℕ) (d : Declared) (es : List Entry) → AllStated ps look f es → first (named q es) ≡ Some d → look q ≡ Some d → IsDeclared ps d × (d.owner ≡ f)
own_declares ps look f q d [] h e l = cc
own_declares ps look f q d (x ∷ xs) h e l =
    let Goal : Type 0 = IsDeclared ps d × (d.owner ≡ f) in
    let cases : (b : Bool) → (bytes_eq x.name q ≡ b) → first (if b then x.declared ∷ named q xs else named q xs) ≡ Some d → Goal =
    λ b. elim b as (λ b. (bytes_eq x.name q ≡ b) → first (if b then x.declared ∷ named q xs else named q xs) ≡ Some d → Goal) [
      | true ↦ λ m k.
          let is : x.declared ≡ d = cc in
          stated_declares ps look f q d x h.0 l m (ap (λ (z : Declared). z.offset) is) (ap (λ (z : Declared). z.owner) is) (ap (λ (z : Declared). z.role) is) (λ n. sym (ap (λ (z : Declared). z.direct) is) ∙ n)
      | false ↦ λ m k. own_declares ps look f q d xs h.1 k l
    ]
    in
    cases (bytes_eq x.name q) refl e

merge_first : (c : Declared) (o : Option Declared) (d : Declared) → merge (Some c) o ≡ Some d → (c.offset ≡ d.offset) × (c.owner ≡ d.owner) × (c.role ≡ d.role) × (c.direct ≡ false → d.direct ≡ false)
merge_first c None d h = let is : c ≡ d = cc in (ap (λ (z : Declared). z.offset) is, ap (λ (z : Declared). z.owner) is, ap (λ (z : Declared). z.role) is, λ n. sym (ap (λ (z : Declared). z.direct) is) ∙ n)
merge_first c (Some e) d h =
    let is : record c { direct = false; given = max c.given e.given } ≡ d = cc in
    (ap (λ (z : Declared). z.offset) is, ap (λ (z : Declared). z.owner) is, ap (λ (z : Declared). z.role) is, λ n. sym (ap (λ (z : Declared). z.direct) is))

pub vars_declare : (ps : List Mention) (look : List ℕ → Option Declared) (f : ℕ) (q : List ℕ) (d : Declared) (es : List Entry) → AllStated ps look f es → one_var (named q es) ≡ Some d → look q ≡ Some d → IsDeclared ps d × (d.owner ≡ f)
vars_declare ps look f q d [] h e l = cc
vars_declare ps look f q d (x ∷ xs) h e l =
    let Goal : Type 0 = IsDeclared ps d × (d.owner ≡ f) in
    let cases : (b : Bool) → (bytes_eq x.name q ≡ b) → one_var (if b then x.declared ∷ named q xs else named q xs) ≡ Some d → Goal =
    λ b. elim b as (λ b. (bytes_eq x.name q ≡ b) → one_var (if b then x.declared ∷ named q xs else named q xs) ≡ Some d → Goal)
    [ true ↦ λ m k. let r = merge_first x.declared (one_var (named q xs)) d k in stated_declares ps look f q d x h.0 l m r.0 r.1 r.2 r.3 | false ↦ λ m k. vars_declare ps look f q d xs h.1 k l ]
    in
    cases (bytes_eq x.name q) refl e

-- the entries of a scope stand at mentions

stated_declarator : (ps : List Mention) (scopes : List Scope) (a : Around) (direct : Bool) (kind : DeclareKind) (name : Name) (value : PlainPerhaps) (end : ℕ) → AllHave ps (one_mention scopes a (What.Declares (declared_role kind)) name)
    → AllStated ps (found scopes) a.owner (own_declarator a.owner direct kind name value end)
unfolding look_up
stated_declarator ps scopes a direct const_word name value end h = (record { mention = _; has = h.0; role = Const; what = refl; declared = refl; spot = refl; owner = refl; same = refl; parameter = λ k. absurd (false≢true k) }, tt)
stated_declarator ps scopes a direct let_word name value end h = (record { mention = _; has = h.0; role = Let; what = refl; declared = refl; spot = refl; owner = refl; same = refl; parameter = λ k. absurd (false≢true k) }, tt)
stated_declarator ps scopes a direct var_word name value end h = tt

stated_declarators : (ps : List Mention) (scopes : List Scope) (a : Around) (direct : Bool) (kind : DeclareKind) (ds : PlainDeclarators) → AllHave ps (declarators_mentions scopes a kind ds) → AllStated ps (found scopes) a.owner (own_declarators a.owner direct kind ds)
unfolding declarators_mentions
stated_declarators ps scopes a direct kind t.no_declarators h = tt
stated_declarators ps scopes a direct kind (t.declarator_in name value end ds) h =
    stated_append ps (found scopes) a.owner (own_declarator a.owner direct kind name value end) (own_declarators a.owner direct kind ds) (stated_declarator ps scopes a direct kind name value end (h.0, tt))
    (stated_declarators ps scopes a direct kind ds (have_right ps (perhaps_mentions scopes a value) (declarators_mentions scopes a kind ds) h.1))

pub stated_own : (ps : List Mention) (scopes : List Scope) (a : Around) (direct : Bool) (s : PlainStmt) → AllHave ps (stmt_mentions scopes a s) → AllStated ps (found scopes) a.owner (own_of a.owner direct s)
unfolding stmt_mentions stmt_form_mentions
stated_own ps scopes a direct (t.on line (t.declaration kind ds)) h = stated_declarators ps scopes a direct kind ds h
stated_own ps scopes a direct (t.on line _) h = tt

pub stated_all : (ps : List Mention) (scopes : List Scope) (a : Around) (direct : Bool) (ss : PlainStmts) → AllHave ps (stmts_mentions scopes a ss) → AllStated ps (found scopes) a.owner (own_of_all a.owner direct ss)
unfolding stmts_mentions
stated_all ps scopes a direct t.no_stmts h = tt
stated_all ps scopes a direct (t.stmt_in s ss) h =
    stated_append ps (found scopes) a.owner (own_of a.owner direct s) (own_of_all a.owner direct ss) (stated_own ps scopes a direct s (have_left ps (stmt_mentions scopes a s) (stmts_mentions scopes a ss) h))
    (stated_all ps scopes a direct ss (have_right ps (stmt_mentions scopes a s) (stmts_mentions scopes a ss) h))

pub stated_start : (ps : List Mention) (scopes : List Scope) (a : Around) (s : PlainStart) → AllHave ps (start_mentions scopes a s) → AllStated ps (found scopes) a.owner (own_of_start a.owner s)
unfolding start_mentions
stated_start ps scopes a t.nothing h = tt
stated_start ps scopes a (t.declared line kind ds) h = stated_declarators ps scopes a false kind ds h
stated_start ps scopes a (t.started e) h = tt

pub stated_parameters : (ps : List Mention) (scopes : List Scope) (f : ℕ) (vars : List ℕ → Option Declared) (names : List Name) → AllHave ps (parameter_mentions scopes (in_function f) names) → AllStated ps (found scopes) f (parameters f vars names)
unfolding look_up
stated_parameters ps scopes f vars [] h = tt
stated_parameters ps scopes f vars (x ∷ xs) h =
    (record { mention = _; has = h.0; role = Parameter; what = refl; declared = refl; spot = refl; owner = refl; same = refl; parameter = λ k. (refl, refl) }, stated_parameters ps scopes f vars xs h.1)

pub stated_each : (ps : List Mention) (scopes : List Scope) (a : Around) (end : ℕ) (kind : DeclareKind) (name : Name) → AllHave ps (one_mention scopes a (What.Declares (for_of_role kind)) name) → AllStated ps (found scopes) a.owner (entry name (for_of_role kind) end a.owner false 0 ∷ [])
unfolding look_up
stated_each ps scopes a end const_word name h = (record { mention = _; has = h.0; role = Const; what = refl; declared = refl; spot = refl; owner = refl; same = refl; parameter = λ k. absurd (false≢true k) }, tt)
stated_each ps scopes a end let_word name h = (record { mention = _; has = h.0; role = Let; what = refl; declared = refl; spot = refl; owner = refl; same = refl; parameter = λ k. absurd (false≢true k) }, tt)
stated_each ps scopes a end var_word name h = (record { mention = _; has = h.0; role = Let; what = refl; declared = refl; spot = refl; owner = refl; same = refl; parameter = λ k. absurd (false≢true k) }, tt)

-- the `var`s of a function stand at mentions

stated_var : (ps : List Mention) (scopes : List Scope) (a : Around) (direct : Bool) (kind : DeclareKind) (name : Name) (value : PlainPerhaps) (end : ℕ) → AllHave ps (one_mention scopes a (What.Declares (declared_role kind)) name)
    → AllStated ps (found_var scopes) a.owner (var_declarator a.owner direct kind name value end)
unfolding look_up
stated_var ps scopes a direct const_word name value end h = tt
stated_var ps scopes a direct let_word name value end h = tt
stated_var ps scopes a direct var_word name value end h = (record { mention = _; has = h.0; role = Var; what = refl; declared = refl; spot = refl; owner = refl; same = refl; parameter = λ k. absurd (false≢true k) }, tt)

stated_vars : (ps : List Mention) (scopes : List Scope) (a : Around) (direct : Bool) (kind : DeclareKind) (ds : PlainDeclarators) → AllHave ps (declarators_mentions scopes a kind ds) → AllStated ps (found_var scopes) a.owner (var_declarators a.owner direct kind ds)
unfolding declarators_mentions
stated_vars ps scopes a direct kind t.no_declarators h = tt
stated_vars ps scopes a direct kind (t.declarator_in name value end ds) h =
    stated_append ps (found_var scopes) a.owner (var_declarator a.owner direct kind name value end) (var_declarators a.owner direct kind ds) (stated_var ps scopes a direct kind name value end (h.0, tt))
    (stated_vars ps scopes a direct kind ds (have_right ps (perhaps_mentions scopes a value) (declarators_mentions scopes a kind ds) h.1))

stated_start_vars : (ps : List Mention) (scopes : List Scope) (a : Around) (s : PlainStart) → AllHave ps (start_mentions scopes a s) → AllStated ps (found_var scopes) a.owner (vars_of_start a.owner s)
unfolding start_mentions
stated_start_vars ps scopes a t.nothing h = tt
stated_start_vars ps scopes a (t.declared line kind ds) h = stated_vars ps scopes a false kind ds h
stated_start_vars ps scopes a (t.started e) h = tt

mutual
  unfolding stmt_mentions stmt_form_mentions stmts_mentions found_var block_scope for_three_scope for_of_scope

  pub stmt_vars : (ps : List Mention) (scopes : List Scope) (a : Around) (direct : Bool) (s : PlainStmt) → AllHave ps (stmt_mentions scopes a s) → AllStated ps (found_var scopes) a.owner (vars_of a.owner direct s)
  stmt_vars ps scopes a direct (t.on line form) h = form_vars ps scopes a direct form h

  pub form_vars : (ps : List Mention) (scopes : List Scope) (a : Around) (direct : Bool) (form : PlainStmtForm) → AllHave ps (stmt_form_mentions scopes a form) → AllStated ps (found_var scopes) a.owner (vars_of_form a.owner direct form)
  form_vars ps scopes a direct t.empty h = tt
  form_vars ps scopes a direct (t.block ss) h = stmts_vars ps (block_scope a.owner ss ∷ scopes) a false ss h
  form_vars ps scopes a direct (t.declaration kind ds) h = stated_vars ps scopes a direct kind ds h
  form_vars ps scopes a direct (t.expression e) h = tt
  form_vars ps scopes a direct (t.if_alone e s) h = stmt_vars ps scopes a false s (have_right ps (expr_mentions scopes a e) (stmt_mentions scopes a s) h)
  form_vars ps scopes a direct (t.if_else e s other) h =
      let k = have_right ps (expr_mentions scopes a e) (stmt_mentions scopes a s ++ stmt_mentions scopes a other) h in
      stated_append ps (found_var scopes) a.owner (vars_of a.owner false s) (vars_of a.owner false other) (stmt_vars ps scopes a false s (have_left ps (stmt_mentions scopes a s) (stmt_mentions scopes a other) k)) (stmt_vars ps scopes a false other (have_right ps (stmt_mentions scopes a s) (stmt_mentions scopes a other) k))
  form_vars ps scopes a direct (t.while_of e s) h = stmt_vars ps scopes (in_loop a) false s (have_right ps (expr_mentions scopes a e) (stmt_mentions scopes (in_loop a) s) h)
  form_vars ps scopes a direct (t.for_three start test next s) h =
      let inner = for_three_scope a.owner start s ∷ scopes in
      let k = have_right ps (start_mentions inner a start) (perhaps_mentions inner a test ++ (perhaps_mentions inner a next ++ stmt_mentions inner (in_loop a) s)) h in
      let m = have_right ps (perhaps_mentions inner a test) (perhaps_mentions inner a next ++ stmt_mentions inner (in_loop a) s) k in
      stated_append ps (found_var scopes) a.owner (vars_of_start a.owner start) (vars_of a.owner false s)
      (stated_start_vars ps inner a start (have_left ps (start_mentions inner a start) (perhaps_mentions inner a test ++ (perhaps_mentions inner a next ++ stmt_mentions inner (in_loop a) s)) h))
      (stmt_vars ps inner (in_loop a) false s (have_right ps (perhaps_mentions inner a next) (stmt_mentions inner (in_loop a) s) m))
  form_vars ps scopes a direct (t.for_of kind name e s) h =
      let inner = for_of_scope a.owner kind name s ∷ scopes in stmt_vars ps inner (in_loop a) false s (have_right ps (expr_mentions (list_scope a.owner kind name ∷ scopes) a e) (stmt_mentions inner (in_loop a) s) h.1)
  form_vars ps scopes a direct (t.break_of spot) h = tt
  form_vars ps scopes a direct (t.continue_of spot) h = tt
  form_vars ps scopes a direct (t.return_nothing spot) h = tt
  form_vars ps scopes a direct (t.return_of spot e) h = tt

  pub stmts_vars : (ps : List Mention) (scopes : List Scope) (a : Around) (direct : Bool) (ss : PlainStmts) → AllHave ps (stmts_mentions scopes a ss) → AllStated ps (found_var scopes) a.owner (vars_of_all a.owner direct ss)
  stmts_vars ps scopes a direct t.no_stmts h = tt
  stmts_vars ps scopes a direct (t.stmt_in s ss) h =
      stated_append ps (found_var scopes) a.owner (vars_of a.owner direct s) (vars_of_all a.owner direct ss) (stmt_vars ps scopes a direct s (have_left ps (stmt_mentions scopes a s) (stmts_mentions scopes a ss) h))
      (stmts_vars ps scopes a direct ss (have_right ps (stmt_mentions scopes a s) (stmts_mentions scopes a ss) h))
