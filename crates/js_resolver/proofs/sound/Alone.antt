-- A declared function copies nothing: of what it sees outside of it, the top level's, either is a constant or can't be copied.
use Rattle.std.proofs.Common.{◌≡◌, ◌∙◌, ◌⊎◌, inl, inr, ℕ, List, [], ◌∷◌, ◌++◌, refl, ap, sym, subst, map, Option, Some, None, Bool, true, false, not, ◌&&◌, ◌||◌, if◌then◌else◌, nat_eq}
use Rattle.std.proofs.Math.Bool.{or-true}
use Rattle.std.proofs.lemmas.Bool.{eq-eqb, eqb-false, and_parts, not-true, false≢true, true≢false}
use Rattle.std.specs.Prelude.{max}
use Rattle.std.specs.List.{flat_map}
use Rattle.std.specs.Str.{bytes_eq}
use Rattle.js_tree.specs.declared.tree.Name.{Name}
use Rattle.js_tree.specs.declared.tree.Spot.{Spot}
use Rattle.js_tree.specs.declared.tree.DeclareKind.{DeclareKind}
use Rattle.js_tree.specs.declared.tree.DeclareKind.TheVariants.{Const as const_word, Let as let_word, Var as var_word}
use Rattle.js_tree.specs.Plain as t
use Rattle.js_tree.specs.Plain.{PlainDeclarators, PlainStart, PlainStmt, PlainStmtForm, PlainStmts, PlainItem}
use Rattle.js_names.specs.declared.mention.Declared.{Declared}
use Rattle.js_names.specs.declared.mention.Role.TheVariants.{Function}
use Rattle.js_names.specs.declared.mention.What.{What}
use Rattle.js_names.specs.Entries.{Entry, top, own_declarators, own_of, own_of_item, var_declarators, vars_of, vars_of_form, vars_of_all, vars_of_start, vars_of_item}
use Rattle.js_names.specs.Scopes.{Scope, named, first, one_var, merge, block_scope, for_three_scope, list_scope, for_of_scope, function_scope, program_scope}
use Rattle.js_names.specs.Spots.{program_spot}
use Rattle.js_names.specs.Unresolved.{Unresolved, one_mention, begin_mention, parameter_mentions, in_function, unresolved_mentions, stmts_mentions, item_mentions}
use Rattle.js_names.specs.Mentions.{Mention, look_up, mentions, found, found_here, or_else, functions_of, declared_at, is_var, is_function}
use Rattle.js_names.specs.Slots.{assigned_in, captures, copies, is_use, is_constant, is_outer, is_among, inside}
use Rattle.js_resolver.proofs.sound.Functions.{begun, begun-append, begun-parameters}
use Rattle.js_resolver.proofs.sound.Known.{earlier_is}
use Rattle.js_resolver.proofs.sound.Lists.{In, in-left, in-right, HasMention}
use Rattle.js_resolver.proofs.sound.Mentions.{captured}
use Rattle.js_resolver.proofs.sound.Program.{program_scopes, AllAlone}
use Rattle.js_resolver.proofs.sound.Room.{NoRepeats}
use Rattle.js_resolver.proofs.sound.Walk.{IsClosed, AllIn, walks_append, walks_mention, walks_function, stmt_walks, stmts_walks}
use Rattle.js_resolver.proofs.apart.Declared.{block_kept, for_kept, list_kept, iteration_kept, function_kept}

-- a variable of the top level that stands in its list, or is a `var`
abbrev IsLoose : Declared → Type 0
IsLoose d = (d.owner ≡ top) × ((d.direct ≡ true) ⊎ (is_var d.role ≡ true))

-- such a variable is a constant, or can't be copied
loose_stays : (assigned : List ℕ) (q : Mention) (d : Declared) → IsLoose d → copies assigned q d ≡ true → ⊥
loose_stays assigned q d l c =
    let used = and_parts (is_use q.what) _ c in
    let both = and_parts (is_outer assigned q d) _ used.1 in
    let variable : is_constant assigned d ≡ false = not-true _ (and_parts (not (nat_eq d.owner q.around.owner)) _ both.0).1 in
    let copied = and_parts (not (is_var d.role) || d.direct) _ both.1 in
    let unchanged : is_among d.offset assigned ≡ false = not-true _ (and_parts (not (is_among d.offset assigned)) _ copied.1).0 in
    let direct : d.direct ≡ true =
    elim l.1 as (λ _. d.direct ≡ true) [ inl e ↦ e | inr e ↦ subst (λ (b : Bool). (not b || d.direct) ≡ true) e copied.0 ]
    in
    let constant : is_constant assigned d ≡ true =
    ap (λ (b : Bool). is_function d.role || (b && (d.direct && not (is_among d.offset assigned)))) (eq-eqb d.owner top l.0)
    ∙ (ap (λ (b : Bool). is_function d.role || (b && not (is_among d.offset assigned))) direct
    ∙ (ap (λ (b : Bool). is_function d.role || not b) unchanged ∙ or-true (is_function d.role)))
    in
    true≢false (sym constant ∙ variable)

-- what the program's own list declares is loose

abbrev AllLoose : List Entry → Type 0
AllLoose [] = Unit {0}
AllLoose (e ∷ es) = IsLoose e.declared × AllLoose es

loose_append : (xs ys : List Entry) → AllLoose xs → AllLoose ys → AllLoose (xs ++ ys)
loose_append [] ys h k = k
loose_append (x ∷ xs) ys h k = (h.0, loose_append xs ys h.1 k)

own_declarators_loose : (kind : DeclareKind) (ds : PlainDeclarators) → AllLoose (own_declarators top true kind ds)
own_declarators_loose kind t.no_declarators = tt
own_declarators_loose const_word (t.declarator_in name value end ds) = ((refl, inl refl), own_declarators_loose const_word ds)
own_declarators_loose let_word (t.declarator_in name value end ds) = ((refl, inl refl), own_declarators_loose let_word ds)
own_declarators_loose var_word (t.declarator_in name value end ds) = own_declarators_loose var_word ds

own_loose : (s : PlainStmt) → AllLoose (own_of top true s)
own_loose (t.on line (t.declaration kind ds)) = own_declarators_loose kind ds
own_loose (t.on line _) = tt

own_items_loose : (is : List PlainItem) → AllLoose (flat_map own_of_item is)
own_items_loose [] = tt
own_items_loose (t.statement begin s ∷ is) = loose_append (own_of top true s) (flat_map own_of_item is) (own_loose s) (own_items_loose is)
own_items_loose (t.function_of spot name names ss ∷ is) = ((refl, inl refl), own_items_loose is)

abbrev AllVars : List Entry → Type 0
AllVars [] = Unit {0}
AllVars (e ∷ es) = (e.declared.owner ≡ top) × (is_var e.declared.role ≡ true) × AllVars es

vars_append : (xs ys : List Entry) → AllVars xs → AllVars ys → AllVars (xs ++ ys)
vars_append [] ys h k = k
vars_append (x ∷ xs) ys h k = (h.0, h.1, vars_append xs ys h.2 k)

declarators_vars : (direct : Bool) (kind : DeclareKind) (ds : PlainDeclarators) → AllVars (var_declarators top direct kind ds)
declarators_vars direct kind t.no_declarators = tt
declarators_vars direct const_word (t.declarator_in name value end ds) = declarators_vars direct const_word ds
declarators_vars direct let_word (t.declarator_in name value end ds) = declarators_vars direct let_word ds
declarators_vars direct var_word (t.declarator_in name value end ds) = (refl, refl, declarators_vars direct var_word ds)

start_vars : (s : PlainStart) → AllVars (vars_of_start top s)
start_vars t.nothing = tt
start_vars (t.declared line kind ds) = declarators_vars false kind ds
start_vars (t.started e) = tt

mutual
  stmt_vars : (direct : Bool) (s : PlainStmt) → AllVars (vars_of top direct s)
  stmt_vars direct (t.on line form) = form_vars direct form

  form_vars : (direct : Bool) (form : PlainStmtForm) → AllVars (vars_of_form top direct form)
  form_vars direct (t.block ss) = stmts_vars false ss
  form_vars direct (t.declaration kind ds) = declarators_vars direct kind ds
  form_vars direct (t.if_alone e s) = stmt_vars false s
  form_vars direct (t.if_else e s other) = vars_append (vars_of top false s) (vars_of top false other) (stmt_vars false s) (stmt_vars false other)
  form_vars direct (t.while_of e s) = stmt_vars false s
  form_vars direct (t.for_three start test next s) = vars_append (vars_of_start top start) (vars_of top false s) (start_vars start) (stmt_vars false s)
  form_vars direct (t.for_of kind name e s) = stmt_vars false s
  form_vars direct _ = tt

  stmts_vars : (direct : Bool) (ss : PlainStmts) → AllVars (vars_of_all top direct ss)
  stmts_vars direct t.no_stmts = tt
  stmts_vars direct (t.stmt_in s ss) = vars_append (vars_of top direct s) (vars_of_all top direct ss) (stmt_vars direct s) (stmts_vars direct ss)

items_vars : (is : List PlainItem) → AllVars (flat_map vars_of_item is)
items_vars [] = tt
items_vars (t.statement begin s ∷ is) = vars_append (vars_of top true s) (flat_map vars_of_item is) (stmt_vars true s) (items_vars is)
items_vars (t.function_of spot name names ss ∷ is) = items_vars is

first_loose : (es : List Entry) (q : List ℕ) (d : Declared) → AllLoose es → first (named q es) ≡ Some d → IsLoose d
first_loose [] q d h e = cc
first_loose (x ∷ xs) q d h e =
    elim (bytes_eq x.name q) as (λ b. first (if b then x.declared ∷ named q xs else named q xs) ≡ Some d → IsLoose d)
    [ true ↦ λ m. let is : x.declared ≡ d = cc in subst IsLoose is h.0 | false ↦ λ m. first_loose xs q d h.1 m ] e

merge_var : (c : Declared) (o : Option Declared) (d : Declared) → merge (Some c) o ≡ Some d → c.owner ≡ top → is_var c.role ≡ true → IsLoose d
merge_var c None d h o v = let is : c ≡ d = cc in subst IsLoose is (o, inr v)
merge_var c (Some e) d h o v = let is : record c { direct = false; given = max c.given e.given } ≡ d = cc in subst IsLoose is (o, inr v)

one_var_loose : (es : List Entry) (q : List ℕ) (d : Declared) → AllVars es → one_var (named q es) ≡ Some d → IsLoose d
one_var_loose [] q d h e = cc
one_var_loose (x ∷ xs) q d h e =
    elim (bytes_eq x.name q) as (λ b. one_var (if b then x.declared ∷ named q xs else named q xs) ≡ Some d → IsLoose d)
    [ true ↦ λ m. merge_var x.declared (one_var (named q xs)) d m h.0 h.1 | false ↦ λ m. one_var_loose xs q d h.2 m ] e

program_loose : (items : List PlainItem) (q : List ℕ) (d : Declared) → found_here (program_scope items) q ≡ Some d → IsLoose d
unfolding program_scope
program_loose items q d h =
    elim (earlier_is (first (named q (flat_map own_of_item items))) (one_var (named q (flat_map vars_of_item items))) d h) as (λ _. IsLoose d)
    [ inl e ↦ first_loose (flat_map own_of_item items) q d (own_items_loose items) e | inr e ↦ one_var_loose (flat_map vars_of_item items) q d (items_vars items) e ]

-- inside a declared function f the functions around end with it, and what is found belongs to one of these, or is loose
record IsInside (f g : ℕ) (scopes : List Scope) : Type 0 where
  pub before : List ℕ
  pub around : functions_of scopes ≡ before ++ f ∷ top ∷ []
  pub apart : In f before → ⊥
  pub here : In g (before ++ f ∷ [])
  pub found : (q : List ℕ) (d : Declared) → found scopes q ≡ Some d → In d.owner (before ++ f ∷ []) ⊎ IsLoose d

inside_block : (f g : ℕ) (s : Scope) (scopes : List Scope) → s.whole ≡ false → ((q : List ℕ) (d : Declared) → found_here s q ≡ Some d → d.owner ≡ g) → IsInside f g scopes → IsInside f g (s ∷ scopes)
unfolding functions_of found
inside_block f g s scopes w kept k =
    let look : (q : List ℕ) (d : Declared) (o : Option Declared) → (found_here s q ≡ o) → or_else o (found scopes q) ≡ Some d → In d.owner (k.before ++ f ∷ []) ⊎ IsLoose d =
    λ q d o. elim o as (λ o. (found_here s q ≡ o) → or_else o (found scopes q) ≡ Some d → In d.owner (k.before ++ f ∷ []) ⊎ IsLoose d) [
      | None ↦ λ m h. k.found q d h
      | Some c ↦ λ m h. let is : c ≡ d = cc in inl (subst (λ (z : Declared). In z.owner (k.before ++ f ∷ [])) is (subst (λ z. In z (k.before ++ f ∷ [])) (sym (kept q c m)) k.here))
    ]
    in
    record {
      before = k.before;
      around = ap (λ (b : Bool). (if b then s.owner ∷ [] else []) ++ functions_of scopes) w ∙ k.around;
      apart = k.apart;
      here = k.here;
      found = λ q d h. look q d (found_here s q) refl h;
    }

inside_function : (f g h : ℕ) (s : Scope) (scopes : List Scope) → s.whole ≡ true → s.owner ≡ h → ((q : List ℕ) (d : Declared) → found_here s q ≡ Some d → d.owner ≡ h) → (h ≡ f → ⊥) → IsInside f g scopes → IsInside f h (s ∷ scopes)
unfolding functions_of found
inside_function f g h s scopes w owner kept absent k =
    let wider : (d : Declared) → In d.owner (k.before ++ f ∷ []) ⊎ IsLoose d → In d.owner (h ∷ (k.before ++ f ∷ [])) ⊎ IsLoose d = λ d r.
    elim r as (λ _. In d.owner (h ∷ (k.before ++ f ∷ [])) ⊎ IsLoose d) [ inl e ↦ inl (inr e) | inr e ↦ inr e ]
    in
    let look : (q : List ℕ) (d : Declared) (o : Option Declared) → (found_here s q ≡ o) → or_else o (found scopes q) ≡ Some d → In d.owner (h ∷ (k.before ++ f ∷ [])) ⊎ IsLoose d =
    λ q d o. elim o as (λ o. (found_here s q ≡ o) → or_else o (found scopes q) ≡ Some d → In d.owner (h ∷ (k.before ++ f ∷ [])) ⊎ IsLoose d) [
      | None ↦ λ m e. wider d (k.found q d e)
      | Some c ↦ λ m e. let is : c ≡ d = cc in inl (inl (sym (ap (λ (z : Declared). z.owner) is) ∙ kept q c m))
    ]
    in
    record {
      before = h ∷ k.before;
      around = ap (λ (b : Bool). (if b then s.owner ∷ [] else []) ++ functions_of scopes) w ∙ (ap (λ z. z ∷ functions_of scopes) owner ∙ ap (λ z. h ∷ z) k.around);
      apart = λ m. elim m as (λ _. ⊥) [ inl e ↦ absent (sym e) | inr e ↦ k.apart e ];
      here = inl refl;
      found = λ q d e. look q d (found_here s q) refl e;
    }

inside_closed : (f : ℕ) → IsClosed (IsInside f) f
unfolding block_scope for_three_scope list_scope for_of_scope function_scope
inside_closed f = record {
  block = λ g ss scopes k. inside_block f g (block_scope g ss) scopes refl (block_kept g ss) k;
  head = λ g start s scopes k. inside_block f g (for_three_scope g start s) scopes refl (for_kept g start s) k;
  list = λ g kind name scopes k. inside_block f g (list_scope g kind name) scopes refl (list_kept g kind name) k;
  iteration = λ g kind name s scopes k. inside_block f g (for_of_scope g kind name s) scopes refl (iteration_kept g kind name s) k;
  function = λ g h names ss scopes absent k. inside_function f g h (function_scope h names ss) scopes refl refl (function_kept h names ss) absent k;
}

inside_first : (f : ℕ) (names : List Name) (ss : PlainStmts) (items : List PlainItem) → IsInside f f (function_scope f names ss ∷ program_scopes items)
unfolding functions_of found function_scope program_scope
inside_first f names ss items =
    let s = function_scope f names ss in
    let outer : (q : List ℕ) (d : Declared) (o : Option Declared) → (found_here (program_scope items) q ≡ o) → or_else o None ≡ Some d → IsLoose d =
    λ q d o. elim o as (λ o. (found_here (program_scope items) q ≡ o) → or_else o None ≡ Some d → IsLoose d)
    [ None ↦ λ m h. cc | Some c ↦ λ m h. let is : c ≡ d = cc in subst IsLoose is (program_loose items q c m) ]
    in
    let look : (q : List ℕ) (d : Declared) (o : Option Declared) → (found_here s q ≡ o) → or_else o (found (program_scopes items) q) ≡ Some d → In d.owner (f ∷ []) ⊎ IsLoose d =
    λ q d o. elim o as (λ o. (found_here s q ≡ o) → or_else o (found (program_scopes items) q) ≡ Some d → In d.owner (f ∷ []) ⊎ IsLoose d) [
      | None ↦ λ m h. inr (outer q d (found_here (program_scope items) q) refl h)
      | Some c ↦ λ m h. let is : c ≡ d = cc in inl (inl (sym (ap (λ (z : Declared). z.owner) is) ∙ function_kept f names ss q c m))
    ]
    in
    record { before = []; around = refl; apart = λ m. m; here = inl refl; found = λ q d h. look q d (found_here s q) refl h }

-- outside of it, it is not around

abbrev IsOutside : ℕ → ℕ → List Scope → Type 0
IsOutside f g scopes = In f (functions_of scopes) → ⊥

outside_closed : (f : ℕ) → IsClosed (IsOutside f) f
unfolding functions_of block_scope for_three_scope list_scope for_of_scope function_scope
outside_closed f = record {
  block = λ g ss scopes k. k;
  head = λ g start s scopes k. k;
  list = λ g kind name scopes k. k;
  iteration = λ g kind name s scopes k. k;
  function = λ g h names ss scopes absent k m. elim m as (λ _. ⊥) [ inl e ↦ absent (sym e) | inr e ↦ k e ];
}

-- a mention that has f copy nothing

abbrev Spares : ℕ → Mention → Type 0
Spares f q = (assigned : List ℕ) (d : Declared) → q.declared ≡ Some d → copies assigned q d ≡ true → In f (inside d.owner q.functions) → ⊥

abbrev AllSpare : ℕ → List Unresolved → Type 0
AllSpare f [] = Unit {0}
AllSpare f (s ∷ ss) = Spares f (look_up s) × AllSpare f ss

spare_append : (f : ℕ) (xs ys : List Unresolved) → AllSpare f xs → AllSpare f ys → AllSpare f (xs ++ ys)
spare_append f [] ys h k = k
spare_append f (x ∷ xs) ys h k = (h.0, spare_append f xs ys h.1 k)

inside_in : (o f : ℕ) (fs : List ℕ) → In f (inside o fs) → In f fs
inside_in o f [] h = h
inside_in o f (x ∷ xs) h =
    elim (nat_eq x o) as (λ b. In f (if b then [] else x ∷ inside o xs) → In f (x ∷ xs)) [ true ↦ λ k. absurd k | false ↦ λ k. elim k as (λ _. In f (x ∷ xs)) [ inl e ↦ inl e | inr e ↦ inr (inside_in o f xs e) ] ] h

-- the functions inside that of a variable end before it
stops : (f o : ℕ) (before rest : List ℕ) → (In f before → ⊥) → In o (before ++ f ∷ []) → In f (inside o (before ++ f ∷ rest)) → ⊥
stops f o [] rest absent h m =
    let cases : (b : Bool) → (nat_eq f o ≡ b) → In f (if b then [] else f ∷ inside o rest) → ⊥ =
    λ b. elim b as (λ b. (nat_eq f o ≡ b) → In f (if b then [] else f ∷ inside o rest) → ⊥)
    [ true ↦ λ e k. k | false ↦ λ e k. elim h as (λ _. ⊥) [ inl z ↦ eqb-false f o e (sym z) | inr z ↦ z ] ]
    in
    cases (nat_eq f o) refl m
stops f o (x ∷ before) rest absent h m =
    let cases : (b : Bool) → (nat_eq x o ≡ b) → In f (if b then [] else x ∷ inside o (before ++ f ∷ rest)) → ⊥ =
    λ b. elim b as (λ b. (nat_eq x o ≡ b) → In f (if b then [] else x ∷ inside o (before ++ f ∷ rest)) → ⊥) [
      | true ↦ λ e k. k
      | false ↦ λ e k. elim k as (λ _. ⊥) [
        | inl z ↦ absent (inl z)
        | inr z ↦ elim h as (λ _. ⊥) [ inl y ↦ eqb-false x o e (sym y) | inr y ↦ stops f o before rest (λ v. absent (inr v)) y z ]
      ]
    ]
    in
    cases (nat_eq x o) refl m

quiet_spares : (f : ℕ) (s : Unresolved) → is_use s.what ≡ false → Spares f (look_up s)
unfolding look_up
quiet_spares f s h assigned d e c m = true≢false (sym (and_parts (is_use s.what) _ c).0 ∙ h)

use_found : (w : What) (scopes : List Scope) (q : List ℕ) (d : Declared) → is_use w ≡ true → declared_at w scopes q ≡ Some d → found scopes q ≡ Some d
use_found (What.Declares r) scopes q d m h = absurd (false≢true m)
use_found What.Reads scopes q d m h = h
use_found What.Assigns scopes q d m h = h
use_found What.Misuses scopes q d m h = absurd (false≢true m)
use_found What.LoopWord scopes q d m h = absurd (false≢true m)
use_found What.Returns scopes q d m h = absurd (false≢true m)
use_found What.Begins scopes q d m h = absurd (false≢true m)

inside_spares : (f : ℕ) (s : Unresolved) → IsInside f s.around.owner s.scopes → Spares f (look_up s)
unfolding look_up
inside_spares f s k assigned d e c m =
    let at : found s.scopes s.name.text ≡ Some d = use_found s.what s.scopes s.name.text d (and_parts (is_use s.what) _ c).0 e in
    elim (k.found s.name.text d at) as (λ _. ⊥)
    [ inl o ↦ stops f d.owner k.before (top ∷ []) k.apart o (subst (λ fs. In f (inside d.owner fs)) k.around m) | inr l ↦ loose_stays assigned (look_up s) d l c ]

all_inside : (f : ℕ) (ss : List Unresolved) → AllIn (IsInside f) ss → AllSpare f ss
all_inside f [] h = tt
all_inside f (s ∷ ss) h = (inside_spares f s h.0, all_inside f ss h.1)

outside_spares : (f : ℕ) (s : Unresolved) → IsOutside f s.around.owner s.scopes → Spares f (look_up s)
unfolding look_up
outside_spares f s k assigned d e c m = k (inside_in d.owner f (functions_of s.scopes) m)

all_outside : (f : ℕ) (ss : List Unresolved) → AllIn (IsOutside f) ss → AllSpare f ss
all_outside f [] h = tt
all_outside f (s ∷ ss) h = (outside_spares f s h.0, all_outside f ss h.1)

parameters_spare : (f : ℕ) (scopes : List Scope) (g : ℕ) (names : List Name) → AllSpare f (parameter_mentions scopes (in_function g) names)
parameters_spare f scopes g [] = tt
parameters_spare f scopes g (x ∷ xs) = (quiet_spares f _ refl, parameters_spare f scopes g xs)

-- a declared function has itself copy nothing
own_spares : (items : List PlainItem) (spot : Spot) (name : Name) (names : List Name) (ss : PlainStmts) → (In spot.at (begun (stmts_mentions (function_scope spot.at names ss ∷ program_scopes items) (in_function spot.at) ss)) → ⊥)
    → AllSpare spot.at (item_mentions (program_scopes items) (t.function_of spot name names ss))
unfolding item_mentions
own_spares items spot name names ss absent =
    let f = spot.at in
    let inner = function_scope f names ss ∷ program_scopes items in
    let ms = stmts_mentions inner (in_function f) ss in (
      quiet_spares f _ refl,
      (
        quiet_spares f _ refl,
        spare_append f (parameter_mentions inner (in_function f) names) ms (parameters_spare f inner f names)
            (all_inside f ms (stmts_walks (IsInside f) f (inside_closed f) inner (in_function f) ss (inside_first f names ss items) absent)),
      ),
    )

-- and so do all other items
other_spares : (f : ℕ) (scopes : List Scope) (i : PlainItem) → IsOutside f top scopes → (In f (begun (item_mentions scopes i)) → ⊥) → AllSpare f (item_mentions scopes i)
unfolding item_mentions
other_spares f scopes (t.statement begin s) k absent = all_outside f _ (stmt_walks (IsOutside f) f (outside_closed f) scopes (in_function top) s k absent)
other_spares f scopes (t.function_of spot name names ss) k absent =
    let inner = function_scope spot.at names ss ∷ scopes in
    let ms = stmts_mentions inner (in_function spot.at) ss in
    let body = begin_mention inner spot.at spot ++ (parameter_mentions inner (in_function spot.at) names ++ ms) in
    all_outside f (one_mention scopes (in_function top) (What.Declares Function) name ++ body)
    (walks_append (IsOutside f) f (one_mention scopes (in_function top) (What.Declares Function) name) body (walks_mention (IsOutside f) f scopes (in_function top) (What.Declares Function) name k)
    (walks_function (IsOutside f) f (outside_closed f) scopes top spot names ss ms k (λ m. stmts_walks (IsOutside f) f (outside_closed f) inner (in_function spot.at) ss m)) absent)

others_spare : (f : ℕ) (scopes : List Scope) (is : List PlainItem) → IsOutside f top scopes → (In f (begun (flat_map (item_mentions scopes) is)) → ⊥) → AllSpare f (flat_map (item_mentions scopes) is)
others_spare f scopes [] k absent = tt
others_spare f scopes (i ∷ is) k absent =
    let here = item_mentions scopes i in
    let rest = flat_map (item_mentions scopes) is in
    let both : In f (begun here ++ begun rest) → ⊥ = λ m. absent (subst (In f) (sym (begun-append here rest)) m) in
    spare_append f here rest (other_spares f scopes i k (λ m. both (in-left f (begun here) (begun rest) m))) (others_spare f scopes is k (λ m. both (in-right f (begun here) (begun rest) m)))

-- the offsets where declared functions begin

abbrev IsDeclaredAt : ℕ → List PlainItem → Type 0
IsDeclaredAt f [] = ⊥
IsDeclaredAt f (t.statement begin s ∷ is) = IsDeclaredAt f is
IsDeclaredAt f (t.function_of spot name names ss ∷ is) = (spot.at ≡ f) ⊎ IsDeclaredAt f is

begun_item : (scopes : List Scope) (spot : Spot) (name : Name) (names : List Name) (ss : PlainStmts)
    → begun (item_mentions scopes (t.function_of spot name names ss)) ≡ spot.at ∷ begun (stmts_mentions (function_scope spot.at names ss ∷ scopes) (in_function spot.at) ss)
unfolding item_mentions
begun_item scopes spot name names ss =
    let inner = function_scope spot.at names ss ∷ scopes in
    let ms = stmts_mentions inner (in_function spot.at) ss in
    ap (λ z. spot.at ∷ z) (begun-append (parameter_mentions inner (in_function spot.at) names) ms ∙ ap (λ z. z ++ begun ms) (begun-parameters inner (in_function spot.at) names))

declared_begins : (scopes : List Scope) (f : ℕ) (is : List PlainItem) → IsDeclaredAt f is → In f (begun (flat_map (item_mentions scopes) is))
declared_begins scopes f [] h = h
declared_begins scopes f (t.statement begin s ∷ is) h =
    let here = item_mentions scopes (t.statement begin s) in
    let rest = flat_map (item_mentions scopes) is in
    subst (In f) (sym (begun-append here rest)) (in-right f (begun here) (begun rest) (declared_begins scopes f is h))
declared_begins scopes f (t.function_of spot name names ss ∷ is) h =
    let here = item_mentions scopes (t.function_of spot name names ss) in
    let rest = flat_map (item_mentions scopes) is in
    let first : In spot.at (begun here) = subst (In spot.at) (sym (begun_item scopes spot name names ss)) (inl refl) in
    subst (In f) (sym (begun-append here rest))
    (elim h as (λ _. In f (begun here ++ begun rest)) [ inl e ↦ in-left f (begun here) (begun rest) (subst (λ z. In z (begun here)) e first) | inr e ↦ in-right f (begun here) (begun rest) (declared_begins scopes f is e) ])

no_repeats_right : (xs ys : List ℕ) → NoRepeats (xs ++ ys) → NoRepeats ys
no_repeats_right [] ys h = h
no_repeats_right (x ∷ xs) ys h = no_repeats_right xs ys h.1

no_repeats_left : (xs ys : List ℕ) → NoRepeats (xs ++ ys) → NoRepeats xs
no_repeats_left [] ys h = tt
no_repeats_left (x ∷ xs) ys h = (λ m. h.0 (in-left x xs ys m), no_repeats_left xs ys h.1)

no_repeats_apart : (xs ys : List ℕ) → NoRepeats (xs ++ ys) → (v : ℕ) → In v xs → In v ys → ⊥
no_repeats_apart [] ys h v m n = m
no_repeats_apart (x ∷ xs) ys h v (inl e) n = h.0 (subst (λ z. In z (xs ++ ys)) e (in-right v xs ys n))
no_repeats_apart (x ∷ xs) ys h v (inr m) n = no_repeats_apart xs ys h.1 v m n

items_spare : (items : List PlainItem) (f : ℕ) (is : List PlainItem) → IsOutside f top (program_scopes items) → IsDeclaredAt f is → NoRepeats (begun (flat_map (item_mentions (program_scopes items)) is)) → AllSpare f (flat_map (item_mentions (program_scopes items)) is)
items_spare items f [] k h n = tt
items_spare items f (t.statement begin s ∷ is) k h n =
    let scopes = program_scopes items in
    let here = item_mentions scopes (t.statement begin s) in
    let rest = flat_map (item_mentions scopes) is in
    let both : NoRepeats (begun here ++ begun rest) = subst NoRepeats (begun-append here rest) n in
    spare_append f here rest (other_spares f scopes (t.statement begin s) k (λ m. no_repeats_apart (begun here) (begun rest) both f m (declared_begins scopes f is h))) (items_spare items f is k h (no_repeats_right (begun here) (begun rest) both))
items_spare items f (t.function_of spot name names ss ∷ is) k h n =
    let scopes = program_scopes items in
    let here = item_mentions scopes (t.function_of spot name names ss) in
    let rest = flat_map (item_mentions scopes) is in
    let both : NoRepeats (begun here ++ begun rest) = subst NoRepeats (begun-append here rest) n in
    let body = begun (stmts_mentions (function_scope spot.at names ss ∷ scopes) (in_function spot.at) ss) in
    let item : NoRepeats (spot.at ∷ body) = subst NoRepeats (begun_item scopes spot name names ss) (no_repeats_left (begun here) (begun rest) both) in
    elim h as (λ _. AllSpare f (here ++ rest)) [
      | inl e ↦
          let first : In f (begun here) = subst (In f) (sym (begun_item scopes spot name names ss)) (inl (sym e)) in
          spare_append f here rest (subst (λ z. AllSpare z here) e (own_spares items spot name names ss item.0)) (others_spare f scopes is k (λ m. no_repeats_apart (begun here) (begun rest) both f first m))
      | inr e ↦
          spare_append f here rest (other_spares f scopes (t.function_of spot name names ss) k (λ m. no_repeats_apart (begun here) (begun rest) both f m (declared_begins scopes f is e)))
          (items_spare items f is k e (no_repeats_right (begun here) (begun rest) both))
    ]

spare_at : (f : ℕ) (ss : List Unresolved) (q : Mention) → HasMention q (map look_up ss) → AllSpare f ss → Spares f q
spare_at f [] q h k = absurd h
spare_at f (s ∷ ss) q (inl e) k = subst (Spares f) (sym e) k.0
spare_at f (s ∷ ss) q (inr h) k = spare_at f ss q h k.1

no_elements : (xs : List ℕ) → ((v : ℕ) → In v xs → ⊥) → xs ≡ []
no_elements [] h = refl
no_elements (x ∷ xs) h = absurd (h x (inl refl))

nothing_copied : (items : List PlainItem) (f : ℕ) → AllSpare f (flat_map (item_mentions (program_scopes items)) items) → captures (assigned_in (mentions items)) f (mentions items) ≡ []
unfolding mentions unresolved_mentions
nothing_copied items f h =
    let ps = mentions items in
    let ms = flat_map (item_mentions (program_scopes items)) items in
    let first = begin_mention (program_scopes items) top (program_spot items) in
    no_elements (captures (assigned_in ps) f ps) (λ v m. let c = captured ps f v m in spare_at f (first ++ ms) c.mention c.has (quiet_spares f _ refl, h) (assigned_in ps) c.declared c.is c.copies c.within)

all_alone : (ps : List Mention) (is : List PlainItem) → ((f : ℕ) → IsDeclaredAt f is → captures (assigned_in ps) f ps ≡ []) → AllAlone ps is
all_alone ps [] h = tt
all_alone ps (t.statement begin s ∷ is) h = all_alone ps is h
all_alone ps (t.function_of spot name names ss ∷ is) h = (h spot.at (inl refl), all_alone ps is (λ f m. h f (inr m)))

-- no declared function of a program copies anything
pub declared_alone : (items : List PlainItem) → NoRepeats (begun (flat_map (item_mentions (program_scopes items)) items)) → (In top (begun (flat_map (item_mentions (program_scopes items)) items)) → ⊥) → AllAlone (mentions items) items
unfolding functions_of program_scope
declared_alone items n inner = all_alone (mentions items) items (λ f h.
    let outside : IsOutside f top (program_scopes items) = λ m.
    elim m as (λ _. ⊥) [ inl e ↦ inner (subst (λ z. In z (begun (flat_map (item_mentions (program_scopes items)) items))) e (declared_begins (program_scopes items) f items h)) | inr e ↦ e ]
    in
    nothing_copied items f (items_spare items f items outside h n))
