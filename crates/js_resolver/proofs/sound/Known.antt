-- The scopes around each mention of a program are known.
use Rattle.std.proofs.Common.{◌≡◌, ◌∙◌, ◌⊎◌, inl, inr, ℕ, List, [], ◌∷◌, ◌++◌, refl, ap, sym, subst, Option, Some, None, Bool, true, false, if◌then◌else◌}
use Rattle.std.specs.Prelude.{nat_lt, unwrap_or}
use Rattle.std.specs.Str.{bytes_eq}
use Rattle.js_tree.specs.declared.tree.Name.{Name}
use Rattle.js_tree.specs.declared.tree.Spot.{Spot}
use Rattle.js_tree.specs.declared.tree.DeclareKind.{DeclareKind}
use Rattle.js_tree.specs.Plain.{PlainStart, PlainStmt, PlainStmts}
use Rattle.js_names.specs.declared.mention.Around.{Around}
use Rattle.js_names.specs.declared.mention.Declared.{Declared}
use Rattle.js_names.specs.declared.mention.Role.{Role}
use Rattle.js_names.specs.declared.mention.What.{What}
use Rattle.js_names.specs.Entries.{top, entry, own_of_all, own_of_start, vars_of_all}
use Rattle.js_names.specs.Scopes.{Scope, named, first, one_var, parameters, block_scope, for_three_scope, list_scope, for_of_scope, for_of_role, function_scope}
use Rattle.js_names.specs.Unresolved.{one_mention, in_function, begin_mention, parameter_mentions, start_mentions, stmts_mentions}
use Rattle.js_names.specs.Mentions.{Mention, look_up, earlier, found, found_var, found_here, or_else, functions_of}
use Rattle.js_names.specs.Slots.{is_begin}
use Rattle.js_resolver.specs.Variables.{second, around_of, around_there, owner_key}
use Rattle.js_resolver.proofs.sound.Found.{AllHave}
use Rattle.js_resolver.proofs.sound.Lists.{In, HasMention}
use Rattle.js_resolver.proofs.sound.Mentions.{IsDeclared, IsChain, known-found}
use Rattle.js_resolver.proofs.sound.Scopes.{AllStated, stated_append, own_declares, vars_declare, declared_from, stated_all, stated_start, stated_parameters, stated_each}

-- what each of some scopes, the innermost first, declares for the functions around
pub record ScopesKnown (ps : List Mention) (f : ℕ) (scopes : List Scope) : Type 0 where
  pub outer : List ℕ
  pub within : functions_of scopes ≡ f ∷ outer
  pub chain : IsChain ps (functions_of scopes)
  pub found : (q : List ℕ) (d : Declared) → found scopes q ≡ Some d → IsDeclared ps d × In d.owner (functions_of scopes)
  pub var : (q : List ℕ) (d : Declared) → found_var scopes q ≡ Some d → IsDeclared ps d × (d.owner ≡ f)

-- each declared name has a declaration in its function
abbrev pub AllDeclared : List Mention → Type 0
AllDeclared ps = (q : Mention) → HasMention q ps → (role : Role) → q.what ≡ What.Declares role → (d : Declared) × (q.declared ≡ Some d) × (d.owner ≡ q.around.owner)

-- functions that begin at one offset are in one function
abbrev pub BeginApart : List Mention → Type 0
BeginApart ps = (q r : Mention) → HasMention q ps → HasMention r ps → is_begin q.what ≡ true → is_begin r.what ≡ true → q.around.owner ≡ r.around.owner → second top q.functions ≡ second top r.functions

around-from : (r : Mention) (w : ℕ) → around_there r ≡ Some w → (is_begin r.what ≡ true) × (second top r.functions ≡ w)
around-from r w h =
    let cases : (b : Bool) → (is_begin r.what ≡ b) → (if b then Some (second top r.functions) else None) ≡ Some w → (is_begin r.what ≡ true) × (second top r.functions ≡ w) =
    λ b. elim b as (λ b. (is_begin r.what ≡ b) → (if b then Some (second top r.functions) else None) ≡ Some w → (is_begin r.what ≡ true) × (second top r.functions ≡ w)) [ true ↦ λ e k. (e, cc) | false ↦ λ e k. cc ]
    in
    cases (is_begin r.what) refl h

pub around_is : (ps : List Mention) (q : Mention) → BeginApart ps → HasMention q ps → is_begin q.what ≡ true → around_of ps q.around.owner ≡ second top q.functions
unfolding around_of
around_is ps q apart has begins =
    let value : around_there q ≡ Some (second top q.functions) = ap (λ (b : Bool). if b then Some (second top q.functions) else None) begins in
    let k = known-found owner_key around_there q.around.owner ps q (second top q.functions) has refl value in
    let r = around-from k.0 k.1 k.4 in
    ap (λ o. unwrap_or o top) k.5 ∙ (sym r.1 ∙ apart k.0 q k.2 has r.0 begins k.3)

pub declared-is : (ps : List Mention) (f : ℕ) (c d : Declared) → Some c ≡ Some d → IsDeclared ps c × (c.owner ≡ f) → IsDeclared ps d × (d.owner ≡ f)
declared-is ps f c d e h = let is : c ≡ d = cc in subst (λ z. IsDeclared ps z × (z.owner ≡ f)) is h

in-first : (f : ℕ) (fs outer : List ℕ) (x : ℕ) → fs ≡ f ∷ outer → x ≡ f → In x fs
in-first f fs outer x e h = subst (In x) (sym e) (inl h)

-- what a scope finds among its own names, and among its `var`s
abbrev pub OwnKnown : List Mention → ℕ → Scope → Type 0
OwnKnown ps f s = (q : List ℕ) (d : Declared) → found_here s q ≡ Some d → s.own q ≡ Some d → IsDeclared ps d × (d.owner ≡ f)

abbrev pub VarsKnown : List Mention → ℕ → Scope → Type 0
VarsKnown ps f s = (q : List ℕ) (d : Declared) → found_here s q ≡ Some d → s.vars q ≡ Some d → IsDeclared ps d × (d.owner ≡ f)

-- the earlier of two declarations is one of them
pub earlier_is : (a b : Option Declared) (d : Declared) → earlier a b ≡ Some d → (a ≡ Some d) ⊎ (b ≡ Some d)
earlier_is None b d h = inr h
earlier_is (Some x) None d h = inl h
earlier_is (Some x) (Some y) d h =
    elim (nat_lt y.offset x.offset) as (λ b. (if b then Some y else Some x) ≡ Some d → (Some x ≡ Some d) ⊎ (Some y ≡ Some d)) [ true ↦ λ k. inr k | false ↦ λ k. inl k ] h

found_inner : (s : Scope) (q : List ℕ) → s.whole ≡ false → found_here s q ≡ s.own q
found_inner s q w = ap (λ (b : Bool). if b then earlier (s.own q) (s.vars q) else s.own q) w

-- one more scope of the same function
scopes_inner : (ps : List Mention) (f : ℕ) (s : Scope) (scopes : List Scope) → s.whole ≡ false → OwnKnown ps f s → ScopesKnown ps f scopes → ScopesKnown ps f (s ∷ scopes)
unfolding functions_of found found_var
scopes_inner ps f s scopes w own k =
    let same : functions_of (s ∷ scopes) ≡ functions_of scopes = ap (λ (b : Bool). (if b then s.owner ∷ [] else []) ++ functions_of scopes) w in
    let look : (q : List ℕ) (d : Declared) (o : Option Declared) → (found_here s q ≡ o) → or_else o (found scopes q) ≡ Some d → IsDeclared ps d × In d.owner (functions_of scopes) =
    λ q d o. elim o as (λ o. (found_here s q ≡ o) → or_else o (found scopes q) ≡ Some d → IsDeclared ps d × In d.owner (functions_of scopes)) [
      | None ↦ λ m h. k.found q d h
      | Some c ↦ λ m h. let r = declared-is ps f c d h (own q c m (sym (found_inner s q w) ∙ m)) in (r.0, in-first f (functions_of scopes) k.outer d.owner k.within r.1)
    ]
    in
    record {
      outer = k.outer;
      within = same ∙ k.within;
      chain = subst (IsChain ps) (sym same) k.chain;
      found = λ q d h. let r = look q d (found_here s q) refl h in (r.0, subst (In d.owner) (sym same) r.1);
      var = λ q d h. k.var q d (subst (λ (b : Bool). (if b then found_here s q else found_var scopes q) ≡ Some d) w h);
    }

pub here_known : (ps : List Mention) (f : ℕ) (s : Scope) → s.whole ≡ true → OwnKnown ps f s → VarsKnown ps f s → (q : List ℕ) (d : Declared) → found_here s q ≡ Some d → IsDeclared ps d × (d.owner ≡ f)
here_known ps f s w own vars q d h =
    let among : earlier (s.own q) (s.vars q) ≡ Some d = sym (ap (λ (b : Bool). if b then earlier (s.own q) (s.vars q) else s.own q) w) ∙ h in
    elim (earlier_is (s.own q) (s.vars q) d among) as (λ _. IsDeclared ps d × (d.owner ≡ f)) [ inl e ↦ own q d h e | inr e ↦ vars q d h e ]

-- the scope of a function
scopes_function : (ps : List Mention) (f g : ℕ) (s : Scope) (scopes : List Scope) → s.whole ≡ true → s.owner ≡ g → OwnKnown ps g s → VarsKnown ps g s → around_of ps g ≡ f → ScopesKnown ps f scopes → ScopesKnown ps g (s ∷ scopes)
unfolding functions_of found found_var
scopes_function ps f g s scopes w owner own vars around k =
    let same : functions_of (s ∷ scopes) ≡ g ∷ functions_of scopes = ap (λ (b : Bool). (if b then s.owner ∷ [] else []) ++ functions_of scopes) w ∙ ap (λ z. z ∷ functions_of scopes) owner in
    let chain : IsChain ps (g ∷ functions_of scopes) = subst (λ fs. IsChain ps (g ∷ fs)) (sym k.within) (around, subst (IsChain ps) k.within k.chain) in
    let look : (q : List ℕ) (d : Declared) (o : Option Declared) → (found_here s q ≡ o) → or_else o (found scopes q) ≡ Some d → IsDeclared ps d × In d.owner (g ∷ functions_of scopes) =
    λ q d o. elim o as (λ o. (found_here s q ≡ o) → or_else o (found scopes q) ≡ Some d → IsDeclared ps d × In d.owner (g ∷ functions_of scopes))
    [ None ↦ λ m h. let r = k.found q d h in (r.0, inr r.1) | Some c ↦ λ m h. let r = declared-is ps g c d h (here_known ps g s w own vars q c m) in (r.0, inl r.1) ]
    in
    record {
      outer = functions_of scopes;
      within = same;
      chain = subst (IsChain ps) (sym same) chain;
      found = λ q d h. let r = look q d (found_here s q) refl h in (r.0, subst (In d.owner) (sym same) r.1);
      var = λ q d h. here_known ps g s w own vars q d (subst (λ (b : Bool). (if b then found_here s q else found_var scopes q) ≡ Some d) w h);
    }

pub here_look : (s : Scope) (scopes : List Scope) (q : List ℕ) (d : Declared) → found_here s q ≡ Some d → found (s ∷ scopes) q ≡ Some d
unfolding found
here_look s scopes q d e = ap (λ o. or_else o (found scopes q)) e

pub here_look_var : (s : Scope) (scopes : List Scope) (q : List ℕ) (d : Declared) → s.whole ≡ true → found_here s q ≡ Some d → found_var (s ∷ scopes) q ≡ Some d
unfolding found_var
here_look_var s scopes q d w e = ap (λ (b : Bool). if b then found_here s q else found_var scopes q) w ∙ e

pub block_known : (ps : List Mention) (scopes : List Scope) (a : Around) (ss : PlainStmts) → ScopesKnown ps a.owner scopes → AllHave ps (stmts_mentions (block_scope a.owner ss ∷ scopes) a ss) → ScopesKnown ps a.owner (block_scope a.owner ss ∷ scopes)
unfolding block_scope
block_known ps scopes a ss k h =
    let s = block_scope a.owner ss in
    scopes_inner ps a.owner s scopes refl (λ q d here e. own_declares ps (found (s ∷ scopes)) a.owner q d (own_of_all a.owner false ss) (stated_all ps (s ∷ scopes) a false ss h) e (here_look s scopes q d here)) k

pub for_known : (ps : List Mention) (scopes : List Scope) (a : Around) (start : PlainStart) (body : PlainStmt) → ScopesKnown ps a.owner scopes → AllHave ps (start_mentions (for_three_scope a.owner start body ∷ scopes) a start) → ScopesKnown ps a.owner (for_three_scope a.owner start body ∷ scopes)
unfolding for_three_scope
for_known ps scopes a start body k h =
    let s = for_three_scope a.owner start body in
    scopes_inner ps a.owner s scopes refl (λ q d here e. own_declares ps (found (s ∷ scopes)) a.owner q d (own_of_start a.owner start) (stated_start ps (s ∷ scopes) a start h) e (here_look s scopes q d here)) k

pub list_known : (ps : List Mention) (scopes : List Scope) (a : Around) (kind : DeclareKind) (name : Name) → ScopesKnown ps a.owner scopes → AllHave ps (one_mention (list_scope a.owner kind name ∷ scopes) a (What.Declares (for_of_role kind)) name)
    → ScopesKnown ps a.owner (list_scope a.owner kind name ∷ scopes)
unfolding list_scope
list_known ps scopes a kind name k h =
    let s = list_scope a.owner kind name in
    scopes_inner ps a.owner s scopes refl (λ q d here e. own_declares ps (found (s ∷ scopes)) a.owner q d (entry name (for_of_role kind) top a.owner false 0 ∷ []) (stated_each ps (s ∷ scopes) a top kind name h) e (here_look s scopes q d here)) k

-- the body has the variable that the list has
pub each_known : (ps : List Mention) (scopes : List Scope) (a : Around) (kind : DeclareKind) (name : Name) (body : PlainStmt) → ScopesKnown ps a.owner scopes → AllHave ps (one_mention (list_scope a.owner kind name ∷ scopes) a (What.Declares (for_of_role kind)) name)
    → ScopesKnown ps a.owner (for_of_scope a.owner kind name body ∷ scopes)
unfolding list_scope for_of_scope
each_known ps scopes a kind name body k h =
    let s = list_scope a.owner kind name in
    let x : Declared = (entry name (for_of_role kind) top a.owner false 0).declared in
    let y : Declared = (entry name (for_of_role kind) name.spot.at a.owner false 0).declared in
    let own : (q : List ℕ) (d : Declared) (b : Bool) → (bytes_eq name.text q ≡ b) → first (if b then y ∷ [] else []) ≡ Some d → IsDeclared ps d × (d.owner ≡ a.owner) =
    λ q d b. elim b as (λ b. (bytes_eq name.text q ≡ b) → first (if b then y ∷ [] else []) ≡ Some d → IsDeclared ps d × (d.owner ≡ a.owner)) [
      | true ↦ λ m e.
          let found_list : found_here s q ≡ Some x = ap (λ (b : Bool). first (if b then x ∷ [] else [])) m in
          let r = own_declares ps (found (s ∷ scopes)) a.owner q x (entry name (for_of_role kind) top a.owner false 0 ∷ []) (stated_each ps (s ∷ scopes) a top kind name h) found_list (here_look s scopes q x found_list) in
          declared-is ps a.owner y d e (declared_from ps x name.spot.at r.0, refl)
      | false ↦ λ m e. cc
    ]
    in
    scopes_inner ps a.owner (for_of_scope a.owner kind name body) scopes refl (λ q d here e. own q d (bytes_eq name.text q) refl e) k

pub function_known : (ps : List Mention) (scopes : List Scope) (f : ℕ) (spot : Spot) (names : List Name) (ss : PlainStmts) → BeginApart ps → ScopesKnown ps f scopes → AllHave ps (begin_mention (function_scope spot.at names ss ∷ scopes) spot.at spot)
    → AllHave ps (parameter_mentions (function_scope spot.at names ss ∷ scopes) (in_function spot.at) names) → AllStated ps (found (function_scope spot.at names ss ∷ scopes)) spot.at (own_of_all spot.at true ss)
    → AllStated ps (found_var (function_scope spot.at names ss ∷ scopes)) spot.at (vars_of_all spot.at true ss) → ScopesKnown ps spot.at (function_scope spot.at names ss ∷ scopes)
unfolding function_scope look_up functions_of
function_known ps scopes f spot names ss apart k begins params own vars =
    let s = function_scope spot.at names ss in
    let look = λ (q : List ℕ). one_var (named q (vars_of_all spot.at true ss)) in
    let all = stated_append ps (found (s ∷ scopes)) spot.at (parameters spot.at look names) (own_of_all spot.at true ss) (stated_parameters ps (s ∷ scopes) spot.at look names params) own in
    let around : around_of ps spot.at ≡ f = around_is ps _ apart begins.0 refl ∙ ap (λ fs. second top (spot.at ∷ fs)) k.within in
    scopes_function ps f spot.at s scopes refl refl
    (λ q d here e. own_declares ps (found (s ∷ scopes)) spot.at q d (parameters spot.at look names ++ own_of_all spot.at true ss) all e (here_look s scopes q d here))
    (λ q d here e. vars_declare ps (found_var (s ∷ scopes)) spot.at q d (vars_of_all spot.at true ss) vars e (here_look_var s scopes q d refl here)) around k
