-- Maps that take in declarations.
use Rattle.std.proofs.Common.{◌≡◌, ℕ, ◌+◌, ◌<◌, List, [], ◌∷◌, ◌++◌, ◌∙◌, ap, refl, sym, subst, map, length, take, get_or, Option, Some, None, Bool, true, false, ⊎_elim, if◌then◌else◌, arith}
use Rattle.std.proofs.Math.Bool.{cond}
use Rattle.std.proofs.lemmas.Bool.{cases_Bool, cond-true, cond-false}
use Rattle.std.proofs.lemmas.Slice.Eq.{bytes_eq-Decides as bytes_decides}
use Rattle.std.proofs.lemmas.Map.Text.{hash_map_updates_text}
use Rattle.std.specs.Str.{bytes_eq}
use Rattle.std.specs.Prelude.{is_some, max, String, string_bytes, Vec, Result, Ok, Err, OnOk}
use Rattle.std.specs.List.{flat_map}
use Rattle.std.specs.HashMap.{get_by_text, UpdatesBy}
use Rattle.std.specs.String.{string_eq}
use Rattle.std.specs.declared.alloc.Global.{Global}
use Rattle.std.proofs.lemmas.List.{take_more, map-append}
use Rattle.js_data.proofs.Shared.{none_of, flat_map_take, kept-append}
use Rattle.js_tree.specs.declared.tree.Name.{Name}
use Rattle.js_names.specs.declared.mention.Declared.{Declared}
use Rattle.js_tree.specs.declared.tree.Declarator.{Declarator}
use Rattle.js_tree.specs.declared.tree.DeclareKind.{DeclareKind}
use Rattle.js_tree.specs.declared.tree.Stmt.{Stmt}
use Rattle.js_tree.specs.declared.tree.StmtForm.{Declaration, Block, IfElse, ForThree, If, While, ForOf}
use Rattle.js_tree.specs.Plain.{declarators_of, stmts_of}
use Rattle.js_tree.specs.Views.{plain_declarator, plain_stmt, plain_start}
use Rattle.js_names.specs.Entries.{Entry, own_declarators, var_declarators, own_of, own_of_all, vars_of, vars_of_all, own_of_start, vars_of_start}
use Rattle.js_names.specs.Scopes.{first, named, one_var, merge, kept, parameter, parameters}
use Rattle.js_names.specs.Mentions.{or_else}
use Rattle.js_tree.proofs.Statements.{with_form, declaration_is, block_is, if_else_is, for_is, start_is, if_is, while_is, for_of_is}
use Rattle.js_tree.specs.declared.tree.Expr.{Expr}
use Rattle.js_tree.specs.declared.tree.Start.{Start, Declares}
use Rattle.std.specs.declared.boxed.Box.{Box}
use Rattle.js_names.specs.Taken.{Names, alone, TakesOwn, TakesVars, own_of_declarator, vars_of_declarator, own_of_stmt, vars_of_stmt}

pub or_else_none : {A : Type 0} (a : Option A) → or_else a None ≡ a
or_else_none None = refl
or_else_none (Some x) = refl

pub merge_none : (a : Option Declared) → merge a None ≡ a
merge_none None = refl
merge_none (Some x) = refl

kept_no : (o : Option Declared) → kept false o ≡ None
kept_no None = refl
kept_no (Some d) = refl

kept_merge : (b : Bool) (x y : Option Declared) → kept b (merge x y) ≡ merge (kept b x) (kept b y)
kept_merge b None y = refl
kept_merge true (Some x) None = refl
kept_merge false (Some x) None = refl
kept_merge true (Some x) (Some y) = refl
kept_merge false (Some x) (Some y) = refl

-- one more declaration, in a look-up
pub own_step : (old new : List ℕ → Option Declared) (n : List ℕ) (d : Declared) → old n ≡ None → ((q : List ℕ) → new q ≡ cond (bytes_eq n q) (Some d) (old q))
    → (q : List ℕ) → new q ≡ or_else (old q) (first (named q (alone n d)))
own_step old new n d a h q =
    let b = bytes_eq n q in
    ⊎_elim
    (λ e. h q ∙ cond-true b (Some d) (old q) e ∙ sym (ap (λ o. or_else o (first (if b then d ∷ [] else []))) (subst (λ z. old z ≡ None) ((bytes_decides n q).0 e) a) ∙ ap (λ c. first (if c then d ∷ [] else [])) e))
    (λ e. h q ∙ cond-false b (Some d) (old q) e ∙ sym (ap (λ c. or_else (old q) (first (if c then d ∷ [] else []))) e ∙ or_else_none (old q)))
    (cases_Bool b)

pub var_step : (keep : List ℕ → Bool) (old new : List ℕ → Option Declared) (n : List ℕ) (m d : Declared) → keep n ≡ true → Some m ≡ merge (old n) (Some d)
    → ((q : List ℕ) → new q ≡ cond (bytes_eq n q) (Some m) (old q)) → (q : List ℕ) → new q ≡ merge (old q) (kept (keep q) (one_var (named q (alone n d))))
var_step keep old new n m d kn a h q =
    let b = bytes_eq n q in
    ⊎_elim
    (λ e.
    let same : n ≡ q = (bytes_decides n q).0 e in
    h q ∙ cond-true b (Some m) (old q) e ∙ a
    ∙ sym (ap (λ c. merge (old q) (kept (keep q) (one_var (if c then d ∷ [] else [])))) e ∙ ap (λ k. merge (old q) (kept k (Some d))) (ap keep (sym same) ∙ kn) ∙ ap (λ z. merge (old z) (Some d)) (sym same)))
    (λ e. h q ∙ cond-false b (Some m) (old q) e ∙ sym (ap (λ c. merge (old q) (kept (keep q) (one_var (if c then d ∷ [] else [])))) e ∙ merge_none (old q)))
    (cases_Bool b)

-- a `var` that is not kept
not_kept : (keep : List ℕ → Bool) (n : List ℕ) (d : Declared) → keep n ≡ false → (q : List ℕ) → kept (keep q) (one_var (named q (alone n d))) ≡ None
not_kept keep n d kn q =
    let b = bytes_eq n q in
    ⊎_elim
    (λ e. ap (λ k. kept k (one_var (named q (alone n d)))) (ap keep (sym ((bytes_decides n q).0 e)) ∙ kn) ∙ kept_no (one_var (named q (alone n d))))
    (λ e. ap (λ c. kept (keep q) (one_var (if c then d ∷ [] else []))) e)
    (cases_Bool b)

pub var_passed : (keep : List ℕ → Bool) (a : Names) (n : List ℕ) (d : Declared) → keep n ≡ false → TakesVars keep a a (alone n d)
var_passed keep a n d kn = λ q. sym (ap (merge (get_by_text a q)) (not_kept keep n d kn q) ∙ merge_none (get_by_text a q))

named-append : (q : List ℕ) (xs ys : List Entry) → named q (xs ++ ys) ≡ named q xs ++ named q ys
named-append q xs ys = kept-append (named q) (λ x. bytes_eq x.name q) (λ x. x.declared) refl (λ _ _. refl) xs ys

first-append : (xs ys : List Declared) → first (xs ++ ys) ≡ or_else (first xs) (first ys)
first-append [] ys = refl
first-append (x ∷ xs) ys = refl

pub or_else_assoc : {A : Type 0} (a b c : Option A) → or_else (or_else a b) c ≡ or_else a (or_else b c)
or_else_assoc None b c = refl
or_else_assoc (Some x) b c = refl

max_assoc : (a b c : ℕ) → max (max a b) c ≡ max a (max b c)
max_assoc a b c = omega arith

merge_assoc : (a b c : Option Declared) → merge (merge a b) c ≡ merge a (merge b c)
merge_assoc None b c = refl
merge_assoc (Some x) None c = refl
merge_assoc (Some x) (Some y) None = refl
merge_assoc (Some x) (Some y) (Some z) = ap (λ g. Some (record x { direct = false; given = g })) (max_assoc x.given y.given z.given)

one_var-append : (xs ys : List Declared) → one_var (xs ++ ys) ≡ merge (one_var xs) (one_var ys)
one_var-append [] ys = refl
one_var-append (x ∷ xs) ys = ap (merge (Some x)) (one_var-append xs ys) ∙ sym (merge_assoc (Some x) (one_var xs) (one_var ys))

-- a map that took in two lists in turn took in both
pub own_both : (a b c : Names) (xs ys : List Entry) → TakesOwn a b xs → TakesOwn b c ys → TakesOwn a c (xs ++ ys)
own_both a b c xs ys h k = λ q.
    k q ∙ ap (λ o. or_else o (first (named q ys))) (h q) ∙ or_else_assoc (get_by_text a q) (first (named q xs)) (first (named q ys))
    ∙ ap (or_else (get_by_text a q)) (sym (ap first (named-append q xs ys) ∙ first-append (named q xs) (named q ys)))

pub vars_both : (keep : List ℕ → Bool) (a b c : Names) (xs ys : List Entry) → TakesVars keep a b xs → TakesVars keep b c ys → TakesVars keep a c (xs ++ ys)
vars_both keep a b c xs ys h k = λ q.
    let x = one_var (named q xs) in
    let y = one_var (named q ys) in
    k q ∙ ap (λ o. merge o (kept (keep q) y)) (h q) ∙ merge_assoc (get_by_text a q) (kept (keep q) x) (kept (keep q) y)
    ∙ ap (merge (get_by_text a q)) (sym (ap (kept (keep q)) (ap one_var (named-append q xs ys) ∙ one_var-append (named q xs) (named q ys)) ∙ kept_merge (keep q) x y))

-- one more iteration of a loop that takes in what each element declares
pub own_more : {X : Type 0} (f : X → List Entry) (xs : List X) (i : ℕ) (d x : X) (a b c : Names) → i < length xs → x ≡ get_or xs i d
    → TakesOwn a b (flat_map f (take i xs)) → TakesOwn b c (f x) → TakesOwn a c (flat_map f (take (i + 1) xs))
own_more f xs i d x a b c h e s t =
    subst (TakesOwn a c) (sym (flat_map_take f xs i d x h e)) (own_both a b c _ _ s t)

pub vars_more : {X : Type 0} (keep : List ℕ → Bool) (f : X → List Entry) (xs : List X) (i : ℕ) (d x : X) (a b c : Names) → i < length xs → x ≡ get_or xs i d
    → TakesVars keep a b (flat_map f (take i xs)) → TakesVars keep b c (f x) → TakesVars keep a c (flat_map f (take (i + 1) xs))
vars_more keep f xs i d x a b c h e s t =
    subst (TakesVars keep a c) (sym (flat_map_take f xs i d x h e)) (vars_both keep a b c _ _ s t)

updated : (m n : Names) (key : String Global) (name : List ℕ) (d : Declared) → string_bytes key ≡ name → UpdatesBy string_eq (λ k. bytes_eq (string_bytes key) (string_bytes k)) m n (Some d)
    → (q : List ℕ) → get_by_text n q ≡ cond (bytes_eq name q) (Some d) (get_by_text m q)
updated m n key name d e u = subst (λ b. (q : List ℕ) → get_by_text n q ≡ cond (bytes_eq b q) (Some d) (get_by_text m q)) e (hash_map_updates_text (string_bytes key) m n (Some d) u)

-- an insertion of a name that was not there
pub own_inserted : (m n : Names) (key : String Global) (bs name : List ℕ) (d : Declared) (r : Bool) → string_bytes key ≡ bs → bs ≡ name → r ≡ is_some (get_by_text m bs) → r ≡ false
    → UpdatesBy string_eq (λ k. bytes_eq (string_bytes key) (string_bytes k)) m n (Some d) → TakesOwn m n (alone name d)
own_inserted m n key bs name d r e f t is u =
    own_step (get_by_text m) (get_by_text n) name d (subst (λ b. get_by_text m b ≡ None) f (none_of (get_by_text m bs) (sym t ∙ is))) (updated m n key name d (e ∙ f) u)

pub var_inserted : (keep : List ℕ → Bool) (m n : Names) (key : String Global) (bs name : List ℕ) (x d : Declared) → string_bytes key ≡ bs → bs ≡ name → true ≡ keep bs → Some x ≡ merge (get_by_text m bs) (Some d)
    → UpdatesBy string_eq (λ k. bytes_eq (string_bytes key) (string_bytes k)) m n (Some x) → TakesVars keep m n (alone name d)
var_inserted keep m n key bs name x d e f kn t u =
    var_step keep (get_by_text m) (get_by_text n) name x d (ap keep (sym f) ∙ sym kn) (subst (λ b. Some x ≡ merge (get_by_text m b) (Some d)) f t) (updated m n key name x (e ∙ f) u)

-- lists of a tree, as the rules see them

pub own_declarators_of : (owner : ℕ) (direct : Bool) (kind : DeclareKind) (ds : List Declarator) → own_declarators owner direct kind (declarators_of (map plain_declarator ds)) ≡ flat_map (own_of_declarator owner direct kind) ds
own_declarators_of owner direct kind [] = refl
own_declarators_of owner direct kind (d ∷ ds) = ap (λ es. own_of_declarator owner direct kind d ++ es) (own_declarators_of owner direct kind ds)

pub var_declarators_of : (owner : ℕ) (direct : Bool) (kind : DeclareKind) (ds : List Declarator) → var_declarators owner direct kind (declarators_of (map plain_declarator ds)) ≡ flat_map (vars_of_declarator owner direct kind) ds
var_declarators_of owner direct kind [] = refl
var_declarators_of owner direct kind (d ∷ ds) = ap (λ es. vars_of_declarator owner direct kind d ++ es) (var_declarators_of owner direct kind ds)

pub own_of_stmts : (owner : ℕ) (direct : Bool) (ss : List Stmt) → own_of_all owner direct (stmts_of (map plain_stmt ss)) ≡ flat_map (own_of_stmt owner direct) ss
own_of_stmts owner direct [] = refl
own_of_stmts owner direct (s ∷ ss) = ap (λ es. own_of_stmt owner direct s ++ es) (own_of_stmts owner direct ss)

pub vars_of_stmts : (owner : ℕ) (direct : Bool) (ss : List Stmt) → vars_of_all owner direct (stmts_of (map plain_stmt ss)) ≡ flat_map (vars_of_stmt owner direct) ss
vars_of_stmts owner direct [] = refl
vars_of_stmts owner direct (s ∷ ss) = ap (λ es. vars_of_stmt owner direct s ++ es) (vars_of_stmts owner direct ss)

pub own_of_declaration : (owner : ℕ) (direct : Bool) (s : Stmt) (kind : DeclareKind) (v : Vec Declarator Global) (ds : List Declarator) → s.form ≡ Declaration kind v → ds ≡ v.items
    → flat_map (own_of_declarator owner direct kind) ds ≡ own_of_stmt owner direct s
own_of_declaration owner direct s kind v ds e d =
    ap (flat_map (own_of_declarator owner direct kind)) d ∙ sym (own_declarators_of owner direct kind v.items) ∙ sym (ap (own_of owner direct) (with_form s (Declaration kind v) _ e (declaration_is kind v)))

pub own_on_ok : {A E : Type 0} (r : Result A E) (a b : Names) (xs ys : List Entry) → xs ≡ ys → OnOk r (TakesOwn a b xs) → OnOk r (TakesOwn a b ys)
own_on_ok r a b xs ys e h = subst (λ es. OnOk r (TakesOwn a b es)) e h

pub vars_on_ok : {A E : Type 0} (keep : List ℕ → Bool) (r : Result A E) (a b : Names) (xs ys : List Entry) → xs ≡ ys → OnOk r (TakesVars keep a b xs) → OnOk r (TakesVars keep a b ys)
vars_on_ok keep r a b xs ys e h = subst (λ es. OnOk r (TakesVars keep a b es)) e h

pub own_of_head : (owner : ℕ) (b : Start) (line : ℕ) (kind : DeclareKind) (v : Vec Declarator Global) (ds : List Declarator) → b ≡ Declares line kind v → ds ≡ v.items
    → flat_map (own_of_declarator owner false kind) ds ≡ own_of_start owner (plain_start b)
own_of_head owner b line kind v ds e d =
    ap (flat_map (own_of_declarator owner false kind)) d ∙ sym (own_declarators_of owner false kind v.items) ∙ sym (ap (own_of_start owner) (ap plain_start e ∙ start_is line kind v))

pub vars_of_head : (owner : ℕ) (b : Start) (line : ℕ) (kind : DeclareKind) (v : Vec Declarator Global) (ds : List Declarator) → b ≡ Declares line kind v → ds ≡ v.items
    → flat_map (vars_of_declarator owner false kind) ds ≡ vars_of_start owner (plain_start b)
vars_of_head owner b line kind v ds e d =
    ap (flat_map (vars_of_declarator owner false kind)) d ∙ sym (var_declarators_of owner false kind v.items) ∙ sym (ap (vars_of_start owner) (ap plain_start e ∙ start_is line kind v))

pub vars_of_declaration : (owner : ℕ) (direct : Bool) (s : Stmt) (kind : DeclareKind) (v : Vec Declarator Global) (ds : List Declarator) → s.form ≡ Declaration kind v → ds ≡ v.items
    → flat_map (vars_of_declarator owner direct kind) ds ≡ vars_of_stmt owner direct s
vars_of_declaration owner direct s kind v ds e d =
    ap (flat_map (vars_of_declarator owner direct kind)) d ∙ sym (var_declarators_of owner direct kind v.items) ∙ sym (ap (vars_of owner direct) (with_form s (Declaration kind v) _ e (declaration_is kind v)))

pub vars_of_block : (owner : ℕ) (direct : Bool) (s : Stmt) (v : Vec Stmt Global) (ss : List Stmt) → s.form ≡ Block v → ss ≡ v.items
    → flat_map (vars_of_stmt owner false) ss ≡ vars_of_stmt owner direct s
vars_of_block owner direct s v ss e d =
    ap (flat_map (vars_of_stmt owner false)) d ∙ sym (vars_of_stmts owner false v.items) ∙ sym (ap (vars_of owner direct) (with_form s (Block v) _ e (block_is v)))

pub vars_of_if_else : (owner : ℕ) (direct : Bool) (s : Stmt) (test : Expr) (b o : Box Stmt Global) (x y : Stmt) → s.form ≡ IfElse test b o → x ≡ b.value → y ≡ o.value
    → vars_of_stmt owner false x ++ vars_of_stmt owner false y ≡ vars_of_stmt owner direct s
vars_of_if_else owner direct s test b o x y e h k =
    ap (λ z. vars_of_stmt owner false z ++ vars_of_stmt owner false y) h ∙ ap (λ z. vars_of_stmt owner false b.value ++ vars_of_stmt owner false z) k
    ∙ sym (ap (vars_of owner direct) (with_form s (IfElse test b o) _ e (if_else_is test b o)))

pub vars_of_for : (owner : ℕ) (direct : Bool) (s : Stmt) (head : Start) (test next : Option Expr) (b : Box Stmt Global) (x : Stmt) → s.form ≡ ForThree head test next b → x ≡ b.value
    → vars_of_start owner (plain_start head) ++ vars_of_stmt owner false x ≡ vars_of_stmt owner direct s
vars_of_for owner direct s head test next b x e h =
    ap (λ z. vars_of_start owner (plain_start head) ++ vars_of_stmt owner false z) h
    ∙ sym (ap (vars_of owner direct) (with_form s (ForThree head test next b) _ e (for_is head test next b)))

-- a statement that is the only part of another
pub vars_of_if : (owner : ℕ) (direct : Bool) (s : Stmt) (test : Expr) (b : Box Stmt Global) (x : Stmt) → s.form ≡ If test b → x ≡ b.value → vars_of_stmt owner false x ≡ vars_of_stmt owner direct s
vars_of_if owner direct s test b x e h = ap (vars_of_stmt owner false) h ∙ sym (ap (vars_of owner direct) (with_form s (If test b) _ e (if_is test b)))

pub vars_of_while : (owner : ℕ) (direct : Bool) (s : Stmt) (test : Expr) (b : Box Stmt Global) (x : Stmt) → s.form ≡ While test b → x ≡ b.value → vars_of_stmt owner false x ≡ vars_of_stmt owner direct s
vars_of_while owner direct s test b x e h = ap (vars_of_stmt owner false) h ∙ sym (ap (vars_of owner direct) (with_form s (While test b) _ e (while_is test b)))

pub vars_of_each : (owner : ℕ) (direct : Bool) (s : Stmt) (kind : DeclareKind) (name : Name) (list : Expr) (b : Box Stmt Global) (x : Stmt) → s.form ≡ ForOf kind name list b → x ≡ b.value
    → vars_of_stmt owner false x ≡ vars_of_stmt owner direct s
vars_of_each owner direct s kind name list b x e h =
    ap (vars_of_stmt owner false) h ∙ sym (ap (vars_of owner direct) (with_form s (ForOf kind name list b) _ e (for_of_is kind name list b)))

-- two steps, the second of which is the answer
pub vars_on_ok_both : {A E : Type 0} (keep : List ℕ → Bool) (r : Result A E) (a b c : Names) (xs ys zs : List Entry) → xs ++ ys ≡ zs → TakesVars keep a b xs → OnOk r (TakesVars keep b c ys) → OnOk r (TakesVars keep a c zs)
vars_on_ok_both keep (Ok x) a b c xs ys zs e h k = subst (TakesVars keep a c) e (vars_both keep a b c xs ys h k)
vars_on_ok_both keep (Err x) a b c xs ys zs e h k = tt

-- one more parameter
pub parameters_more : (owner : ℕ) (vars : List ℕ → Option Declared) (ns : List Name) (i : ℕ) (d x : Name) (a b c : Names) → i < length ns → x ≡ get_or ns i d
    → TakesOwn a b (parameters owner vars (take i ns)) → TakesOwn b c (parameter owner vars x ∷ []) → TakesOwn a c (parameters owner vars (take (i + 1) ns))
parameters_more owner vars ns i d x a b c h e s t =
    subst (TakesOwn a c)
    (ap (λ y. parameters owner vars (take i ns) ++ parameter owner vars y ∷ []) e
    ∙ sym (ap (map (parameter owner vars)) (take_more ns i d h) ∙ map-append (parameter owner vars) (take i ns) (get_or ns i d ∷ [])))
    (own_both a b c _ _ s t)
