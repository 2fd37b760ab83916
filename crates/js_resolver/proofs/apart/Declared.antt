-- What the lists of a tree declare is of their function, and is found in their scopes.
use Rattle.std.proofs.Common.{◌≡◌, ℕ, List, [], ◌∷◌, ◌++◌, inl, inr, refl, Option, Some, None, Bool, true, false}
use Rattle.std.proofs.lemmas.Bool.{true≢false}
use Rattle.std.specs.List.{flat_map}
use Rattle.js_tree.specs.declared.tree.Name.{Name}
use Rattle.js_tree.specs.declared.tree.DeclareKind.{DeclareKind}
use Rattle.js_tree.specs.declared.tree.DeclareKind.TheVariants.{Const as const_word, Let as let_word, Var as var_word}
use Rattle.js_tree.specs.Plain as t
use Rattle.js_tree.specs.Plain.{PlainPerhaps, PlainDeclarators, PlainStart, PlainStmt, PlainStmtForm, PlainStmts, PlainItem}
use Rattle.js_names.specs.declared.mention.Declared.{Declared}
use Rattle.js_names.specs.declared.mention.Around.{Around}
use Rattle.js_names.specs.declared.mention.What.{What}
use Rattle.js_names.specs.Entries.{top, entry, own_declarator, own_declarators, own_of, own_of_all, own_of_start, own_of_item, var_declarator, var_declarators, vars_of, vars_of_form, vars_of_all, vars_of_start, vars_of_item}
use Rattle.js_names.specs.Scopes.{Scope, named, first, one_var, parameters, block_scope, for_three_scope, list_scope, for_of_scope, for_of_role, function_scope, program_scope}
use Rattle.js_names.specs.Unresolved.{Unresolved, one_mention, in_function, parameter_mentions, declared_role}
use Rattle.js_names.specs.Mentions.{found, found_var, found_here}
use Rattle.js_resolver.proofs.sound.Found.{in_whole, IsKept, There, AllFound}
use Rattle.js_resolver.proofs.sound.Known.{earlier_is}
use Rattle.js_resolver.proofs.apart.There.{AllThere, first_kept, var_kept, there_left, there_right, AllOf, of_append, nested_there, own_there, vars_there}

-- where a list is a block's or a `for`'s, nothing stands directly in the list of a function or of the program
abbrev Directs : Bool → Bool → Type 0
Directs whole direct = whole ≡ false → direct ≡ false

any_directs : (direct : Bool) → Directs true direct
any_directs direct e = absurd (true≢false e)

no_directs : (whole : Bool) → Directs whole false
no_directs whole e = refl

own_declarator_of : (f : ℕ) (w direct : Bool) → Directs w direct → (kind : DeclareKind) (name : Name) (value : PlainPerhaps) (end : ℕ) → AllOf f w (own_declarator f direct kind name value end)
own_declarator_of f w direct g const_word name value end = (record { owner = refl; nested = λ e. (g e, refl); inside = λ e. refl }, tt)
own_declarator_of f w direct g let_word name value end = (record { owner = refl; nested = λ e. (g e, refl); inside = λ e. refl }, tt)
own_declarator_of f w direct g var_word name value end = tt

own_declarators_of : (f : ℕ) (w direct : Bool) → Directs w direct → (kind : DeclareKind) (ds : PlainDeclarators) → AllOf f w (own_declarators f direct kind ds)
own_declarators_of f w direct g kind t.no_declarators = tt
own_declarators_of f w direct g kind (t.declarator_in name value end ds) =
    of_append f w (own_declarator f direct kind name value end) (own_declarators f direct kind ds) (own_declarator_of f w direct g kind name value end) (own_declarators_of f w direct g kind ds)

own_stmt_of : (f : ℕ) (w direct : Bool) → Directs w direct → (s : PlainStmt) → AllOf f w (own_of f direct s)
own_stmt_of f w direct g (t.on line (t.declaration kind ds)) = own_declarators_of f w direct g kind ds
own_stmt_of f w direct g (t.on line _) = tt

own_all_of : (f : ℕ) (w direct : Bool) → Directs w direct → (ss : PlainStmts) → AllOf f w (own_of_all f direct ss)
own_all_of f w direct g t.no_stmts = tt
own_all_of f w direct g (t.stmt_in s ss) = of_append f w (own_of f direct s) (own_of_all f direct ss) (own_stmt_of f w direct g s) (own_all_of f w direct g ss)

own_start_of : (f : ℕ) (s : PlainStart) → AllOf f false (own_of_start f s)
own_start_of f t.nothing = tt
own_start_of f (t.declared line kind ds) = own_declarators_of f false false (no_directs false) kind ds
own_start_of f (t.started e) = tt

var_declarator_of : (f : ℕ) (direct : Bool) (kind : DeclareKind) (name : Name) (value : PlainPerhaps) (end : ℕ) → AllOf f true (var_declarator f direct kind name value end)
var_declarator_of f direct const_word name value end = tt
var_declarator_of f direct let_word name value end = tt
var_declarator_of f direct var_word name value end = (record { owner = refl; nested = λ e. (any_directs direct e, refl); inside = λ e. refl }, tt)

var_declarators_of : (f : ℕ) (direct : Bool) (kind : DeclareKind) (ds : PlainDeclarators) → AllOf f true (var_declarators f direct kind ds)
var_declarators_of f direct kind t.no_declarators = tt
var_declarators_of f direct kind (t.declarator_in name value end ds) =
    of_append f true (var_declarator f direct kind name value end) (var_declarators f direct kind ds) (var_declarator_of f direct kind name value end) (var_declarators_of f direct kind ds)

var_start_of : (f : ℕ) (s : PlainStart) → AllOf f true (vars_of_start f s)
var_start_of f t.nothing = tt
var_start_of f (t.declared line kind ds) = var_declarators_of f false kind ds
var_start_of f (t.started e) = tt

mutual
  var_stmt_of : (f : ℕ) (direct : Bool) (s : PlainStmt) → AllOf f true (vars_of f direct s)
  var_stmt_of f direct (t.on line form) = var_form_of f direct form

  var_form_of : (f : ℕ) (direct : Bool) (form : PlainStmtForm) → AllOf f true (vars_of_form f direct form)
  var_form_of f direct (t.block ss) = var_all_of f false ss
  var_form_of f direct (t.declaration kind ds) = var_declarators_of f direct kind ds
  var_form_of f direct (t.if_alone e s) = var_stmt_of f false s
  var_form_of f direct (t.if_else e s other) = of_append f true (vars_of f false s) (vars_of f false other) (var_stmt_of f false s) (var_stmt_of f false other)
  var_form_of f direct (t.while_of e s) = var_stmt_of f false s
  var_form_of f direct (t.for_three start test next s) = of_append f true (vars_of_start f start) (vars_of f false s) (var_start_of f start) (var_stmt_of f false s)
  var_form_of f direct (t.for_of kind name e s) = var_stmt_of f false s
  var_form_of f direct _ = tt

  var_all_of : (f : ℕ) (direct : Bool) (ss : PlainStmts) → AllOf f true (vars_of_all f direct ss)
  var_all_of f direct t.no_stmts = tt
  var_all_of f direct (t.stmt_in s ss) = of_append f true (vars_of f direct s) (vars_of_all f direct ss) (var_stmt_of f direct s) (var_all_of f direct ss)

parameters_of : (f : ℕ) (vars : List ℕ → Option Declared) (names : List Name) → AllOf f true (parameters f vars names)
parameters_of f vars [] = tt
parameters_of f vars (x ∷ xs) = (record { owner = refl; nested = λ e. absurd (true≢false e); inside = λ e. refl }, parameters_of f vars xs)

own_items_of : (is : List PlainItem) → AllOf top true (flat_map own_of_item is)
own_items_of [] = tt
own_items_of (t.statement spot s ∷ is) = of_append top true (own_of top true s) (flat_map own_of_item is) (own_stmt_of top true true (any_directs true) s) (own_items_of is)
own_items_of (t.function_of spot name names ss ∷ is) = (record { owner = refl; nested = λ e. absurd (true≢false e); inside = λ e. absurd (e refl) }, own_items_of is)

var_items_of : (is : List PlainItem) → AllOf top true (flat_map vars_of_item is)
var_items_of [] = tt
var_items_of (t.statement spot s ∷ is) = of_append top true (vars_of top true s) (flat_map vars_of_item is) (var_stmt_of top true s) (var_items_of is)
var_items_of (t.function_of spot name names ss ∷ is) = var_items_of is

-- the scopes of a tree

pub block_own : (f : ℕ) (ss : PlainStmts) (scopes : List Scope) → AllThere (found (block_scope f ss ∷ scopes)) f (in_whole (block_scope f ss ∷ scopes)) (own_of_all f false ss)
unfolding block_scope
block_own f ss scopes = nested_there f (own_of_all f false ss) (block_scope f ss).vars scopes (own_all_of f false false (no_directs false) ss)

pub for_own : (f : ℕ) (start : PlainStart) (s : PlainStmt) (scopes : List Scope) → AllThere (found (for_three_scope f start s ∷ scopes)) f (in_whole (for_three_scope f start s ∷ scopes)) (own_of_start f start)
unfolding for_three_scope
for_own f start s scopes = nested_there f (own_of_start f start) (for_three_scope f start s).vars scopes (own_start_of f start)

each_kept : (f end : ℕ) (kind : DeclareKind) (name : Name) → IsKept f false (entry name (for_of_role kind) end f false 0).declared
each_kept f end const_word name = record { owner = refl; nested = λ e. (refl, refl); inside = λ e. refl }
each_kept f end let_word name = record { owner = refl; nested = λ e. (refl, refl); inside = λ e. refl }
each_kept f end var_word name = record { owner = refl; nested = λ e. (refl, refl); inside = λ e. refl }

pub each_own : (f : ℕ) (kind : DeclareKind) (name : Name) (scopes : List Scope) → There (found (list_scope f kind name ∷ scopes)) f (in_whole (list_scope f kind name ∷ scopes)) name.text
unfolding list_scope
each_own f kind name scopes = (nested_there f (entry name (for_of_role kind) top f false 0 ∷ []) (λ q. None) scopes (each_kept f top kind name, tt)).0

-- the parameters of a function, and what its list declares
function_own_of : (f : ℕ) (names : List Name) (ss : PlainStmts) → AllOf f true (parameters f (λ q. one_var (named q (vars_of_all f true ss))) names ++ own_of_all f true ss)
function_own_of f names ss =
    let look = λ (q : List ℕ). one_var (named q (vars_of_all f true ss)) in of_append f true (parameters f look names) (own_of_all f true ss) (parameters_of f look names) (own_all_of f true true (any_directs true) ss)

function_all : (f : ℕ) (names : List Name) (ss : PlainStmts) (scopes : List Scope)
    → AllThere (found (function_scope f names ss ∷ scopes)) f (in_whole (function_scope f names ss ∷ scopes)) (parameters f (λ q. one_var (named q (vars_of_all f true ss))) names ++ own_of_all f true ss)
unfolding function_scope
function_all f names ss scopes =
    let look = λ (q : List ℕ). one_var (named q (vars_of_all f true ss)) in
    own_there f (parameters f look names ++ own_of_all f true ss) (vars_of_all f true ss) scopes (function_own_of f names ss) (var_all_of f true ss)

pub function_own : (f : ℕ) (names : List Name) (ss : PlainStmts) (scopes : List Scope) → AllThere (found (function_scope f names ss ∷ scopes)) f (in_whole (function_scope f names ss ∷ scopes)) (own_of_all f true ss)
function_own f names ss scopes =
    there_right (found (function_scope f names ss ∷ scopes)) f (in_whole (function_scope f names ss ∷ scopes)) (parameters f (λ q. one_var (named q (vars_of_all f true ss))) names) (own_of_all f true ss) (function_all f names ss scopes)

pub function_vars : (f : ℕ) (names : List Name) (ss : PlainStmts) (scopes : List Scope) → AllThere (found_var (function_scope f names ss ∷ scopes)) f true (vars_of_all f true ss)
unfolding function_scope
function_vars f names ss scopes =
    let look = λ (q : List ℕ). one_var (named q (vars_of_all f true ss)) in
    vars_there f (parameters f look names ++ own_of_all f true ss) (vars_of_all f true ss) scopes (function_own_of f names ss) (var_all_of f true ss)

-- what these scopes find is of their function

pub block_kept : (f : ℕ) (ss : PlainStmts) (q : List ℕ) (d : Declared) → found_here (block_scope f ss) q ≡ Some d → d.owner ≡ f
unfolding block_scope
block_kept f ss q d h = (first_kept f false (own_of_all f false ss) q d (own_all_of f false false (no_directs false) ss) h).owner

pub for_kept : (f : ℕ) (start : PlainStart) (s : PlainStmt) (q : List ℕ) (d : Declared) → found_here (for_three_scope f start s) q ≡ Some d → d.owner ≡ f
unfolding for_three_scope
for_kept f start s q d h = (first_kept f false (own_of_start f start) q d (own_start_of f start) h).owner

pub list_kept : (f : ℕ) (kind : DeclareKind) (name : Name) (q : List ℕ) (d : Declared) → found_here (list_scope f kind name) q ≡ Some d → d.owner ≡ f
unfolding list_scope
list_kept f kind name q d h = (first_kept f false (entry name (for_of_role kind) top f false 0 ∷ []) q d (each_kept f top kind name, tt) h).owner

pub iteration_kept : (f : ℕ) (kind : DeclareKind) (name : Name) (s : PlainStmt) (q : List ℕ) (d : Declared) → found_here (for_of_scope f kind name s) q ≡ Some d → d.owner ≡ f
unfolding for_of_scope
iteration_kept f kind name s q d h = (first_kept f false (entry name (for_of_role kind) name.spot.at f false 0 ∷ []) q d (each_kept f name.spot.at kind name, tt) h).owner

pub function_kept : (f : ℕ) (names : List Name) (ss : PlainStmts) (q : List ℕ) (d : Declared) → found_here (function_scope f names ss) q ≡ Some d → d.owner ≡ f
unfolding function_scope
function_kept f names ss q d h =
    let own = parameters f (λ q. one_var (named q (vars_of_all f true ss))) names ++ own_of_all f true ss in
    elim (earlier_is (first (named q own)) (one_var (named q (vars_of_all f true ss))) d h) as (λ _. d.owner ≡ f)
    [ inl e ↦ (first_kept f true own q d (function_own_of f names ss) e).owner | inr e ↦ (var_kept f true (vars_of_all f true ss) q d (var_all_of f true ss) e).owner ]

pub program_own : (is : List PlainItem) → AllThere (found (program_scope is ∷ [])) top (in_whole (program_scope is ∷ [])) (flat_map own_of_item is)
unfolding program_scope
program_own is = own_there top (flat_map own_of_item is) (flat_map vars_of_item is) [] (own_items_of is) (var_items_of is)

pub program_vars : (is : List PlainItem) → AllThere (found_var (program_scope is ∷ [])) top true (flat_map vars_of_item is)
unfolding program_scope
program_vars is = vars_there top (flat_map own_of_item is) (flat_map vars_of_item is) [] (own_items_of is) (var_items_of is)

-- the name of a declaration is found

pub found_append : (xs ys : List Unresolved) → AllFound xs → AllFound ys → AllFound (xs ++ ys)
found_append [] ys h k = k
found_append (x ∷ xs) ys h k = (h.0, found_append xs ys h.1 k)

parameters_there : (scopes : List Scope) (f : ℕ) (vars : List ℕ → Option Declared) (names : List Name) → AllThere (found scopes) f (in_whole scopes) (parameters f vars names) → AllFound (parameter_mentions scopes (in_function f) names)
parameters_there scopes f vars [] h = tt
parameters_there scopes f vars (x ∷ xs) h = (h.0, parameters_there scopes f vars xs h.1)

pub parameters_found : (f : ℕ) (names : List Name) (ss : PlainStmts) (scopes : List Scope) → AllFound (parameter_mentions (function_scope f names ss ∷ scopes) (in_function f) names)
parameters_found f names ss scopes =
    let look = λ (q : List ℕ). one_var (named q (vars_of_all f true ss)) in
    parameters_there (function_scope f names ss ∷ scopes) f look names
    (there_left (found (function_scope f names ss ∷ scopes)) f (in_whole (function_scope f names ss ∷ scopes)) (parameters f look names) (own_of_all f true ss) (function_all f names ss scopes))

pub declarator_found : (scopes : List Scope) (a : Around) (direct : Bool) (kind : DeclareKind) (name : Name) (value : PlainPerhaps) (end : ℕ) → AllThere (found scopes) a.owner (in_whole scopes) (own_declarator a.owner direct kind name value end)
    → AllThere (found_var scopes) a.owner true (var_declarator a.owner direct kind name value end) → AllFound (one_mention scopes a (What.Declares (declared_role kind)) name)
declarator_found scopes a direct const_word name value end h k = (h.0, tt)
declarator_found scopes a direct let_word name value end h k = (h.0, tt)
declarator_found scopes a direct var_word name value end h k = (k.0, tt)

pub each_found : (scopes : List Scope) (a : Around) (kind : DeclareKind) (name : Name) → AllFound (one_mention (list_scope a.owner kind name ∷ scopes) a (What.Declares (for_of_role kind)) name)
each_found scopes a const_word name = (each_own a.owner const_word name scopes, tt)
each_found scopes a let_word name = (each_own a.owner let_word name scopes, tt)
each_found scopes a var_word name = (each_own a.owner var_word name scopes, tt)
