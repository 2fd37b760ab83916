-- Scopes: which names a block, a function and the program declare.
use Rattle.std.specs.Prelude.{ℕ, Bool, true, false, max, map, List, [], ◌∷◌, ◌++◌, Option, Some, None, is_some, if◌then◌else◌}
use Rattle.std.specs.Str.{bytes_eq}
use Rattle.std.specs.List.{flat_map}
use Rattle.js_tree.specs.declared.tree.Name.{Name}
use Rattle.js_tree.specs.declared.tree.DeclareKind.{DeclareKind}
use Rattle.js_tree.specs.declared.tree.DeclareKind.TheVariants.{Const as const_word, Let as let_word, Var as var_word}
use Rattle.js_tree.specs.Plain.{PlainStart, PlainStmt, PlainStmts, PlainItem}
use Rattle.js_names.specs.declared.mention.Role.{Role}
use Rattle.js_names.specs.declared.mention.Role.TheVariants.{Parameter, Const, Let}
use Rattle.js_names.specs.declared.mention.Declared.{Declared}
use Rattle.js_names.specs.Entries.{Entry, top, entry, own_of_all, own_of_start, vars_of_start, vars_of, vars_of_all, own_of_item, vars_of_item}

-- a scope: what its own names are, what the `var`s in it declare, whether it is a whole function's or the
-- program's, and the function that it belongs to
pub record Scope : Type 0 where
  pub own : List ℕ → Option Declared
  pub vars : List ℕ → Option Declared
  pub whole : Bool
  pub owner : ℕ

-- the declarations of a name
abbrev pub named : List ℕ → List Entry → List Declared
named q [] = []
named q (e ∷ es) = if bytes_eq e.name q then e.declared ∷ named q es else named q es

-- the first of them
abbrev pub first : List Declared → Option Declared
first [] = None
first (d ∷ ds) = Some d

-- two `var`s of one name are one variable: the first, which then doesn't stand in one place alone
abbrev pub merge : Option Declared → Option Declared → Option Declared
merge None o = o
merge (Some d) None = Some d
merge (Some d) (Some e) = Some (record d { direct = false; given = max d.given e.given })

-- the one variable of all `var`s of a name
abbrev pub one_var : List Declared → Option Declared
one_var [] = None
one_var (d ∷ ds) = merge (Some d) (one_var ds)

abbrev pub scope_with : List Entry → List Entry → Bool → ℕ → Scope
scope_with own vars whole owner = record {
  own = λ q. first (named q own);
  vars = λ q. one_var (named q vars);
  whole = whole;
  owner = owner;
}

abbrev pub kept : Bool → Option Declared → Option Declared
kept is_own None = None
kept is_own (Some d) = if is_own then Some d else None

-- the scope of a block or of a `for`: a `var` in it clashes there with a name of its own alone, so it keeps
-- no other
abbrev pub inner_scope : List Entry → List Entry → ℕ → Scope
inner_scope own vars owner = record {
  own = λ q. first (named q own);
  vars = λ q. kept (is_some (first (named q own))) (one_var (named q vars));
  whole = false;
  owner = owner;
}

-- from where on the values of the `var`s of a name stay as they are, or 0
abbrev pub given_of : Option Declared → ℕ
given_of None = 0
given_of (Some d) = d.given

-- a parameter: the `var`s with a value that name it are its declarators too
abbrev pub parameter : ℕ → (List ℕ → Option Declared) → Name → Entry
parameter owner vars n = entry n Parameter (max n.spot.at (given_of (vars n.text))) owner false 0

abbrev pub parameters : ℕ → (List ℕ → Option Declared) → List Name → List Entry
parameters owner vars names = map (parameter owner vars) names

-- the scope of a block
unfoldable pub block_scope : ℕ → PlainStmts → Scope
block_scope owner ss = inner_scope (own_of_all owner false ss) (vars_of_all owner false ss) owner

-- the scope of a `for` with three parts
unfoldable pub for_three_scope : ℕ → PlainStart → PlainStmt → Scope
for_three_scope owner start s =
    inner_scope (own_of_start owner start) (vars_of_start owner start ++ vars_of owner false s) owner

-- what the name of a `for of` is declared as; no tokens spell one with `var`
abbrev pub for_of_role : DeclareKind → Role
for_of_role const_word = Const
for_of_role let_word = Let
for_of_role var_word = Let

-- the scope of the list of a `for`: it has the name, which has no value yet
unfoldable pub list_scope : ℕ → DeclareKind → Name → Scope
list_scope owner kind name =
    scope_with (entry name (for_of_role kind) top owner false 0 ∷ []) [] false owner

-- the scope of the body of a `for` over a list
unfoldable pub for_of_scope : ℕ → DeclareKind → Name → PlainStmt → Scope
for_of_scope owner kind name s =
    inner_scope (entry name (for_of_role kind) name.spot.at owner false 0 ∷ [])
    (vars_of owner false s) owner

-- the scope of a function, with its parameters
unfoldable pub function_scope : ℕ → List Name → PlainStmts → Scope
function_scope owner names ss =
    let vars = vars_of_all owner true ss in
    scope_with (parameters owner (λ q. one_var (named q vars)) names ++ own_of_all owner true ss)
    vars true owner

-- the scope of the program
unfoldable pub program_scope : List PlainItem → Scope
program_scope items = scope_with (flat_map own_of_item items) (flat_map vars_of_item items) true top
