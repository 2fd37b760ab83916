-- What maps of declarations take in.
use Rattle.std.specs.Prelude.{◌≡◌, ℕ, Bool, true, List, [], ◌∷◌, Option, Some, None, is_some, String}
use Rattle.std.specs.HashMap.{get_by_text}
use Rattle.js_tree.specs.declared.tree.Declarator.{Declarator}
use Rattle.js_tree.specs.declared.tree.DeclareKind.{DeclareKind}
use Rattle.js_tree.specs.declared.tree.Stmt.{Stmt}
use Rattle.js_tree.specs.Views.{plain_declarator, plain_stmt, plain_item}
use Rattle.js_tree.specs.declared.tree.Item.{Item}
use Rattle.indexmap.specs.IndexMap.{IndexMap}
use Rattle.std.specs.declared.hash.FoldHasher.{FoldHasher}
use Rattle.std.specs.declared.hash.BuildHasherDefault.{BuildHasherDefault}
use Rattle.std.specs.declared.alloc.Global.{Global}
use Rattle.js_names.specs.declared.mention.Declared.{Declared}
use Rattle.js_names.specs.Entries.{Entry, own_declarator, var_declarator, own_of, vars_of, own_of_item, vars_of_item}
use Rattle.js_names.specs.Scopes.{first, named, one_var, merge, kept}
use Rattle.js_names.specs.Mentions.{or_else}

abbrev pub Names : Type 0
Names = IndexMap (String Global) Declared (BuildHasherDefault FoldHasher)

-- a map took in declarations: of each name it keeps the first
abbrev pub TakesOwn : Names → Names → List Entry → Type 0
TakesOwn old new entries =
    (q : List ℕ) → get_by_text new q ≡ or_else (get_by_text old q) (first (named q entries))

-- the `var`s that a scope keeps: all, or those of its own names
abbrev pub keeps : Option Names → List ℕ → Bool
keeps None q = true
keeps (Some own) q = is_some (get_by_text own q)

-- a map took in the `var`s that are kept
abbrev pub TakesVars : (List ℕ → Bool) → Names → Names → List Entry → Type 0
TakesVars keep old new entries =
    (q : List ℕ)
    → get_by_text new q ≡ merge (get_by_text old q) (kept (keep q) (one_var (named q entries)))

-- what one declarator or statement of a tree declares
abbrev pub own_of_declarator : ℕ → Bool → DeclareKind → Declarator → List Entry
own_of_declarator owner direct kind d =
    let p = plain_declarator d in own_declarator owner direct kind p.name p.value p.end

abbrev pub vars_of_declarator : ℕ → Bool → DeclareKind → Declarator → List Entry
vars_of_declarator owner direct kind d =
    let p = plain_declarator d in var_declarator owner direct kind p.name p.value p.end

abbrev pub own_of_stmt : ℕ → Bool → Stmt → List Entry
own_of_stmt owner direct s = own_of owner direct (plain_stmt s)

abbrev pub vars_of_stmt : ℕ → Bool → Stmt → List Entry
vars_of_stmt owner direct s = vars_of owner direct (plain_stmt s)

-- one declaration
abbrev pub alone : List ℕ → Declared → List Entry
alone name declared = record { name = name; declared = declared } ∷ []

abbrev pub own_of_tree_item : Item → List Entry
own_of_tree_item i = own_of_item (plain_item i)

abbrev pub vars_of_tree_item : Item → List Entry
vars_of_tree_item i = vars_of_item (plain_item i)

-- the `var`s of a function, as a map of its body holds them
abbrev pub in_map : Names → List ℕ → Option Declared
in_map vars q = get_by_text vars q
