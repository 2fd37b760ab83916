-- The mentions of lists of trees, as the walk goes over them.
use Rattle.std.specs.Prelude.{List, [], ◌∷◌, ◌++◌, Option, map, option_map}
use Rattle.js_tree.specs.declared.tree.Declarator.{Declarator}
use Rattle.js_tree.specs.declared.tree.DeclareKind.{DeclareKind}
use Rattle.js_tree.specs.declared.tree.Stmt.{Stmt}
use Rattle.js_tree.specs.Views.{perhaps, plain_expr, plain_start, plain_declarator, plain_stmt, plain_item}
use Rattle.js_tree.specs.declared.tree.Item.{Item}
use Rattle.js_names.specs.Entries.{top}
use Rattle.js_names.specs.Scopes.{Scope, block_scope, for_three_scope, list_scope, for_of_scope, for_of_role, function_scope}
use Rattle.js_names.specs.declared.mention.Around.{Around}
use Rattle.js_names.specs.declared.mention.What.{What}
use Rattle.js_names.specs.declared.mention.Role.TheVariants.{Function}
use Rattle.js_tree.specs.declared.tree.Name.{Name}
use Rattle.js_tree.specs.declared.tree.Expr.{Expr}
use Rattle.js_tree.specs.declared.tree.Start.{Start}
use Rattle.js_tree.specs.declared.tree.Spot.{Spot}
use Rattle.js_tree.specs.Plain.{stmts_of}
use Rattle.std.specs.List.{flat_map}
use Rattle.js_tree.specs.declared.tree.Field.{Field}
use Rattle.js_names.specs.Unresolved.{Unresolved, one_mention, declared_role, begin_mention, parameter_mentions, in_function, in_loop, expr_mentions, perhaps_mentions, start_mentions, stmt_mentions, item_mentions}

-- the mentions of a tree, as the walk goes over it
abbrev pub tree_mentions : List Scope → Around → Expr → List Unresolved
tree_mentions scopes a e = expr_mentions scopes a (plain_expr e)

abbrev pub field_mentions : List Scope → Around → Field → List Unresolved
field_mentions scopes a f = expr_mentions scopes a (plain_expr f.value)

abbrev pub declarator_mentions : List Scope → Around → DeclareKind → Declarator → List Unresolved
declarator_mentions scopes a kind d =
    let p = plain_declarator d in
    one_mention scopes a (What.Declares (declared_role kind)) p.name
    ++ perhaps_mentions scopes a p.value

abbrev pub tree_stmt_mentions : List Scope → Around → Stmt → List Unresolved
tree_stmt_mentions scopes a s = stmt_mentions scopes a (plain_stmt s)

abbrev pub tree_item_mentions : List Scope → Item → List Unresolved
tree_item_mentions scopes i = item_mentions scopes (plain_item i)

abbrev pub perhaps_tree_mentions : List Scope → Around → Option Expr → List Unresolved
perhaps_tree_mentions scopes a e = perhaps_mentions scopes a (perhaps (option_map plain_expr e))

abbrev pub start_tree_mentions : List Scope → Around → Start → List Unresolved
start_tree_mentions scopes a b = start_mentions scopes a (plain_start b)

-- forms with a scope of their own

abbrev pub block_mentions : List Scope → Around → List Stmt → List Unresolved
block_mentions scopes a ss =
    flat_map (tree_stmt_mentions (block_scope a.owner (stmts_of (map plain_stmt ss)) ∷ scopes) a) ss

abbrev pub arrow_mentions : List Scope → Spot → List Name → Expr → List Unresolved
arrow_mentions scopes spot names e =
    let inner = function_scope spot.at names (stmts_of []) ∷ scopes in
    (begin_mention inner spot.at spot ++ parameter_mentions inner (in_function spot.at) names)
    ++ tree_mentions inner (in_function spot.at) e

abbrev pub body_mentions : List Scope → Spot → List Name → List Stmt → List Unresolved
body_mentions scopes spot names ss =
    let inner = function_scope spot.at names (stmts_of (map plain_stmt ss)) ∷ scopes in
    (begin_mention inner spot.at spot ++ parameter_mentions inner (in_function spot.at) names)
    ++ flat_map (tree_stmt_mentions inner (in_function spot.at)) ss

abbrev pub for_mentions :
    List Scope → Around → Start → Option Expr → Option Expr → Stmt → List Unresolved
for_mentions scopes a start test next s =
    let inner = for_three_scope a.owner (plain_start start) (plain_stmt s) ∷ scopes in
    ((start_tree_mentions inner a start ++ perhaps_tree_mentions inner a test)
    ++ perhaps_tree_mentions inner a next)
    ++ tree_stmt_mentions inner (in_loop a) s

-- the name of a `for` over a list, and the list
abbrev pub listed_mentions : List Scope → Around → DeclareKind → Name → Expr → List Unresolved
listed_mentions scopes a kind name e =
    let inner = list_scope a.owner kind name ∷ scopes in
    one_mention inner a (What.Declares (for_of_role kind)) name ++ tree_mentions inner a e

-- and its body
abbrev pub iteration_mentions : List Scope → Around → DeclareKind → Name → Stmt → List Unresolved
iteration_mentions scopes a kind name s =
    tree_stmt_mentions (for_of_scope a.owner kind name (plain_stmt s) ∷ scopes) (in_loop a) s

abbrev pub declared_mentions : List Scope → Spot → Name → List Name → List Stmt → List Unresolved
declared_mentions scopes spot name names ss =
    one_mention scopes (in_function top) (What.Declares Function) name
    ++ body_mentions scopes spot names ss
