-- The mentions of a program in text order, each with the scopes around it, before its name is looked up in them.
use Rattle.std.specs.Prelude.{ℕ, Bool, true, false, List, [], ◌∷◌, ◌++◌, Option, Some, None, is_some, codes, if◌then◌else◌}
use Rattle.std.specs.List.{flat_map}
use Rattle.js_tree.specs.declared.tree.Name.{Name}
use Rattle.js_tree.specs.declared.tree.Spot.{Spot}
use Rattle.js_tree.specs.declared.tree.DeclareKind.{DeclareKind}
use Rattle.js_tree.specs.declared.tree.DeclareKind.TheVariants.{Const as const_word, Let as let_word, Var as var_word}
use Rattle.js_tree.specs.Plain.{PlainExpr, at, PlainForm, number, text, truth, null, use_of, list, fields, member, index, call, unary, update, binary, conditional, assign, arrow_value, arrow_block, function, PlainExprs, no_exprs, expr_in, PlainFields, no_fields, field_in, PlainPerhaps, absent, present, PlainDeclarators, no_declarators, declarator_in, PlainStart, nothing, declared, started, PlainStmt, on, PlainStmtForm, empty, block, declaration, expression, if_alone, if_else, while_of, for_three, for_of, break_of, continue_of, return_nothing, return_of, PlainStmts, no_stmts, stmt_in, PlainItem, statement, function_of}
use Rattle.js_tree.specs.Nesting.{is_object}
use Rattle.js_names.specs.declared.mention.Role.{Role}
use Rattle.js_names.specs.declared.mention.Role.TheVariants.{Parameter, Const, Let, Var, Function}
use Rattle.js_names.specs.declared.mention.What.{What}
use Rattle.js_names.specs.declared.mention.Around.{Around}
use Rattle.js_names.specs.Entries.{top}
use Rattle.js_names.specs.Scopes.{Scope, block_scope, for_three_scope, list_scope, for_of_scope, for_of_role, function_scope, program_scope}
use Rattle.js_names.specs.Forms.{is_undefined, is_reserved, object_of, called_builtin, value_builtin}
use Rattle.js_names.specs.Spots.{program_spot}

-- a mention before its name is looked up: what stands there, its name, the scopes around it from the innermost, the
-- function around it, and whether a loop of that function is
pub record Unresolved : Type 0 where
  pub what : What
  pub name : Name
  pub scopes : List Scope
  pub around : Around

abbrev pub mention_in : List Scope → Around → What → Name → Unresolved
mention_in scopes around what name =
    record { what = what; name = name; scopes = scopes; around = around }

abbrev pub one_mention : List Scope → Around → What → Name → List Unresolved
one_mention scopes around what name = mention_in scopes around what name ∷ []

abbrev pub word_at : List ℕ → Spot → Name
word_at name spot = record { text = name; spot = spot }

-- a name that is read: `bp` or `Math` alone is not a form, and `undefined` is a value
abbrev pub read_mention : List Scope → Around → Name → List Unresolved
read_mention scopes a name =
    if is_object name.text then one_mention scopes a What.Misuses name
    else (if is_undefined name.text then [] else one_mention scopes a What.Reads name)

-- a name that is assigned or updated
abbrev pub assign_mention : List Scope → Around → Name → List Unresolved
assign_mention scopes a name =
    if is_reserved name.text then one_mention scopes a What.Misuses name
    else one_mention scopes a What.Assigns name

-- a member; one of `bp` or `Math` that is not a form is misused, and named by both words
abbrev pub member_mentions :
    List Scope → Around → Option Name → List ℕ → Bool → List Unresolved → List Unresolved
member_mentions scopes a None word is_value inside = inside
member_mentions scopes a (Some object) word is_value inside =
    if is_value then []
    else one_mention scopes a What.Misuses (word_at (object.text ++ codes "." ++ word) object.spot)

abbrev pub in_function : ℕ → Around
in_function owner = record { owner = owner; looped = false }

abbrev pub in_loop : Around → Around
in_loop a = record a { looped = true }

abbrev pub begin_mention : List Scope → ℕ → Spot → List Unresolved
begin_mention scopes owner spot =
    one_mention scopes (in_function owner) What.Begins (word_at [] spot)

abbrev pub parameter_mention : List Scope → Around → Name → List Unresolved
parameter_mention scopes a n = one_mention scopes a (What.Declares Parameter) n

abbrev pub parameter_mentions : List Scope → Around → List Name → List Unresolved
parameter_mentions scopes a names = flat_map (parameter_mention scopes a) names

abbrev pub declared_role : DeclareKind → Role
declared_role const_word = Const
declared_role let_word = Let
declared_role var_word = Var

unfoldable mutual
  pub expr_mentions : List Scope → Around → PlainExpr → List Unresolved
  expr_mentions scopes a (at parens line form) = form_mentions scopes a form

  pub form_mentions : List Scope → Around → PlainForm → List Unresolved
  form_mentions scopes a (number n) = []
  form_mentions scopes a (text s) = []
  form_mentions scopes a (truth b) = []
  form_mentions scopes a null = []
  form_mentions scopes a (use_of name) = read_mention scopes a name
  form_mentions scopes a (list es) = exprs_mentions scopes a es
  form_mentions scopes a (fields fs) = fields_mentions scopes a fs
  form_mentions scopes a (member e word) =
      member_mentions scopes a (object_of e) word (is_some (value_builtin e word))
      (expr_mentions scopes a e)
  form_mentions scopes a (index e i) = expr_mentions scopes a e ++ expr_mentions scopes a i
  form_mentions scopes a (call e es) =
      (if is_some (called_builtin e) then [] else expr_mentions scopes a e)
      ++ exprs_mentions scopes a es
  form_mentions scopes a (unary s e) = expr_mentions scopes a e
  form_mentions scopes a (update s f name) = assign_mention scopes a name
  form_mentions scopes a (binary op l r) = expr_mentions scopes a l ++ expr_mentions scopes a r
  form_mentions scopes a (conditional l m r) =
      expr_mentions scopes a l ++ (expr_mentions scopes a m ++ expr_mentions scopes a r)
  form_mentions scopes a (assign op name e) =
      assign_mention scopes a name ++ expr_mentions scopes a e
  form_mentions scopes a (arrow_value spot names e) =
      let inner = function_scope spot.at names no_stmts ∷ scopes in
      begin_mention inner spot.at spot
      ++ (parameter_mentions inner (in_function spot.at) names
      ++ expr_mentions inner (in_function spot.at) e)
  form_mentions scopes a (arrow_block spot names ss) =
      let inner = function_scope spot.at names ss ∷ scopes in
      begin_mention inner spot.at spot
      ++ (parameter_mentions inner (in_function spot.at) names
      ++ stmts_mentions inner (in_function spot.at) ss)
  form_mentions scopes a (function spot names ss) =
      let inner = function_scope spot.at names ss ∷ scopes in
      begin_mention inner spot.at spot
      ++ (parameter_mentions inner (in_function spot.at) names
      ++ stmts_mentions inner (in_function spot.at) ss)

  pub exprs_mentions : List Scope → Around → PlainExprs → List Unresolved
  exprs_mentions scopes a no_exprs = []
  exprs_mentions scopes a (expr_in e es) = expr_mentions scopes a e ++ exprs_mentions scopes a es

  pub fields_mentions : List Scope → Around → PlainFields → List Unresolved
  fields_mentions scopes a no_fields = []
  fields_mentions scopes a (field_in key e fs) =
      expr_mentions scopes a e ++ fields_mentions scopes a fs

  pub perhaps_mentions : List Scope → Around → PlainPerhaps → List Unresolved
  perhaps_mentions scopes a absent = []
  perhaps_mentions scopes a (present e) = expr_mentions scopes a e

  pub declarators_mentions : List Scope → Around → DeclareKind → PlainDeclarators → List Unresolved
  declarators_mentions scopes a kind no_declarators = []
  declarators_mentions scopes a kind (declarator_in name value end ds) =
      one_mention scopes a (What.Declares (declared_role kind)) name
      ++ (perhaps_mentions scopes a value ++ declarators_mentions scopes a kind ds)

  pub start_mentions : List Scope → Around → PlainStart → List Unresolved
  start_mentions scopes a nothing = []
  start_mentions scopes a (declared line kind ds) = declarators_mentions scopes a kind ds
  start_mentions scopes a (started e) = expr_mentions scopes a e

  pub stmt_mentions : List Scope → Around → PlainStmt → List Unresolved
  stmt_mentions scopes a (on line form) = stmt_form_mentions scopes a form

  pub stmt_form_mentions : List Scope → Around → PlainStmtForm → List Unresolved
  stmt_form_mentions scopes a empty = []
  stmt_form_mentions scopes a (block ss) = stmts_mentions (block_scope a.owner ss ∷ scopes) a ss
  stmt_form_mentions scopes a (declaration kind ds) = declarators_mentions scopes a kind ds
  stmt_form_mentions scopes a (expression e) = expr_mentions scopes a e
  stmt_form_mentions scopes a (if_alone e s) = expr_mentions scopes a e ++ stmt_mentions scopes a s
  stmt_form_mentions scopes a (if_else e s other) =
      expr_mentions scopes a e ++ (stmt_mentions scopes a s ++ stmt_mentions scopes a other)
  stmt_form_mentions scopes a (while_of e s) =
      expr_mentions scopes a e ++ stmt_mentions scopes (in_loop a) s
  stmt_form_mentions scopes a (for_three start test next s) =
      let inner = for_three_scope a.owner start s ∷ scopes in
      start_mentions inner a start
      ++ (perhaps_mentions inner a test
      ++ (perhaps_mentions inner a next ++ stmt_mentions inner (in_loop a) s))
  stmt_form_mentions scopes a (for_of kind name e s) =
      let listed = list_scope a.owner kind name ∷ scopes in
      let inner = for_of_scope a.owner kind name s ∷ scopes in
      one_mention listed a (What.Declares (for_of_role kind)) name
      ++ (expr_mentions listed a e ++ stmt_mentions inner (in_loop a) s)
  stmt_form_mentions scopes a (break_of spot) =
      one_mention scopes a What.LoopWord (word_at (codes "break") spot)
  stmt_form_mentions scopes a (continue_of spot) =
      one_mention scopes a What.LoopWord (word_at (codes "continue") spot)
  stmt_form_mentions scopes a (return_nothing spot) =
      one_mention scopes a What.Returns (word_at (codes "return") spot)
  stmt_form_mentions scopes a (return_of spot e) =
      one_mention scopes a What.Returns (word_at (codes "return") spot) ++ expr_mentions scopes a e

  pub stmts_mentions : List Scope → Around → PlainStmts → List Unresolved
  stmts_mentions scopes a no_stmts = []
  stmts_mentions scopes a (stmt_in s ss) = stmt_mentions scopes a s ++ stmts_mentions scopes a ss

-- the name of a function declaration belongs to the program, and so it comes before what the function has
unfoldable pub item_mentions : List Scope → PlainItem → List Unresolved
item_mentions scopes (statement spot s) = stmt_mentions scopes (in_function top) s
item_mentions scopes (function_of spot name names ss) =
    let inner = function_scope spot.at names ss ∷ scopes in
    one_mention scopes (in_function top) (What.Declares Function) name
    ++ (begin_mention inner spot.at spot
    ++ (parameter_mentions inner (in_function spot.at) names
    ++ stmts_mentions inner (in_function spot.at) ss))

-- the mentions of a program
unfoldable pub unresolved_mentions : List PlainItem → List Unresolved
unresolved_mentions items =
    let scopes = program_scope items ∷ [] in
    begin_mention scopes top (program_spot items) ++ flat_map (item_mentions scopes) items
