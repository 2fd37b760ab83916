-- The names that statements declare, each with its declaration.
use Rattle.std.specs.Prelude.{ℕ, Bool, true, false, List, [], ◌∷◌, ◌++◌, if◌then◌else◌}
use Rattle.js_tree.specs.declared.tree.Name.{Name}
use Rattle.js_tree.specs.declared.tree.DeclareKind.{DeclareKind}
use Rattle.js_tree.specs.declared.tree.DeclareKind.TheVariants.{Const as const_word, Let as let_word, Var as var_word}
use Rattle.js_tree.specs.Plain.{PlainPerhaps, absent, present, PlainDeclarators, no_declarators, declarator_in, PlainStart, nothing, declared, started, PlainStmt, on, PlainStmtForm, empty, block, declaration, expression, if_alone, if_else, while_of, for_three, for_of, break_of, continue_of, return_nothing, return_of, PlainStmts, no_stmts, stmt_in, PlainItem, statement, function_of}
use Rattle.js_names.specs.declared.mention.Role.{Role}
use Rattle.js_names.specs.declared.mention.Role.TheVariants.{Const, Let, Var, Function}
use Rattle.js_names.specs.declared.mention.Declared.{Declared}
use Rattle.js_names.specs.declared.scope.TheConstants.{TOP}

-- a name with its declaration
pub record Entry : Type 0 where
  pub name : List ℕ
  pub declared : Declared

-- the offset of the top level, as that of a function: a text is shorter, so no function begins there
abbrev pub top : ℕ
top = TOP

abbrev pub entry : Name → Role → ℕ → ℕ → Bool → ℕ → Entry
entry name role end owner direct given = record {
  name = name.text;
  declared = record {
    role = role;
    offset = name.spot.at;
    end = end;
    owner = owner;
    direct = direct;
    given = given;
  };
}

abbrev pub is_present : PlainPerhaps → Bool
is_present absent = false
is_present (present e) = true

-- the offset from which on a `var` that names a parameter keeps its value: the end of its declarator, or none
-- where it may run again
abbrev pub given_at : Bool → PlainPerhaps → ℕ → ℕ
given_at direct absent end = 0
given_at direct (present e) end = if direct then end else top

-- what a declarator of `let` or `const` declares
abbrev pub own_declarator : ℕ → Bool → DeclareKind → Name → PlainPerhaps → ℕ → List Entry
own_declarator owner direct const_word name value end = entry name Const end owner direct 0 ∷ []
own_declarator owner direct let_word name value end = entry name Let end owner direct 0 ∷ []
own_declarator owner direct var_word name value end = []

abbrev pub own_declarators : ℕ → Bool → DeclareKind → PlainDeclarators → List Entry
own_declarators owner direct kind no_declarators = []
own_declarators owner direct kind (declarator_in name value end ds) =
    own_declarator owner direct kind name value end ++ own_declarators owner direct kind ds

-- what a declarator of `var` declares
abbrev pub var_declarator : ℕ → Bool → DeclareKind → Name → PlainPerhaps → ℕ → List Entry
var_declarator owner direct const_word name value end = []
var_declarator owner direct let_word name value end = []
var_declarator owner direct var_word name value end =
    entry name Var end owner direct (given_at direct value end) ∷ []

abbrev pub var_declarators : ℕ → Bool → DeclareKind → PlainDeclarators → List Entry
var_declarators owner direct kind no_declarators = []
var_declarators owner direct kind (declarator_in name value end ds) =
    var_declarator owner direct kind name value end ++ var_declarators owner direct kind ds

-- the `let` and `const` names that a statement declares for the list in which it stands
abbrev pub own_of : ℕ → Bool → PlainStmt → List Entry
own_of owner direct (on line (declaration kind ds)) = own_declarators owner direct kind ds
own_of owner direct _ = []

abbrev pub own_of_all : ℕ → Bool → PlainStmts → List Entry
own_of_all owner direct no_stmts = []
own_of_all owner direct (stmt_in s ss) = own_of owner direct s ++ own_of_all owner direct ss

-- those of the head of a `for`
abbrev pub own_of_start : ℕ → PlainStart → List Entry
own_of_start owner nothing = []
own_of_start owner (declared line kind ds) = own_declarators owner false kind ds
own_of_start owner (started e) = []

abbrev pub vars_of_start : ℕ → PlainStart → List Entry
vars_of_start owner nothing = []
vars_of_start owner (declared line kind ds) = var_declarators owner false kind ds
vars_of_start owner (started e) = []

-- the `var` names in a statement, at any depth outside inner functions; `direct` says that it stands in the
-- list of its function or of the program
abbrev mutual
  pub vars_of : ℕ → Bool → PlainStmt → List Entry
  vars_of owner direct (on line form) = vars_of_form owner direct form

  pub vars_of_form : ℕ → Bool → PlainStmtForm → List Entry
  vars_of_form owner direct empty = []
  vars_of_form owner direct (block ss) = vars_of_all owner false ss
  vars_of_form owner direct (declaration kind ds) = var_declarators owner direct kind ds
  vars_of_form owner direct (expression e) = []
  vars_of_form owner direct (if_alone e s) = vars_of owner false s
  vars_of_form owner direct (if_else e s other) = vars_of owner false s ++ vars_of owner false other
  vars_of_form owner direct (while_of e s) = vars_of owner false s
  vars_of_form owner direct (for_three start test next s) =
      vars_of_start owner start ++ vars_of owner false s
  vars_of_form owner direct (for_of kind name e s) = vars_of owner false s
  vars_of_form owner direct (break_of spot) = []
  vars_of_form owner direct (continue_of spot) = []
  vars_of_form owner direct (return_nothing spot) = []
  vars_of_form owner direct (return_of spot e) = []

  pub vars_of_all : ℕ → Bool → PlainStmts → List Entry
  vars_of_all owner direct no_stmts = []
  vars_of_all owner direct (stmt_in s ss) = vars_of owner direct s ++ vars_of_all owner direct ss

abbrev pub own_of_item : PlainItem → List Entry
own_of_item (statement spot s) = own_of top true s
own_of_item (function_of spot name names ss) = entry name Function name.spot.at top true 0 ∷ []

abbrev pub vars_of_item : PlainItem → List Entry
vars_of_item (statement spot s) = vars_of top true s
vars_of_item (function_of spot name names ss) = []
