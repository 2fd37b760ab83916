-- Small programs for the worked examples: every token on line 1, and offsets as the examples say.
use Rattle.std.proofs.Common.{ℕ, ◌+◌, List, [], ◌∷◌}
use Rattle.std.specs.Prelude.{pos}
use Rattle.js_tree.specs.declared.tree.Name.{Name}
use Rattle.js_tree.specs.declared.tree.Spot.{Spot}
use Rattle.js_tree.specs.declared.tree.AssignOp.{AssignOp}
use Rattle.js_tree.specs.declared.tree.Step.{Step}
use Rattle.js_tree.specs.declared.tree.Fix.{Fix}
use Rattle.js_tree.specs.declared.tree.DeclareKind.{DeclareKind}
use Rattle.js_tree.specs.Plain.{PlainExpr, PlainForm, at, number, use_of, member, call, update, assign, arrow_value, function, absent, present, declarator_in, no_declarators, declared, PlainStmt, on, block, declaration, expression, while_of, for_three, for_of, break_of, return_nothing, PlainItem, statement, function_of, exprs_of, stmts_of}

abbrev pub spot : ℕ → Spot
spot p = record { at = p; line = 1 }

abbrev pub name : List ℕ → ℕ → Name
name text p = record { text = text; spot = spot p }

abbrev pub expr : PlainForm → PlainExpr
expr form = at 0 1 form

abbrev pub one : PlainExpr
one = expr (number (pos 1))

abbrev pub uses : List ℕ → ℕ → PlainExpr
uses text p = expr (use_of (name text p))

abbrev pub sets : List ℕ → ℕ → PlainExpr
sets text p = expr (assign AssignOp.Set (name text p) one)

abbrev pub counts : List ℕ → ℕ → PlainExpr
counts text p = expr (update Step.Increment Fix.After (name text p))

abbrev pub dot : PlainExpr → List ℕ → PlainExpr
dot e word = expr (member e word)

abbrev pub calls : PlainExpr → List PlainExpr → PlainExpr
calls f es = expr (call f (exprs_of es))

abbrev pub arrow : ℕ → List Name → PlainExpr → PlainExpr
arrow p names e = expr (arrow_value (spot p) names e)

abbrev pub made : ℕ → List Name → List PlainStmt → PlainExpr
made p names ss = expr (function (spot p) names (stmts_of ss))

-- a declaration with a value, and one without
abbrev pub declares : DeclareKind → List ℕ → ℕ → PlainExpr → ℕ → PlainStmt
declares kind text p e end = on 1 (declaration kind (declarator_in (name text p) (present e) end no_declarators))

abbrev pub bare : DeclareKind → List ℕ → ℕ → ℕ → PlainStmt
bare kind text p end = on 1 (declaration kind (declarator_in (name text p) absent end no_declarators))

abbrev pub does : PlainExpr → PlainStmt
does e = on 1 (expression e)

abbrev pub block_of : List PlainStmt → PlainStmt
block_of ss = on 1 (block (stmts_of ss))

abbrev pub loop : PlainStmt → PlainStmt
loop s = on 1 (while_of one s)

abbrev pub breaks : ℕ → PlainStmt
breaks p = on 1 (break_of (spot p))

abbrev pub returns : ℕ → PlainStmt
returns p = on 1 (return_nothing (spot p))

-- `for (KIND name = 1; ; ) body`
abbrev pub counted : DeclareKind → List ℕ → ℕ → PlainStmt → PlainStmt
counted kind text p s = on 1 (for_three (declared 1 kind (declarator_in (name text p) (present one) (p + 5) no_declarators)) absent absent s)

-- `for (KIND name of list) body`
abbrev pub each : DeclareKind → List ℕ → ℕ → PlainExpr → PlainStmt → PlainStmt
each kind text p e s = on 1 (for_of kind (name text p) e s)

-- statements, of which the first begins the text
abbrev pub items : List PlainStmt → List PlainItem
items [] = []
items (s ∷ ss) = statement (spot 0) s ∷ items ss

-- a function declaration: the offset of its first token, its name with its offset
abbrev pub declared_function : ℕ → List ℕ → ℕ → List Name → List PlainStmt → PlainItem
declared_function p text q names ss = function_of (spot p) (name text q) names (stmts_of ss)
