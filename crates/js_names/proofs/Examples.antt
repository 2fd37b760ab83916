-- The rules of names, worked out: at each edge a program that keeps the rule, and a neighbour that breaks it.
use Rattle.std.proofs.Common.{◌≡◌, ℕ, zero, suc, ◌+◌, List, [], ◌∷◌, map, refl, Option, Some, None}
use Rattle.std.specs.Prelude.{codes}
use Rattle.js_tree.specs.declared.tree.DeclareKind.TheVariants.{Const, Let, Var}
use Rattle.js_tree.specs.declared.tree.Name.{Name}
use Rattle.js_tree.specs.Plain.{PlainStmt, PlainItem, statement}
use Rattle.js_names.specs.declared.limits.TheConstants.{MOST_SLOTS}
use Rattle.js_names.specs.declared.mention.NameFault.{NameFault}
use Rattle.js_names.specs.declared.mention.NameFault.TheVariants.{Unknown, Twice, AssignConst, Capture, LoopWord, ReturnPlace, Slots}
use Rattle.js_names.specs.Scopes.{program_scope, function_scope, block_scope, for_three_scope, list_scope, for_of_scope}
use Rattle.js_names.specs.Unresolved.{expr_mentions, form_mentions, exprs_mentions, fields_mentions, perhaps_mentions, declarators_mentions, start_mentions, stmt_mentions, stmt_form_mentions, stmts_mentions, item_mentions, unresolved_mentions}
use Rattle.js_names.specs.Mentions.{found, found_var, functions_of, repeated, blocked, look_up, mentions}
use Rattle.js_names.specs.Slots.{assigned_in, holdings, slots_of, slot_count}
use Rattle.js_names.specs.Rules.{fault_at, name_fault}
use Rattle.js_names.proofs.Build.{spot, name, one, uses, sets, counts, dot, calls, arrow, made, declares, bare, does, block_of, loop, breaks, returns, counted, each, items, declared_function}

-- a program with its answer
abbrev Row : Type 0
Row = List PlainItem × Option NameFault

abbrev kept : List PlainStmt → Row
kept ss = (items ss, None)

abbrev broken : List PlainStmt → NameFault → Row
broken ss fault = (items ss, Some fault)

abbrev Answered : List Row → Type 0
Answered rows = map (λ r. name_fault r.0) rows ≡ map (λ r. r.1) rows

abbrev x : List ℕ
x = codes "x"

abbrev a : List ℕ
a = codes "a"

-- what nothing declares, and the forms of `bp` and `Math`
pub unknown_names : Answered (
    -- { let x = 1 } x
    broken (block_of (declares Let x 6 one 11 ∷ []) ∷ does (uses x 14) ∷ []) (Unknown (name x 14))
    -- x; let x = 1
    ∷ kept (does (uses x 0) ∷ declares Let x 7 one 12 ∷ [])
    -- undefined
    ∷ kept (does (uses (codes "undefined") 0) ∷ [])
    -- undefined = 1
    ∷ broken (does (sets (codes "undefined") 0) ∷ []) (Unknown (name (codes "undefined") 0))
    -- bp
    ∷ broken (does (uses (codes "bp") 0) ∷ []) (Unknown (name (codes "bp") 0))
    -- bp.sync(1)
    ∷ kept (does (calls (dot (uses (codes "bp") 0) (codes "sync")) (one ∷ [])) ∷ [])
    -- bp.sync
    ∷ broken (does (dot (uses (codes "bp") 0) (codes "sync")) ∷ []) (Unknown (name (codes "bp.sync") 0))
    -- bp.log.info(1)
    ∷ kept (does (calls (dot (dot (uses (codes "bp") 0) (codes "log")) (codes "info")) (one ∷ [])) ∷ [])
    -- bp.log.info
    ∷ broken (does (dot (dot (uses (codes "bp") 0) (codes "log")) (codes "info")) ∷ []) (Unknown (name (codes "bp.log") 0))
    ∷ [])
unfolding program_scope function_scope block_scope for_three_scope list_scope for_of_scope expr_mentions form_mentions exprs_mentions fields_mentions perhaps_mentions declarators_mentions start_mentions stmt_mentions stmt_form_mentions stmts_mentions item_mentions unresolved_mentions found found_var functions_of repeated blocked look_up mentions assigned_in holdings slots_of slot_count fault_at name_fault
unknown_names = refl

-- which declarations clash
pub clashes : Answered (
    -- let bp = 1
    broken (declares Let (codes "bp") 4 one 10 ∷ []) (Twice (name (codes "bp") 4))
    -- let x = 1; { let x = 1 }
    ∷ kept (declares Let x 4 one 9 ∷ block_of (declares Let x 17 one 22 ∷ []) ∷ [])
    -- { let x = 1; let x = 1 }
    ∷ broken (block_of (declares Let x 6 one 11 ∷ declares Let x 17 one 22 ∷ []) ∷ []) (Twice (name x 17))
    -- { var x } let x = 1
    ∷ broken (block_of (bare Var x 6 7 ∷ []) ∷ declares Let x 14 one 19 ∷ []) (Twice (name x 14))
    -- { let x = 1; { { var x } } }
    ∷ broken (block_of (declares Let x 6 one 11 ∷ block_of (block_of (bare Var x 21 22 ∷ []) ∷ []) ∷ []) ∷ []) (Twice (name x 21))
    -- let x = 1; (function() { var x })
    ∷ kept (declares Let x 4 one 9 ∷ does (made 12 [] (bare Var x 29 30 ∷ [])) ∷ [])
    -- (function(a) { var a = 1 })
    ∷ kept (does (made 1 (name a 10 ∷ []) (declares Var a 19 one 24 ∷ [])) ∷ [])
    -- (function(a) { let a = 1 })
    ∷ broken (does (made 1 (name a 10 ∷ []) (declares Let a 19 one 24 ∷ [])) ∷ []) (Twice (name a 19))
    -- for (let x = 1;;) { var x }
    ∷ broken (counted Let x 9 (block_of (bare Var x 24 25 ∷ [])) ∷ []) (Twice (name x 24))
    -- for (const x of 1) { let x = 1 }
    ∷ kept (each Const x 11 one (block_of (declares Let x 25 one 30 ∷ [])) ∷ [])
    ∷ [])
unfolding program_scope function_scope block_scope for_three_scope list_scope for_of_scope expr_mentions form_mentions exprs_mentions fields_mentions perhaps_mentions declarators_mentions start_mentions stmt_mentions stmt_form_mentions stmts_mentions item_mentions unresolved_mentions found found_var functions_of repeated blocked look_up mentions assigned_in holdings slots_of slot_count fault_at name_fault
clashes = refl

-- what is assigned
pub assignments : Answered (
    -- let x = 1; x = 1
    kept (declares Let x 4 one 9 ∷ does (sets x 11) ∷ [])
    -- for (let x of 1) x = 1
    ∷ kept (each Let x 9 one (does (sets x 17)) ∷ [])
    -- for (const x of 1) x = 1
    ∷ broken (each Const x 11 one (does (sets x 19)) ∷ []) (AssignConst (name x 19))
    -- function x() {} x = 1
    ∷ (declared_function 0 x 9 [] [] ∷ statement (spot 16) (does (sets x 16)) ∷ [], Some (AssignConst (name x 16)))
    ∷ [])
unfolding program_scope function_scope block_scope for_three_scope list_scope for_of_scope expr_mentions form_mentions exprs_mentions fields_mentions perhaps_mentions declarators_mentions start_mentions stmt_mentions stmt_form_mentions stmts_mentions item_mentions unresolved_mentions found found_var functions_of repeated blocked look_up mentions assigned_in holdings slots_of slot_count fault_at name_fault
assignments = refl

-- which variables an inner function can use
pub captures : Answered (
    -- (() => x); let x = 1
    kept (does (arrow 1 [] (uses x 7)) ∷ declares Let x 15 one 20 ∷ [])
    -- (() => x); var x = 1; var x
    ∷ broken (does (arrow 1 [] (uses x 7)) ∷ declares Var x 15 one 20 ∷ bare Var x 26 27 ∷ []) (Capture (name x 7))
    -- (() => x); { var x = 1 }
    ∷ broken (does (arrow 1 [] (uses x 7)) ∷ block_of (declares Var x 17 one 22 ∷ []) ∷ []) (Capture (name x 7))
    -- (function() { let x = 1; (() => x) })
    ∷ kept (does (made 1 [] (declares Let x 18 one 23 ∷ does (arrow 26 [] (uses x 32)) ∷ [])) ∷ [])
    -- (function() { let x = () => x })
    ∷ broken (does (made 1 [] (declares Let x 18 (arrow 22 [] (uses x 28)) 29 ∷ [])) ∷ []) (Capture (name x 28))
    -- (function() { let x = 1; x++; (() => x) })
    ∷ broken (does (made 1 [] (declares Let x 18 one 23 ∷ does (counts x 25) ∷ does (arrow 31 [] (uses x 37)) ∷ [])) ∷ []) (Capture (name x 37))
    -- (function(a) { (() => a); var a })
    ∷ kept (does (made 1 (name a 10 ∷ []) (does (arrow 16 [] (uses a 22)) ∷ bare Var a 30 31 ∷ [])) ∷ [])
    -- (function(a) { (() => a); var a = 1 })
    ∷ broken (does (made 1 (name a 10 ∷ []) (does (arrow 16 [] (uses a 22)) ∷ declares Var a 30 one 35 ∷ [])) ∷ []) (Capture (name a 22))
    -- (function(a) { { var a = 1 } (() => a) })
    ∷ broken (does (made 1 (name a 10 ∷ []) (block_of (declares Var a 21 one 26 ∷ []) ∷ does (arrow 30 [] (uses a 36)) ∷ [])) ∷ []) (Capture (name a 36))
    -- (function(a) { a = 1; (a => a) })
    ∷ kept (does (made 1 (name a 10 ∷ []) (does (sets a 15) ∷ does (arrow 23 (name a 23 ∷ []) (uses a 28)) ∷ [])) ∷ [])
    -- for (const x of 1) (() => x)
    ∷ kept (each Const x 11 one (does (arrow 20 [] (uses x 26))) ∷ [])
    -- for (const x of () => x) {}
    ∷ broken (each Const x 11 (arrow 16 [] (uses x 22)) (block_of []) ∷ []) (Capture (name x 22))
    ∷ [])
unfolding program_scope function_scope block_scope for_three_scope list_scope for_of_scope expr_mentions form_mentions exprs_mentions fields_mentions perhaps_mentions declarators_mentions start_mentions stmt_mentions stmt_form_mentions stmts_mentions item_mentions unresolved_mentions found found_var functions_of repeated blocked look_up mentions assigned_in holdings slots_of slot_count fault_at name_fault
captures = refl

-- where `break` and `return` stand, and which breach is told
pub words_and_order : Answered (
    -- for (const x of 1) break
    kept (each Const x 11 one (breaks 19) ∷ [])
    -- while (1) (function() { break })
    ∷ broken (loop (does (made 11 [] (breaks 24 ∷ []))) ∷ []) (LoopWord (name (codes "break") 24))
    -- (function() { return })
    ∷ kept (does (made 1 [] (returns 14 ∷ [])) ∷ [])
    -- return
    ∷ broken (returns 0 ∷ []) (ReturnPlace (name (codes "return") 0))
    -- let x = 1; let x = 1; a
    ∷ broken (declares Let x 4 one 9 ∷ declares Let x 15 one 20 ∷ does (uses a 22) ∷ []) (Twice (name x 15))
    -- (function() { const x = 1; () => x = 1 })
    ∷ broken (does (made 1 [] (declares Const x 20 one 25 ∷ does (arrow 27 [] (sets x 33)) ∷ [])) ∷ []) (AssignConst (name x 33))
    ∷ [])
unfolding program_scope function_scope block_scope for_three_scope list_scope for_of_scope expr_mentions form_mentions exprs_mentions fields_mentions perhaps_mentions declarators_mentions start_mentions stmt_mentions stmt_form_mentions stmts_mentions item_mentions unresolved_mentions found found_var functions_of repeated blocked look_up mentions assigned_in holdings slots_of slot_count fault_at name_fault
words_and_order = refl

-- parameters and variables whose names differ in their one letter, from an offset on
abbrev names : ℕ → ℕ → List Name
names zero p = []
names (suc n) p = name (n ∷ []) p ∷ names n (p + 4)

abbrev lets : ℕ → ℕ → List PlainStmt
lets zero p = []
lets (suc n) p = declares Let (n ∷ []) p one (p + 4) ∷ lets n (p + 10)

-- the first uses of this many of them
abbrev use_all : ℕ → ℕ → List PlainStmt
use_all zero p = []
use_all (suc n) p = does (uses (n ∷ []) p) ∷ use_all n (p + 4)

-- as many slots as a function may have, and one more: of its own variables; of a parameter beside captures; and none, of constants
pub slots : Answered (
    kept (does (made 1 [] (lets MOST_SLOTS 20)) ∷ [])
    ∷ broken (does (made 1 [] (lets (suc MOST_SLOTS) 20)) ∷ []) (Slots (name [] 1))
    ∷ broken (does (made 1 (names MOST_SLOTS 10) (does (made 5000 (name (codes "bb") 5005 ∷ []) (use_all MOST_SLOTS 5020)) ∷ [])) ∷ []) (Slots (name [] 5000))
    ∷ kept (lets (suc MOST_SLOTS) 4)
    ∷ [])
unfolding program_scope function_scope block_scope for_three_scope list_scope for_of_scope expr_mentions form_mentions exprs_mentions fields_mentions perhaps_mentions declarators_mentions start_mentions stmt_mentions stmt_form_mentions stmts_mentions item_mentions unresolved_mentions found found_var functions_of repeated blocked look_up mentions assigned_in holdings slots_of slot_count fault_at name_fault
slots = refl
