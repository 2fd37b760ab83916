use Rattle.std.proofs.Common.{rules, ◌≡◌, ℕ, ◌∙◌, ◌+◌, List, Some, Err, sym, ap, length, map, option_map, arith}
use Rattle.std.proofs.lemmas.Grind.{common_steps}
use Rattle.js_lexer.specs.declared.token.Token.{Token}
use Rattle.js_tree.specs.declared.ending.Ending.{Ending}
use Rattle.js_tree.specs.declared.tree.Start.{Declares}
use Rattle.js_tree.specs.Plain as p
use Rattle.js_tree.specs.declared.tree.Stmt.{Stmt}
use Rattle.js_tree.specs.Plain.{PlainStart, on, declarators_of, stmts_of}
use Rattle.js_tree.specs.Nesting.{nesting, start_nesting, stmt_nesting}
use Rattle.js_tree.specs.Views.{plain_expr, plain_declarator, plain_start, plain_stmt, perhaps}
use Rattle.js_tree.proofs.Statements.{start_is, empty_is, expression_is, block_is, for_is}
use Rattle.js_grammar.specs.Tokens.{line_of}
use Rattle.js_grammar.specs.Reading.{run, ended_rest}
use Rattle.js_grammar.specs.Expressions.{operators, operated_step}
use Rattle.js_grammar.specs.Statements.{start}
use Rattle.js_grammar.specs.Reader.{readers}
use Rattle.js_cursor.specs.Read.{left, IsRead, IsExpr}
use Rattle.js_descent.proofs.Chains.{operators_missed}
use Rattle.js_descent.proofs.Stated.{chain_refused, chain_unread, three_stated, evaluates, started, stated_nothing, empty_stated, block_stated}
use Rattle.js_descent.proofs.descent.+descent.Goals as goal

pub chain-returns-then-left-inner : goal.chain-returns-then-left-inner
chain-returns-then-left-inner t c =
    chain_refused c.args.inner c.args.line c.args.level c.in-Some-operator_in.operator (plain_expr c.more.left.tree) (plain_expr c.args.first.tree) (c.args.inner + 1) 0 c.args.cursor.now c.more.cursor
    c.in-Some.rest.now c.in-Some.token.now c.no_tree.result (length c.more.cursor.rest.now) c.more.invariant.same c.in-Some.ensures (sym c.operator_in.ensures ∙ c.in-Some-operator_in.is) (omega arith) c.no_tree.ensures

pub operators-returns-in_err-left : goal.operators-returns-in_err-left
operators-returns-in_err-left t c =
    let none : IsExpr (operators c.args.inner (readers c.args.inner) c.args.level) (c.args.inner + 1) c.args.cursor.now c.signed.new.cursor (Err c.in_err-left.field-0.0) =
    operators_missed c.args.inner c.args.level (c.args.inner + 1) (c.args.inner + 1) c.args.cursor.now c.signed.new.cursor c.signed.new.cursor c.in_err-left.field-0.0 c.in_err-left.ensures in
    first_of (search (rules, none), grind (arith, common_steps, none))

pub evaluation-returns : goal.evaluation-returns
evaluation-returns t c =
    let made : plain_stmt c.stmt_at.result.tree ≡ on (line_of (left c.args.cursor.now)) (p.expression (plain_expr c.in_ok-found.found.tree)) =
    c.stmt_at.ensures.tree ∙ (ap (on c.line-line.result) (expression_is c.in_ok-found.found.tree) ∙ ap (λ (l : ℕ). on l (p.expression (plain_expr c.in_ok-found.found.tree))) c.line-line.ensures) in
    let over : ended_rest c.ending_of.result (left c.assignment.new.cursor) ≡ Some (left c.end.new.self) = c.in_ok-end.ensures.over in
    record {
      read = evaluates c.args.inner (left c.args.cursor.now) (left c.assignment.new.cursor) (left c.end.new.self) (plain_expr c.in_ok-found.found.tree) (plain_stmt c.stmt_at.result.tree) c.in_ok-found.ensures.read
          (ap (λ (k : Ending). ended_rest k (left c.assignment.new.cursor)) (sym c.ending_of.ensures) ∙ over) made;
      measured = omega (arith, ap stmt_nesting made, c.stmt_at.ensures.depth, c.in_ok-found.ensures.measured);
      within = omega (arith, c.in_ok-found.ensures.within, c.stmt_at.ensures.depth);
      taken = omega (arith, c.in_ok-found.ensures.taken, c.in_ok-end.ensures.shorter);
    }

pub start-returns-in-Some-declares_at : goal.start-returns-in-Some-declares_at
start-returns-in-Some-declares_at t c =
    let made : plain_start (Declares c.in-Some.token.now.line c.in-Some-declares_at.kind c.in_ok-tree.field-0.tree) ≡ p.declared c.in-Some.token.now.line c.in-Some-declares_at.kind (declarators_of (map plain_declarator c.in_ok-tree.field-0.tree.items)) =
    start_is c.in-Some.token.now.line c.in-Some-declares_at.kind c.in_ok-tree.field-0.tree in
    let said : start c.args.inner (readers c.args.inner) (left c.args.cursor.now) ≡ Some (p.declared c.in-Some.token.now.line c.in-Some-declares_at.kind (declarators_of (map plain_declarator c.in_ok-tree.field-0.tree.items)), left c.declarators.new.cursor) =
    ap (λ (z : List Token). start c.args.inner (readers c.args.inner) z) c.in-Some.ensures ∙
    started c.args.inner c.in-Some.token.now c.in-Some.rest.now (left c.declarators.new.cursor) c.in-Some-declares_at.kind (map plain_declarator c.in_ok-tree.field-0.tree.items)
    (sym c.if-is_sort.ensures) (sym c.declares_at.ensures ∙ c.in-Some-declares_at.is) (omega arith) c.in_ok-tree.ensures.read in
    record {
      read = said ∙ ap (λ (s : PlainStart). Some (s, left c.declarators.new.cursor)) (sym made);
      measured = omega (arith, ap start_nesting made, c.in_ok-tree.ensures.measured);
      within = omega (arith, c.in_ok-tree.ensures.within);
      taken = omega (arith, c.in_ok-tree.ensures.taken, ap length c.in-Some.ensures);
    }

pub statement-returns-in_default : goal.statement-returns-in_default
statement-returns-in_default t c =
    stated_nothing c.args.room c.args.room 1 c.args.cursor.now c.args.cursor.now c.no_tree.result (length c.args.cursor.now.rest.now) c.in_default.ensures c.no_tree.ensures

pub statement-returns-in-Semicolon : goal.statement-returns-in-Semicolon
statement-returns-in-Semicolon t c =
    let made : plain_stmt c.stmt_at.result.tree ≡ on c.in-Some.token.now.line p.empty = c.stmt_at.ensures.tree ∙ ap (on c.in-Some.token.now.line) empty_is in
    record {
      read = empty_stated c.args.room c.args.cursor.now c.in-Some.token.now c.in-Some.rest.now (plain_stmt c.stmt_at.result.tree) (omega arith) c.in-Some.ensures (sym c.sort_of.ensures ∙ c.in-Semicolon.is) made;
      measured = omega (arith, ap stmt_nesting made, c.stmt_at.ensures.depth);
      within = omega (arith, c.stmt_at.ensures.depth);
      taken = omega (arith, ap length c.in-Some.ensures);
    }

pub statement-returns-in_ok-found-in-LeftBrace : goal.statement-returns-in_ok-found-in-LeftBrace
statement-returns-in_ok-found-in-LeftBrace t c =
    let made : plain_stmt c.stmt_at-in-LeftBrace.result.tree ≡ on c.in-Some.token.now.line (p.block (stmts_of (map plain_stmt c.in_ok-found-in-LeftBrace.found.tree.items))) =
    c.stmt_at-in-LeftBrace.ensures.tree ∙ ap (on c.in-Some.token.now.line) (block_is c.in_ok-found-in-LeftBrace.found.tree) in
    record {
      read = block_stated c.args.room c.args.cursor.now c.in-Some.token.now c.in-Some.rest.now (map plain_stmt c.in_ok-found-in-LeftBrace.found.tree.items) (left c.closed.new.cursor) (plain_stmt c.stmt_at-in-LeftBrace.result.tree)
          (omega arith) c.in-Some.ensures (sym c.sort_of.ensures ∙ c.in-LeftBrace.is) c.in_ok-found-in-LeftBrace.ensures.read made;
      measured = omega (arith, ap stmt_nesting made, c.stmt_at-in-LeftBrace.ensures.depth, c.in_ok-found-in-LeftBrace.ensures.measured);
      within = omega (arith, c.in_ok-found-in-LeftBrace.ensures.within, c.stmt_at-in-LeftBrace.ensures.depth);
      taken = omega (arith, c.in_ok-found-in-LeftBrace.ensures.taken, ap length c.in-Some.ensures);
    }

pub chain-returns-in_err-right : goal.chain-returns-in_err-right
chain-returns-in_err-right t c =
    let none : IsRead plain_expr nesting (run (operated_step c.args.inner (readers c.args.inner) c.args.line c.args.level) (plain_expr c.args.first.tree)) (c.args.inner + 1) 0 c.args.cursor.now c.operand.new.cursor (Err c.in_err-right.field-0.0) =
    chain_unread c.args.inner c.args.line c.args.level c.in-Some-operator_in.operator (plain_expr c.more.left.tree) (plain_expr c.args.first.tree) (c.args.inner + 1) 0 c.args.inner c.args.cursor.now c.more.cursor
    (record { alloc = c.more.cursor.alloc; rest = c.in-Some.rest }) c.operand.new.cursor c.operand.new.cursor c.in-Some.token.now c.in_err-right.field-0.0
    c.more.invariant.same c.in-Some.ensures (sym c.operator_in.ensures ∙ c.in-Some-operator_in.is) (omega arith) c.in_err-right.ensures in
    first_of (search (rules, none), grind (arith, common_steps, none))

pub for_three-returns : goal.for_three-returns
for_three-returns t c =
    let boxed = c.in_ok-body-2.ensures.ok in
    let made : plain_stmt c.stmt_at.result.tree ≡ on c.args.line (p.for_three (plain_start c.in_ok-first.first.tree) (perhaps (option_map plain_expr c.in_ok-test.test.tree)) (perhaps (option_map plain_expr c.in_ok-last.last.tree)) (plain_stmt c.in_ok-body.body.tree)) =
    c.stmt_at.ensures.tree ∙ (ap (on c.args.line) (for_is c.in_ok-first.first.tree c.in_ok-test.test.tree c.in_ok-last.last.tree c.in_ok-body-2.body) ∙
    ap (λ (s : Stmt). on c.args.line (p.for_three (plain_start c.in_ok-first.first.tree) (perhaps (option_map plain_expr c.in_ok-test.test.tree)) (perhaps (option_map plain_expr c.in_ok-last.last.tree)) (plain_stmt s))) boxed) in
    let deep = ap stmt_nesting made in
    record {
      read = three_stated c.args.inner c.args.line (left c.args.cursor.now) (left c.start.new.cursor) (left c.pass.new.self) (left c.perhaps.new.cursor) (left c.pass-2.new.self) (left c.perhaps-2.new.cursor) (left c.pass-3.new.self) (left c.body.new.cursor)
          (plain_start c.in_ok-first.first.tree) (perhaps (option_map plain_expr c.in_ok-test.test.tree)) (perhaps (option_map plain_expr c.in_ok-last.last.tree)) (plain_stmt c.in_ok-body.body.tree) (plain_stmt c.stmt_at.result.tree)
          c.in_ok-first.ensures.read c.in_ok-pass.ensures c.in_ok-test.ensures.read c.in_ok-pass-2.ensures c.in_ok-last.ensures.read c.in_ok-pass-3.ensures c.in_ok-body.ensures.read made;
      measured = first_of (search (rules, deep), grind (arith, common_steps, deep));
      within = first_of (search rules, grind (arith, common_steps));
      taken = first_of (search rules, grind (arith, common_steps));
    }
