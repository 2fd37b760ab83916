use Rattle.std.specs.Prelude.{option_copied}
use Rattle.std.proofs.Common.{arith}
use Rattle.js_names.specs.Taken.{keeps, vars_of_stmt}
use Rattle.js_names.proofs.Taking.{vars_more, vars_on_ok, vars_on_ok_both, vars_of_block, vars_of_declaration, vars_of_if, vars_of_if_else, vars_of_while, vars_of_for, vars_of_each}
use Rattle.js_names.proofs.declare.+vars.Goals as goal

pub declare_list_vars-loop-stmt-preserved : goal.declare_list_vars-loop-stmt-preserved
declare_list_vars-loop-stmt-preserved t c =
    vars_more (keeps (option_copied c.args.own)) (vars_of_stmt c.args.owner c.args.direct) c.args.body.now c.loop-stmt.stmt-index c.stmt-item.result c.stmt-item.result c.args.map.now c.loop-stmt.map c.declare_stmt_vars.new.map (omega arith) c.stmt-item.is
    c.loop-stmt.invariant c.in_ok-declare_stmt_vars.ensures

pub declare_stmt_vars-returns-in-Block : goal.declare_stmt_vars-returns-in-Block
declare_stmt_vars-returns-in-Block t c =
    vars_on_ok (keeps (option_copied c.args.own)) c.declare_list_vars.result c.args.map.now c.declare_list_vars.new.map _ _
    (vars_of_block c.args.owner c.args.direct c.args.stmt.now c.in-Block.body c.deref.result.now c.in-Block.is c.deref.ensures.value)
    c.declare_list_vars.ensures

pub declare_stmt_vars-returns-in-Declaration : goal.declare_stmt_vars-returns-in-Declaration
declare_stmt_vars-returns-in-Declaration t c =
    vars_on_ok (keeps (option_copied c.args.own)) c.declare_var_declarators.result c.args.map.now c.declare_var_declarators.new.map _ _
    (vars_of_declaration c.args.owner c.args.direct c.args.stmt.now c.in-Declaration.kind c.in-Declaration.declarators c.deref-in-Declaration.result.now c.in-Declaration.is c.deref-in-Declaration.ensures.value)
    c.declare_var_declarators.ensures

pub declare_stmt_vars-returns-in_ok-declare_stmt_vars-in-IfElse :
    goal.declare_stmt_vars-returns-in_ok-declare_stmt_vars-in-IfElse
declare_stmt_vars-returns-in_ok-declare_stmt_vars-in-IfElse t c =
    vars_on_ok_both (keeps (option_copied c.args.own)) c.declare_stmt_vars-in-IfElse-2.result c.args.map.now c.declare_stmt_vars-in-IfElse.new.map c.declare_stmt_vars-in-IfElse-2.new.map _ _ _
    (vars_of_if_else c.args.owner c.args.direct c.args.stmt.now c.in-IfElse.field-0 c.in-IfElse.body c.in-IfElse.other c.deref-in-IfElse.result.now c.deref-in-IfElse-2.result.now
    c.in-IfElse.is c.deref-in-IfElse.ensures c.deref-in-IfElse-2.ensures)
    c.in_ok-declare_stmt_vars-in-IfElse.ensures c.declare_stmt_vars-in-IfElse-2.ensures

pub declare_stmt_vars-returns-in_ok-declare_start_vars-in-ForThree :
    goal.declare_stmt_vars-returns-in_ok-declare_start_vars-in-ForThree
declare_stmt_vars-returns-in_ok-declare_start_vars-in-ForThree t c =
    vars_on_ok_both (keeps (option_copied c.args.own)) c.declare_stmt_vars-in-ForThree.result c.args.map.now c.declare_start_vars.new.map c.declare_stmt_vars-in-ForThree.new.map _ _ _
    (vars_of_for c.args.owner c.args.direct c.args.stmt.now c.in-ForThree.start c.in-ForThree.field-1 c.in-ForThree.field-2 c.in-ForThree.body c.deref-in-ForThree.result.now
    c.in-ForThree.is c.deref-in-ForThree.ensures)
    c.in_ok-declare_start_vars-in-ForThree.ensures c.declare_stmt_vars-in-ForThree.ensures

pub declare_stmt_vars-returns-in-If : goal.declare_stmt_vars-returns-in-If
declare_stmt_vars-returns-in-If t c =
    vars_on_ok (keeps (option_copied c.args.own)) c.declare_stmt_vars.result c.args.map.now c.declare_stmt_vars.new.map _ _
    (vars_of_if c.args.owner c.args.direct c.args.stmt.now c.in-If.field-0 c.in-If.body c.deref-in-If.result.now c.in-If.is c.deref-in-If.ensures)
    c.declare_stmt_vars.ensures

pub declare_stmt_vars-returns-in-While : goal.declare_stmt_vars-returns-in-While
declare_stmt_vars-returns-in-While t c =
    vars_on_ok (keeps (option_copied c.args.own)) c.declare_stmt_vars-in-While.result c.args.map.now c.declare_stmt_vars-in-While.new.map _ _
    (vars_of_while c.args.owner c.args.direct c.args.stmt.now c.in-While.field-0 c.in-While.body c.deref-in-While.result.now c.in-While.is c.deref-in-While.ensures)
    c.declare_stmt_vars-in-While.ensures

pub declare_stmt_vars-returns-in-ForOf : goal.declare_stmt_vars-returns-in-ForOf
declare_stmt_vars-returns-in-ForOf t c =
    vars_on_ok (keeps (option_copied c.args.own)) c.declare_stmt_vars-in-ForOf.result c.args.map.now c.declare_stmt_vars-in-ForOf.new.map _ _
    (vars_of_each c.args.owner c.args.direct c.args.stmt.now c.in-ForOf.field-0 c.in-ForOf.field-1 c.in-ForOf.field-2 c.in-ForOf.body c.deref-in-ForOf.result.now c.in-ForOf.is c.deref-in-ForOf.ensures)
    c.declare_stmt_vars-in-ForOf.ensures
