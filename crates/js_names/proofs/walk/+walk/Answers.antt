use Rattle.std.proofs.Common.{◌++◌, [], ◌∙◌, sym, append_assoc, arith, subst, map}
use Rattle.std.specs.Prelude.{is_some, codes, if◌then◌else◌}
use Rattle.std.specs.List.{flat_map}
use Rattle.js_tree.specs.declared.tree.Declarator.{out-Declarator}
use Rattle.js_tree.specs.Plain.{stmts_of}
use Rattle.js_tree.specs.Views.{plain_expr, plain_start, plain_stmt}
use Rattle.js_names.specs.declared.mention.What.{What}
use Rattle.js_names.specs.Scopes.{block_scope, for_three_scope, list_scope, for_of_scope, function_scope}
use Rattle.js_names.specs.Forms.{called_builtin}
use Rattle.js_names.specs.Unresolved.{one_mention, word_at, assign_mention, begin_mention, parameter_mentions, in_function, in_loop, declared_role}
use Rattle.js_names.specs.inner.Walks.{Adds, Enters, scopes_in}
use Rattle.js_names.specs.inner.TreeMentions.{tree_mentions, field_mentions, declarator_mentions, perhaps_tree_mentions, start_tree_mentions, tree_stmt_mentions, listed_mentions, iteration_mentions}
use Rattle.js_names.proofs.Adding.{adds_as, adds_none, adds_then, adds_both, adds_more, adds_under, enters_under, each_under}
use Rattle.js_names.proofs.Exprs.{number_mentions, words_mentions, truth_mentions, null_mentions, use_mentions, list_mentions, in_fields_mentions, in_member_mentions, index_mentions, call_mentions, unary_mentions, update_mentions, binary_mentions, conditional_mentions, assign_mentions, arrow_value_mentions, arrow_block_mentions, function_mentions}
use Rattle.js_names.proofs.Stmts.{declarator_parts, present_mentions, absent_mentions, nothing_mentions, declares_mentions, evaluates_mentions, empty_mentions, in_block_mentions, declaration_mentions, expression_mentions, if_mentions, if_else_mentions, while_mentions, in_for_mentions, in_each_mentions, break_mentions, continue_mentions, return_nothing_mentions, return_mentions}
use Rattle.js_names.proofs.walk.+walk.Goals as goal

pub put_expr-returns-in-Number : goal.put_expr-returns-in-Number
put_expr-returns-in-Number t c =
    subst (Adds c.args.walk.now c.args.walk.now) (number_mentions (scopes_in c.args.walk.now) c.args.around c.args.e.now c.in-Number.field-0 c.in-Number.is) (adds_none c.args.walk.now)

pub put_expr-returns-in-Text : goal.put_expr-returns-in-Text
put_expr-returns-in-Text t c =
    subst (Adds c.args.walk.now c.args.walk.now) (words_mentions (scopes_in c.args.walk.now) c.args.around c.args.e.now c.in-Text.field-0 c.in-Text.is) (adds_none c.args.walk.now)

pub put_expr-returns-in-Truth : goal.put_expr-returns-in-Truth
put_expr-returns-in-Truth t c =
    subst (Adds c.args.walk.now c.args.walk.now) (truth_mentions (scopes_in c.args.walk.now) c.args.around c.args.e.now c.in-Truth.field-0 c.in-Truth.is) (adds_none c.args.walk.now)

pub put_expr-returns-in-Null : goal.put_expr-returns-in-Null
put_expr-returns-in-Null t c =
    subst (Adds c.args.walk.now c.args.walk.now) (null_mentions (scopes_in c.args.walk.now) c.args.around c.args.e.now c.in-Null.is) (adds_none c.args.walk.now)

pub put_expr-returns-in-Use : goal.put_expr-returns-in-Use
put_expr-returns-in-Use t c =
    adds_as c.put_read.result c.args.walk.now c.put_read.new.walk _ _ (use_mentions (scopes_in c.args.walk.now) c.args.around c.args.e.now c.in-Use.name c.in-Use.is) c.put_read.ensures

pub put_expr-returns-in-List : goal.put_expr-returns-in-List
put_expr-returns-in-List t c =
    adds_as c.put_exprs.result c.args.walk.now c.put_exprs.new.walk _ _ (list_mentions (scopes_in c.args.walk.now) c.args.around c.args.e.now c.in-List.elements c.deref.result.now c.in-List.is c.deref.ensures.value) c.put_exprs.ensures

pub put_expr-returns-in-Fields : goal.put_expr-returns-in-Fields
put_expr-returns-in-Fields t c =
    adds_as c.put_fields.result c.args.walk.now c.put_fields.new.walk _ _ (in_fields_mentions (scopes_in c.args.walk.now) c.args.around c.args.e.now c.in-Fields.fields c.deref-in-Fields.result.now c.in-Fields.is c.deref-in-Fields.ensures.value) c.put_fields.ensures

pub put_expr-returns-in-Member : goal.put_expr-returns-in-Member
put_expr-returns-in-Member t c =
    adds_as c.put_member.result c.args.walk.now c.put_member.new.walk _ _ (in_member_mentions (scopes_in c.args.walk.now) c.args.around c.args.e.now c.in-Member.object c.in-Member.word c.deref-in-Member.result.now c.in-Member.is c.deref-in-Member.ensures) c.put_member.ensures

pub put_expr-returns-in-Unary : goal.put_expr-returns-in-Unary
put_expr-returns-in-Unary t c =
    adds_as c.put_expr-in-Unary.result c.args.walk.now c.put_expr-in-Unary.new.walk _ _ (unary_mentions (scopes_in c.args.walk.now) c.args.around c.args.e.now c.in-Unary.field-0 c.in-Unary.operand c.deref-in-Unary.result.now c.in-Unary.is c.deref-in-Unary.ensures) c.put_expr-in-Unary.ensures

pub put_expr-returns-in-Update : goal.put_expr-returns-in-Update
put_expr-returns-in-Update t c =
    adds_as c.put_changed.result c.args.walk.now c.put_changed.new.walk _ _ (update_mentions (scopes_in c.args.walk.now) c.args.around c.args.e.now c.in-Update.field-0 c.in-Update.field-1 c.in-Update.name c.in-Update.is) c.put_changed.ensures

pub put_expr-returns-in-ArrowValue : goal.put_expr-returns-in-ArrowValue
put_expr-returns-in-ArrowValue t c =
    adds_as c.put_arrow.result c.args.walk.now c.put_arrow.new.walk _ _ (arrow_value_mentions (scopes_in c.args.walk.now) c.args.around c.args.e.now c.in-ArrowValue.spot c.in-ArrowValue.names c.in-ArrowValue.value c.deref-in-ArrowValue.result.now c.deref-in-ArrowValue-2.result.now c.in-ArrowValue.is c.deref-in-ArrowValue.ensures.value c.deref-in-ArrowValue-2.ensures) c.put_arrow.ensures

pub put_expr-returns-in-ArrowBlock : goal.put_expr-returns-in-ArrowBlock
put_expr-returns-in-ArrowBlock t c =
    adds_as c.put_function.result c.args.walk.now c.put_function.new.walk _ _ (arrow_block_mentions (scopes_in c.args.walk.now) c.args.around c.args.e.now c.in-ArrowBlock.spot c.in-ArrowBlock.names c.in-ArrowBlock.body c.deref-in-ArrowBlock.result.now c.deref-in-ArrowBlock-2.result.now c.in-ArrowBlock.is c.deref-in-ArrowBlock.ensures.value c.deref-in-ArrowBlock-2.ensures.value) c.put_function.ensures

pub put_expr-returns-in-Function : goal.put_expr-returns-in-Function
put_expr-returns-in-Function t c =
    adds_as c.put_function-in-Function.result c.args.walk.now c.put_function-in-Function.new.walk _ _ (function_mentions (scopes_in c.args.walk.now) c.args.around c.args.e.now c.in-Function.spot c.in-Function.names c.in-Function.body c.deref-in-Function.result.now c.deref-in-Function-2.result.now c.in-Function.is c.deref-in-Function.ensures.value c.deref-in-Function-2.ensures.value) c.put_function-in-Function.ensures

pub put_declarator-returns : goal.put_declarator-returns
put_declarator-returns t c =
    adds_as c.put_perhaps.result c.args.walk.now c.put_perhaps.new.walk _ _ (declarator_parts (scopes_in c.args.walk.now) c.args.around c.args.kind c.args.declarator.now)
    (adds_then c.put_perhaps.result (λ s. one_mention s c.args.around (What.Declares (declared_role c.args.kind)) (out-Declarator c.args.declarator.now).name) (λ s. perhaps_tree_mentions s c.args.around (out-Declarator c.args.declarator.now).value) c.args.walk.now c.put_name.new.walk c.put_perhaps.new.walk
    (subst (λ r. Adds c.args.walk.now c.put_name.new.walk (one_mention (scopes_in c.args.walk.now) c.args.around (What.Declares r) (out-Declarator c.args.declarator.now).name)) c.declared_role.ensures c.in_ok-put_name.ensures) c.put_perhaps.ensures)

pub put_start-returns-in-Nothing : goal.put_start-returns-in-Nothing
put_start-returns-in-Nothing t c =
    subst (Adds c.args.walk.now c.args.walk.now) (nothing_mentions (scopes_in c.args.walk.now) c.args.around c.args.start.now c.in-Nothing.is) (adds_none c.args.walk.now)

pub put_start-returns-in-Declares : goal.put_start-returns-in-Declares
put_start-returns-in-Declares t c =
    adds_as c.put_declarators.result c.args.walk.now c.put_declarators.new.walk _ _ (declares_mentions (scopes_in c.args.walk.now) c.args.around c.args.start.now c.in-Declares.field-0 c.in-Declares.kind c.in-Declares.declarators c.deref.result.now c.in-Declares.is c.deref.ensures.value) c.put_declarators.ensures

pub put_start-returns-in-Evaluates : goal.put_start-returns-in-Evaluates
put_start-returns-in-Evaluates t c =
    adds_as c.put_expr.result c.args.walk.now c.put_expr.new.walk _ _ (evaluates_mentions (scopes_in c.args.walk.now) c.args.around c.args.start.now c.in-Evaluates.e c.in-Evaluates.is) c.put_expr.ensures

pub put_stmt-returns-in-Empty : goal.put_stmt-returns-in-Empty
put_stmt-returns-in-Empty t c =
    subst (Adds c.args.walk.now c.args.walk.now) (empty_mentions (scopes_in c.args.walk.now) c.args.around c.args.stmt.now c.in-Empty.is) (adds_none c.args.walk.now)

pub put_stmt-returns-in-Block : goal.put_stmt-returns-in-Block
put_stmt-returns-in-Block t c =
    adds_as c.put_block.result c.args.walk.now c.put_block.new.walk _ _ (in_block_mentions (scopes_in c.args.walk.now) c.args.around c.args.stmt.now c.in-Block.body c.deref.result.now c.in-Block.is c.deref.ensures.value) c.put_block.ensures

pub put_stmt-returns-in-Declaration : goal.put_stmt-returns-in-Declaration
put_stmt-returns-in-Declaration t c =
    adds_as c.put_declarators.result c.args.walk.now c.put_declarators.new.walk _ _ (declaration_mentions (scopes_in c.args.walk.now) c.args.around c.args.stmt.now c.in-Declaration.kind c.in-Declaration.declarators c.deref-in-Declaration.result.now c.in-Declaration.is c.deref-in-Declaration.ensures.value) c.put_declarators.ensures

pub put_stmt-returns-in-Expression : goal.put_stmt-returns-in-Expression
put_stmt-returns-in-Expression t c =
    adds_as c.put_expr.result c.args.walk.now c.put_expr.new.walk _ _ (expression_mentions (scopes_in c.args.walk.now) c.args.around c.args.stmt.now c.in-Expression.e c.in-Expression.is) c.put_expr.ensures

pub put_stmt-returns-in-Break : goal.put_stmt-returns-in-Break
put_stmt-returns-in-Break t c =
    adds_as c.put_word.result c.args.walk.now c.put_word.new.walk _ _ (break_mentions (scopes_in c.args.walk.now) c.args.around c.args.stmt.now c.in-Break.spot c.in-Break.is) c.put_word.ensures

pub put_stmt-returns-in-Continue : goal.put_stmt-returns-in-Continue
put_stmt-returns-in-Continue t c =
    adds_as c.put_word-in-Continue.result c.args.walk.now c.put_word-in-Continue.new.walk _ _ (continue_mentions (scopes_in c.args.walk.now) c.args.around c.args.stmt.now c.in-Continue.spot c.in-Continue.is) c.put_word-in-Continue.ensures

pub put_stmt-returns-in-ReturnNothing : goal.put_stmt-returns-in-ReturnNothing
put_stmt-returns-in-ReturnNothing t c =
    adds_as c.put_word-in-ReturnNothing.result c.args.walk.now c.put_word-in-ReturnNothing.new.walk _ _ (return_nothing_mentions (scopes_in c.args.walk.now) c.args.around c.args.stmt.now c.in-ReturnNothing.spot c.in-ReturnNothing.is) c.put_word-in-ReturnNothing.ensures

pub put_block-returns : goal.put_block-returns
put_block-returns t c =
    adds_under (λ s. flat_map (tree_stmt_mentions s c.args.around) c.args.body.now) c.args.walk.now c.enter.new.walk c.put_stmts.new.walk c.leave.new.walk c.in_ok-scope.scope (block_scope c.args.around.owner (stmts_of (map plain_stmt c.args.body.now))) c.in_ok-scope.ensures c.in_ok-enter.ensures
    c.in_ok-put_stmts.ensures
    c.leave.ensures

pub put_function-returns : goal.put_function-returns
put_function-returns t c =
    adds_under (λ s. (begin_mention s c.args.spot.at c.args.spot ++ parameter_mentions s (in_function c.args.spot.at) c.args.names.now) ++ flat_map (tree_stmt_mentions s (in_function c.args.spot.at)) c.args.body.now) c.args.walk.now c.enter.new.walk c.put_stmts.new.walk c.leave.new.walk c.in_ok-scope.scope (function_scope c.args.spot.at c.args.names.now (stmts_of (map plain_stmt c.args.body.now))) c.in_ok-scope.ensures c.in_ok-enter.ensures
    (adds_both (λ s. begin_mention s c.args.spot.at c.args.spot ++ parameter_mentions s (in_function c.args.spot.at) c.args.names.now) (λ s. flat_map (tree_stmt_mentions s (in_function c.args.spot.at)) c.args.body.now) c.enter.new.walk c.put_head.new.walk c.put_stmts.new.walk c.in_ok-put_head.ensures
    (subst (λ z. Adds c.put_head.new.walk c.put_stmts.new.walk (flat_map (tree_stmt_mentions (scopes_in c.put_head.new.walk) z) c.args.body.now)) c.in_function.ensures c.in_ok-put_stmts.ensures))
    c.leave.ensures

pub put_arrow-returns : goal.put_arrow-returns
put_arrow-returns t c =
    adds_under (λ s. (begin_mention s c.args.spot.at c.args.spot ++ parameter_mentions s (in_function c.args.spot.at) c.args.names.now) ++ tree_mentions s (in_function c.args.spot.at) c.args.value.now) c.args.walk.now c.enter.new.walk c.put_expr.new.walk c.leave.new.walk c.in_ok-scope.scope (function_scope c.args.spot.at c.args.names.now (stmts_of [])) c.in_ok-scope.ensures c.in_ok-enter.ensures
    (adds_both (λ s. begin_mention s c.args.spot.at c.args.spot ++ parameter_mentions s (in_function c.args.spot.at) c.args.names.now) (λ s. tree_mentions s (in_function c.args.spot.at) c.args.value.now) c.enter.new.walk c.put_head.new.walk c.put_expr.new.walk c.in_ok-put_head.ensures
    (subst (λ z. Adds c.put_head.new.walk c.put_expr.new.walk (tree_mentions (scopes_in c.put_head.new.walk) z c.args.value.now)) c.in_function.ensures c.in_ok-put_expr.ensures))
    c.leave.ensures

pub put_exprs-loop-e-preserved : goal.put_exprs-loop-e-preserved
put_exprs-loop-e-preserved t c =
    adds_more (λ s x. tree_mentions s c.args.around x) c.args.es.now c.loop-e.e-index c.e-item.result c.e-item.result c.args.walk.now c.loop-e.walk c.put_expr.new.walk (omega arith) c.e-item.is c.loop-e.invariant c.in_ok-put_expr.ensures

pub put_fields-loop-field-preserved : goal.put_fields-loop-field-preserved
put_fields-loop-field-preserved t c =
    adds_more (λ s x. field_mentions s c.args.around x) c.args.fields.now c.loop-field.field-index c.field-item.result c.field-item.result c.args.walk.now c.loop-field.walk c.put_expr.new.walk (omega arith) c.field-item.is c.loop-field.invariant c.in_ok-put_expr.ensures

pub put_declarators-loop-declarator-preserved : goal.put_declarators-loop-declarator-preserved
put_declarators-loop-declarator-preserved t c =
    adds_more (λ s x. declarator_mentions s c.args.around c.args.kind x) c.args.declarators.now c.loop-declarator.declarator-index c.declarator-item.result c.declarator-item.result c.args.walk.now c.loop-declarator.walk c.put_declarator.new.walk (omega arith) c.declarator-item.is c.loop-declarator.invariant c.in_ok-put_declarator.ensures

pub put_stmts-loop-stmt-preserved : goal.put_stmts-loop-stmt-preserved
put_stmts-loop-stmt-preserved t c =
    adds_more (λ s x. tree_stmt_mentions s c.args.around x) c.args.body.now c.loop-stmt.stmt-index c.stmt-item.result c.stmt-item.result c.args.walk.now c.loop-stmt.walk c.put_stmt.new.walk (omega arith) c.stmt-item.is c.loop-stmt.invariant c.in_ok-put_stmt.ensures

pub put_expr-returns-in_ok-put_expr-in-Index : goal.put_expr-returns-in_ok-put_expr-in-Index
put_expr-returns-in_ok-put_expr-in-Index t c =
    adds_as c.put_expr-in-Index.result c.args.walk.now c.put_expr-in-Index.new.walk _ _ (index_mentions (scopes_in c.args.walk.now) c.args.around c.args.e.now c.in-Index.left c.in-Index.right c.deref-in-Index.result.now c.deref-in-Index-2.result.now c.in-Index.is c.deref-in-Index.ensures c.deref-in-Index-2.ensures)
    (adds_then c.put_expr-in-Index.result (λ s. tree_mentions s c.args.around c.deref-in-Index.result.now) (λ s. tree_mentions s c.args.around c.deref-in-Index-2.result.now) c.args.walk.now c.put_expr.new.walk c.put_expr-in-Index.new.walk c.in_ok-put_expr-in-Index.ensures c.put_expr-in-Index.ensures)

pub put_expr-returns-in_ok-put_callee-in-Call : goal.put_expr-returns-in_ok-put_callee-in-Call
put_expr-returns-in_ok-put_callee-in-Call t c =
    adds_as c.put_exprs-in-Call.result c.args.walk.now c.put_exprs-in-Call.new.walk _ _ (call_mentions (scopes_in c.args.walk.now) c.args.around c.args.e.now c.in-Call.callee c.in-Call.arguments c.deref-in-Call.result.now c.deref-in-Call-2.result.now c.in-Call.is c.deref-in-Call.ensures c.deref-in-Call-2.ensures.value)
    (adds_then c.put_exprs-in-Call.result (λ s. if is_some (called_builtin (plain_expr c.deref-in-Call.result.now)) then [] else tree_mentions s c.args.around c.deref-in-Call.result.now) (λ s. flat_map (tree_mentions s c.args.around) c.deref-in-Call-2.result.now) c.args.walk.now c.put_callee.new.walk c.put_exprs-in-Call.new.walk c.in_ok-put_callee-in-Call.ensures c.put_exprs-in-Call.ensures)

pub put_expr-returns-in_ok-put_expr-in-Binary : goal.put_expr-returns-in_ok-put_expr-in-Binary
put_expr-returns-in_ok-put_expr-in-Binary t c =
    adds_as c.put_expr-in-Binary-2.result c.args.walk.now c.put_expr-in-Binary-2.new.walk _ _ (binary_mentions (scopes_in c.args.walk.now) c.args.around c.args.e.now c.in-Binary.field-0 c.in-Binary.left c.in-Binary.right c.deref-in-Binary.result.now c.deref-in-Binary-2.result.now c.in-Binary.is c.deref-in-Binary.ensures c.deref-in-Binary-2.ensures)
    (adds_then c.put_expr-in-Binary-2.result (λ s. tree_mentions s c.args.around c.deref-in-Binary.result.now) (λ s. tree_mentions s c.args.around c.deref-in-Binary-2.result.now) c.args.walk.now c.put_expr-in-Binary.new.walk c.put_expr-in-Binary-2.new.walk c.in_ok-put_expr-in-Binary.ensures c.put_expr-in-Binary-2.ensures)

pub put_expr-returns-in_ok-put_changed-in-Assign : goal.put_expr-returns-in_ok-put_changed-in-Assign
put_expr-returns-in_ok-put_changed-in-Assign t c =
    adds_as c.put_expr-in-Assign.result c.args.walk.now c.put_expr-in-Assign.new.walk _ _ (assign_mentions (scopes_in c.args.walk.now) c.args.around c.args.e.now c.in-Assign.field-0 c.in-Assign.name c.in-Assign.value c.deref-in-Assign.result.now c.in-Assign.is c.deref-in-Assign.ensures)
    (adds_then c.put_expr-in-Assign.result (λ s. assign_mention s c.args.around c.in-Assign.name) (λ s. tree_mentions s c.args.around c.deref-in-Assign.result.now) c.args.walk.now c.put_changed-in-Assign.new.walk c.put_expr-in-Assign.new.walk c.in_ok-put_changed-in-Assign.ensures c.put_expr-in-Assign.ensures)

pub put_expr-returns-in_ok-put_expr-in-Conditional-2 : goal.put_expr-returns-in_ok-put_expr-in-Conditional-2
put_expr-returns-in_ok-put_expr-in-Conditional-2 t c =
    adds_as c.put_expr-in-Conditional-3.result c.args.walk.now c.put_expr-in-Conditional-3.new.walk _ _
    (append_assoc (tree_mentions (scopes_in c.args.walk.now) c.args.around c.deref-in-Conditional.result.now) (tree_mentions (scopes_in c.args.walk.now) c.args.around c.deref-in-Conditional-2.result.now) (tree_mentions (scopes_in c.args.walk.now) c.args.around c.deref-in-Conditional-3.result.now) ∙ conditional_mentions (scopes_in c.args.walk.now) c.args.around c.args.e.now c.in-Conditional.test c.in-Conditional.yes c.in-Conditional.no c.deref-in-Conditional.result.now c.deref-in-Conditional-2.result.now c.deref-in-Conditional-3.result.now c.in-Conditional.is c.deref-in-Conditional.ensures c.deref-in-Conditional-2.ensures c.deref-in-Conditional-3.ensures)
    (adds_then c.put_expr-in-Conditional-3.result (λ s. tree_mentions s c.args.around c.deref-in-Conditional.result.now ++ tree_mentions s c.args.around c.deref-in-Conditional-2.result.now) (λ s. tree_mentions s c.args.around c.deref-in-Conditional-3.result.now) c.args.walk.now c.put_expr-in-Conditional-2.new.walk c.put_expr-in-Conditional-3.new.walk
    (adds_both (λ s. tree_mentions s c.args.around c.deref-in-Conditional.result.now) (λ s. tree_mentions s c.args.around c.deref-in-Conditional-2.result.now) c.args.walk.now c.put_expr-in-Conditional.new.walk c.put_expr-in-Conditional-2.new.walk c.in_ok-put_expr-in-Conditional.ensures c.in_ok-put_expr-in-Conditional-2.ensures)
    c.put_expr-in-Conditional-3.ensures)

pub put_stmt-returns-in_ok-put_expr-in-If : goal.put_stmt-returns-in_ok-put_expr-in-If
put_stmt-returns-in_ok-put_expr-in-If t c =
    adds_as c.put_stmt.result c.args.walk.now c.put_stmt.new.walk _ _ (if_mentions (scopes_in c.args.walk.now) c.args.around c.args.stmt.now c.in-If.test c.in-If.body c.deref-in-If.result.now c.in-If.is c.deref-in-If.ensures)
    (adds_then c.put_stmt.result (λ s. tree_mentions s c.args.around c.in-If.test) (λ s. tree_stmt_mentions s c.args.around c.deref-in-If.result.now) c.args.walk.now c.put_expr-in-If.new.walk c.put_stmt.new.walk c.in_ok-put_expr-in-If.ensures c.put_stmt.ensures)

pub put_stmt-returns-in_ok-put_stmt-in-IfElse : goal.put_stmt-returns-in_ok-put_stmt-in-IfElse
put_stmt-returns-in_ok-put_stmt-in-IfElse t c =
    adds_as c.put_stmt-in-IfElse-2.result c.args.walk.now c.put_stmt-in-IfElse-2.new.walk _ _
    (if_else_mentions (scopes_in c.args.walk.now) c.args.around c.args.stmt.now c.in-IfElse.test c.in-IfElse.body c.in-IfElse.other c.deref-in-IfElse.result.now c.deref-in-IfElse-2.result.now c.in-IfElse.is c.deref-in-IfElse.ensures c.deref-in-IfElse-2.ensures)
    (adds_then c.put_stmt-in-IfElse-2.result (λ s. tree_mentions s c.args.around c.in-IfElse.test ++ tree_stmt_mentions s c.args.around c.deref-in-IfElse.result.now) (λ s. tree_stmt_mentions s c.args.around c.deref-in-IfElse-2.result.now) c.args.walk.now c.put_stmt-in-IfElse.new.walk c.put_stmt-in-IfElse-2.new.walk
    (adds_both (λ s. tree_mentions s c.args.around c.in-IfElse.test) (λ s. tree_stmt_mentions s c.args.around c.deref-in-IfElse.result.now) c.args.walk.now c.put_expr-in-IfElse.new.walk c.put_stmt-in-IfElse.new.walk c.in_ok-put_expr-in-IfElse.ensures c.in_ok-put_stmt-in-IfElse.ensures)
    c.put_stmt-in-IfElse-2.ensures)

pub put_stmt-returns-in_ok-put_expr-in-While : goal.put_stmt-returns-in_ok-put_expr-in-While
put_stmt-returns-in_ok-put_expr-in-While t c =
    adds_as c.put_stmt-in-While.result c.args.walk.now c.put_stmt-in-While.new.walk _ _ (while_mentions (scopes_in c.args.walk.now) c.args.around c.in_loop.result c.args.stmt.now c.in-While.test c.in-While.body c.deref-in-While.result.now c.in-While.is c.deref-in-While.ensures c.in_loop.ensures)
    (adds_then c.put_stmt-in-While.result (λ s. tree_mentions s c.args.around c.in-While.test) (λ s. tree_stmt_mentions s c.in_loop.result c.deref-in-While.result.now) c.args.walk.now c.put_expr-in-While.new.walk c.put_stmt-in-While.new.walk c.in_ok-put_expr-in-While.ensures c.put_stmt-in-While.ensures)

pub put_stmt-returns-in_ok-put_stmt-in-ForThree : goal.put_stmt-returns-in_ok-put_stmt-in-ForThree
put_stmt-returns-in_ok-put_stmt-in-ForThree t c =
    subst (Adds c.args.walk.now c.leave.new.walk) (in_for_mentions (scopes_in c.args.walk.now) c.args.around c.args.stmt.now c.in-ForThree.start c.in-ForThree.test c.in-ForThree.next c.in-ForThree.body c.deref-in-ForThree-2.result.now c.in-ForThree.is c.deref-in-ForThree-2.ensures)
    (enters_under (λ s. ((start_tree_mentions s c.args.around c.in-ForThree.start ++ perhaps_tree_mentions s c.args.around c.in-ForThree.test) ++ perhaps_tree_mentions s c.args.around c.in-ForThree.next) ++ tree_stmt_mentions s (in_loop c.args.around) c.deref-in-ForThree-2.result.now) c.args.walk.now c.enter_for.new.walk c.put_stmt-in-ForThree.new.walk c.leave.new.walk (for_three_scope c.args.around.owner (plain_start c.in-ForThree.start) (plain_stmt c.deref-in-ForThree-2.result.now))
    (subst (λ z. Enters c.args.walk.now c.enter_for.new.walk (for_three_scope c.args.around.owner (plain_start c.in-ForThree.start) (plain_stmt z))) (c.deref-in-ForThree.ensures ∙ sym c.deref-in-ForThree-2.ensures) c.in_ok-enter_for-in-ForThree.ensures)
    (adds_both (λ s. (start_tree_mentions s c.args.around c.in-ForThree.start ++ perhaps_tree_mentions s c.args.around c.in-ForThree.test) ++ perhaps_tree_mentions s c.args.around c.in-ForThree.next) (λ s. tree_stmt_mentions s (in_loop c.args.around) c.deref-in-ForThree-2.result.now) c.enter_for.new.walk c.put_perhaps-in-ForThree.new.walk c.put_stmt-in-ForThree.new.walk
    (adds_both (λ s. start_tree_mentions s c.args.around c.in-ForThree.start ++ perhaps_tree_mentions s c.args.around c.in-ForThree.test) (λ s. perhaps_tree_mentions s c.args.around c.in-ForThree.next) c.enter_for.new.walk c.put_perhaps.new.walk c.put_perhaps-in-ForThree.new.walk
    (adds_both (λ s. start_tree_mentions s c.args.around c.in-ForThree.start) (λ s. perhaps_tree_mentions s c.args.around c.in-ForThree.test) c.enter_for.new.walk c.put_start.new.walk c.put_perhaps.new.walk c.in_ok-put_start-in-ForThree.ensures c.in_ok-put_perhaps-in-ForThree.ensures)
    c.in_ok-put_perhaps-in-ForThree-2.ensures)
    (subst (λ z. Adds c.put_perhaps-in-ForThree.new.walk c.put_stmt-in-ForThree.new.walk (tree_stmt_mentions (scopes_in c.put_perhaps-in-ForThree.new.walk) z c.deref-in-ForThree-2.result.now)) c.in_loop-in-ForThree.ensures c.in_ok-put_stmt-in-ForThree.ensures))
    c.leave.ensures)

pub put_stmt-returns-in_ok-put_listed-in-ForOf : goal.put_stmt-returns-in_ok-put_listed-in-ForOf
put_stmt-returns-in_ok-put_listed-in-ForOf t c =
    adds_as c.put_iterations.result c.args.walk.now c.put_iterations.new.walk _ _ (in_each_mentions (scopes_in c.args.walk.now) c.args.around c.args.stmt.now c.in-ForOf.kind c.in-ForOf.name c.in-ForOf.list c.in-ForOf.body c.deref-in-ForOf.result.now c.in-ForOf.is c.deref-in-ForOf.ensures)
    (adds_then c.put_iterations.result (λ s. listed_mentions s c.args.around c.in-ForOf.kind c.in-ForOf.name c.in-ForOf.list) (λ s. iteration_mentions s c.args.around c.in-ForOf.kind c.in-ForOf.name c.deref-in-ForOf.result.now) c.args.walk.now c.put_listed.new.walk c.put_iterations.new.walk c.in_ok-put_listed-in-ForOf.ensures c.put_iterations.ensures)

pub put_listed-returns : goal.put_listed-returns
put_listed-returns t c =
    each_under (λ s. tree_mentions s c.args.around c.args.list.now) c.args.walk.now c.enter_list.new.walk c.put_expr.new.walk c.leave.new.walk c.args.around c.args.kind c.args.name.now (list_scope c.args.around.owner c.args.kind c.args.name.now) c.in_ok-enter_list.ensures c.in_ok-put_expr.ensures c.leave.ensures

pub put_iterations-returns : goal.put_iterations-returns
put_iterations-returns t c =
    adds_under (λ s. tree_stmt_mentions s (in_loop c.args.around) c.args.body.now) c.args.walk.now c.enter.new.walk c.put_stmt.new.walk c.leave.new.walk c.in_ok-scope.scope (for_of_scope c.args.around.owner c.args.kind c.args.name.now (plain_stmt c.args.body.now)) c.in_ok-scope.ensures c.in_ok-enter.ensures
    (subst (λ z. Adds c.enter.new.walk c.put_stmt.new.walk (tree_stmt_mentions (scopes_in c.enter.new.walk) z c.args.body.now)) c.in_loop.ensures c.in_ok-put_stmt.ensures)
    c.leave.ensures

pub put_stmt-returns-in_ok-put_word-in-Return : goal.put_stmt-returns-in_ok-put_word-in-Return
put_stmt-returns-in_ok-put_word-in-Return t c =
    adds_as c.put_expr-in-Return.result c.args.walk.now c.put_expr-in-Return.new.walk _ _ (return_mentions (scopes_in c.args.walk.now) c.args.around c.args.stmt.now c.in-Return.spot c.in-Return.e c.in-Return.is)
    (adds_then c.put_expr-in-Return.result (λ s. one_mention s c.args.around What.Returns (word_at (codes "return") c.in-Return.spot)) (λ s. tree_mentions s c.args.around c.in-Return.e) c.args.walk.now c.put_word-in-Return.new.walk c.put_expr-in-Return.new.walk c.in_ok-put_word-in-Return.ensures c.put_expr-in-Return.ensures)

pub put_perhaps-returns-in-Some : goal.put_perhaps-returns-in-Some
put_perhaps-returns-in-Some t c =
    adds_as c.put_expr.result c.args.walk.now c.put_expr.new.walk _ _ (present_mentions (scopes_in c.args.walk.now) c.args.around c.args.e.now c.in-Some.e c.in-Some.is) c.put_expr.ensures

pub put_perhaps-returns-in-None : goal.put_perhaps-returns-in-None
put_perhaps-returns-in-None t c =
    subst (Adds c.args.walk.now c.args.walk.now) (absent_mentions (scopes_in c.args.walk.now) c.args.around c.args.e.now c.in-None.is) (adds_none c.args.walk.now)
