use Rattle.std.proofs.Common.{◌-◌, ◌∙◌, ap, refl, sym, subst, arith, map, drop, take, length}
use Rattle.std.proofs.lemmas.List.{drop_all, nil_from_length}
use Rattle.std.specs.Prelude.{IfOk, is_some}
use Rattle.js_tree.specs.Plain as p
use Rattle.js_tree.specs.Plain.{exprs_of, fields_of, stmts_of}
use Rattle.js_tree.specs.Views.{plain_expr, plain_field, plain_stmt}
use Rattle.js_program.specs.declared.builtin.Builtin.TheVariants.{Floor}
use Rattle.js_program.specs.PlainProgram as n
use Rattle.js_names.specs.Forms.{value_builtin}
use Rattle.js_program.specs.declared.node.NodeForm.TheVariants as N
use Rattle.js_resolver.specs.declared.emit.Called.TheVariants as C
use Rattle.js_resolver.specs.NodeForms.{is_division, method_of}
use Rattle.js_resolver.specs.Nodes.{exprs_piece, expr_piece, fields_piece, stmts_piece}
use Rattle.js_resolver.specs.inner.Emits.{count, EmitsCalled, FormsExpr, FormsBuiltin, FormsCall}
use Rattle.js_resolver.proofs.FormArms as f
use Rattle.js_resolver.proofs.StmtArms as s
use Rattle.js_resolver.proofs.FunctionArms as k
use Rattle.js_resolver.proofs.CallArms as m
use Rattle.js_resolver.proofs.Loops as l
use Rattle.js_tree.proofs.Forms.{expr_is}
use Rattle.js_resolver.proofs.TreeForms.{member_whole, binary_whole, not_member, not_binary}
use Rattle.js_resolver.proofs.emit.+emit.Goals as goal
use Rattle.js_resolver.proofs.emit.+emit.Goals.{emit_called-in_default-via-in-Member+else-is_none, emit_called-in_default-via-in_default, emit_floor-in_default-via-in-Binary+else-is_divide, emit_floor-in_default-via-in_default}

pub emit_expr-returns : goal.emit_expr-returns
emit_expr-returns t c =
    f.expr_closed c.args.tables.now c.put_node.result c.args.emitter.now c.emit_form.new.emitter c.put_node.new.emitter c.args.e.now c.in_ok-form.form c.in_ok-form.ensures c.put_node.ensures

pub emit_form-returns-in-Number : goal.emit_form-returns-in-Number
emit_form-returns-in-Number t c =
    f.number_arm c.args.tables.now c.args.emitter.now c.args.form.now c.in-Number.number c.in-Number.is

pub emit_form-returns-in_ok-literal-in-Text : goal.emit_form-returns-in_ok-literal-in-Text
emit_form-returns-in_ok-literal-in-Text t c =
    f.words_arm c.args.tables.now c.args.emitter.now c.args.form.now c.in-Text.text c.in_ok-literal-in-Text.literal c.in-Text.is c.in_ok-literal-in-Text.ensures

pub emit_form-returns-in-Truth : goal.emit_form-returns-in-Truth
emit_form-returns-in-Truth t c =
    f.truth_arm c.args.tables.now c.args.emitter.now c.args.form.now c.in-Truth.truth c.in-Truth.is

pub emit_form-returns-in-Null : goal.emit_form-returns-in-Null
emit_form-returns-in-Null t c =
    f.null_arm c.args.tables.now c.args.emitter.now c.args.form.now c.in-Null.is

pub emit_form-returns-in-Use : goal.emit_form-returns-in-Use
emit_form-returns-in-Use t c =
    f.use_arm c.args.tables.now c.args.emitter.now c.args.form.now c.in-Use.name c.read_form.result c.in-Use.is c.read_form.ensures

pub emit_form-returns-in_ok-elements-in-List : goal.emit_form-returns-in_ok-elements-in-List
emit_form-returns-in_ok-elements-in-List t c =
    f.list_arm c.args.tables.now c.args.emitter.now c.emit_exprs.new.emitter c.args.form.now c.in-List.elements c.deref.result.now c.in_ok-elements-in-List.elements c.in-List.is c.deref.ensures.value c.in_ok-elements-in-List.ensures

pub emit_form-returns-in_ok-keys-in-Fields : goal.emit_form-returns-in_ok-keys-in-Fields
emit_form-returns-in_ok-keys-in-Fields t c =
    f.fields_arm c.args.tables.now c.args.emitter.now c.emit_fields.new.emitter c.args.form.now c.in-Fields.fields c.deref-in-Fields.result.now c.deref-in-Fields-2.result.now c.in_ok-values-in-Fields.values c.in_ok-keys-in-Fields.keys c.in-Fields.is c.deref-in-Fields.ensures.value c.deref-in-Fields-2.ensures.value c.in_ok-values-in-Fields.ensures c.in_ok-keys-in-Fields.ensures

pub emit_form-returns-in-Member : goal.emit_form-returns-in-Member
emit_form-returns-in-Member t c =
    f.member_arm c.args.tables.now c.emit_member.result c.args.emitter.now c.emit_member.new.emitter c.args.form.now c.in-Member.object c.in-Member.word c.deref-in-Member.result.now c.in-Member.is c.deref-in-Member.ensures c.emit_member.ensures

pub emit_form-returns-in_ok-index-in-Index : goal.emit_form-returns-in_ok-index-in-Index
emit_form-returns-in_ok-index-in-Index t c =
    f.index_arm c.args.tables.now c.args.emitter.now c.emit_expr.new.emitter c.emit_expr-in-Index.new.emitter c.args.form.now c.in-Index.left c.in-Index.right c.deref-in-Index.result.now c.deref-in-Index-2.result.now c.in_ok-object-in-Index.object c.in_ok-index-in-Index.index c.in-Index.is c.deref-in-Index.ensures c.deref-in-Index-2.ensures c.in_ok-object-in-Index.ensures c.in_ok-index-in-Index.ensures

pub emit_form-returns-in_ok-called-in-Call : goal.emit_form-returns-in_ok-called-in-Call
emit_form-returns-in_ok-called-in-Call t c =
    f.call_arm c.args.tables.now c.emit_arguments.result c.args.emitter.now c.emit_callee.new.emitter c.emit_arguments.new.emitter c.args.form.now c.in-Call.callee c.in-Call.arguments c.deref-in-Call.result.now c.deref-in-Call-2.result.now c.in_ok-called-in-Call.called c.in-Call.is c.deref-in-Call.ensures c.deref-in-Call-2.ensures.value c.in_ok-called-in-Call.ensures c.emit_arguments.ensures

pub emit_form-returns-in_ok-operand-in-Unary : goal.emit_form-returns-in_ok-operand-in-Unary
emit_form-returns-in_ok-operand-in-Unary t c =
    f.unary_arm c.args.tables.now c.args.emitter.now c.emit_expr-in-Unary.new.emitter c.args.form.now c.in-Unary.sign c.in-Unary.operand c.deref-in-Unary.result.now c.in_ok-operand-in-Unary.operand c.in-Unary.is c.deref-in-Unary.ensures c.in_ok-operand-in-Unary.ensures

pub emit_form-returns-in-Update : goal.emit_form-returns-in-Update
emit_form-returns-in-Update t c =
    f.update_arm c.args.tables.now c.args.emitter.now c.args.form.now c.in-Update.step c.in-Update.fix c.in-Update.name c.slot-slot.result c.in-Update.is c.slot-slot.ensures

pub emit_form-returns-in_ok-second-in-Binary : goal.emit_form-returns-in_ok-second-in-Binary
emit_form-returns-in_ok-second-in-Binary t c =
    f.binary_arm c.args.tables.now c.args.emitter.now c.emit_expr-in-Binary.new.emitter c.emit_expr-in-Binary-2.new.emitter c.args.form.now c.in-Binary.operator c.in-Binary.left c.in-Binary.right c.deref-in-Binary.result.now c.deref-in-Binary-2.result.now c.in_ok-first-in-Binary.first c.in_ok-second-in-Binary.second c.in-Binary.is c.deref-in-Binary.ensures c.deref-in-Binary-2.ensures c.in_ok-first-in-Binary.ensures c.in_ok-second-in-Binary.ensures

pub emit_form-returns-in_ok-second-in-Conditional : goal.emit_form-returns-in_ok-second-in-Conditional
emit_form-returns-in_ok-second-in-Conditional t c =
    f.conditional_arm c.args.tables.now c.args.emitter.now c.emit_expr-in-Conditional.new.emitter c.emit_expr-in-Conditional-2.new.emitter c.emit_expr-in-Conditional-3.new.emitter c.args.form.now c.in-Conditional.test c.in-Conditional.yes c.in-Conditional.no c.deref-in-Conditional.result.now c.deref-in-Conditional-2.result.now c.deref-in-Conditional-3.result.now c.in_ok-tested-in-Conditional.tested c.in_ok-first-in-Conditional.first c.in_ok-second-in-Conditional.second c.in-Conditional.is c.deref-in-Conditional.ensures c.deref-in-Conditional-2.ensures c.deref-in-Conditional-3.ensures c.in_ok-tested-in-Conditional.ensures c.in_ok-first-in-Conditional.ensures c.in_ok-second-in-Conditional.ensures

pub emit_form-returns-in_ok-value-in-Assign : goal.emit_form-returns-in_ok-value-in-Assign
emit_form-returns-in_ok-value-in-Assign t c =
    f.assign_arm c.args.tables.now c.args.emitter.now c.emit_expr-in-Assign.new.emitter c.args.form.now c.in-Assign.operator c.in-Assign.name c.in-Assign.value c.deref-in-Assign.result.now c.in_ok-value-in-Assign.value c.slot-slot-in-Assign.result c.in-Assign.is c.deref-in-Assign.ensures c.in_ok-value-in-Assign.ensures c.slot-slot-in-Assign.ensures

pub emit_form-returns-in-ArrowValue : goal.emit_form-returns-in-ArrowValue
emit_form-returns-in-ArrowValue t c =
    f.arrow_value_arm c.args.tables.now c.emit_arrow.result c.args.emitter.now c.emit_arrow.new.emitter c.args.form.now c.in-ArrowValue.spot c.in-ArrowValue.names c.in-ArrowValue.value c.deref-in-ArrowValue.result.now c.deref-in-ArrowValue-2.result.now c.in-ArrowValue.is c.deref-in-ArrowValue.ensures.value c.deref-in-ArrowValue-2.ensures c.emit_arrow.ensures

pub emit_form-returns-in-ArrowBlock : goal.emit_form-returns-in-ArrowBlock
emit_form-returns-in-ArrowBlock t c =
    f.arrow_block_arm c.args.tables.now c.emit_function.result c.args.emitter.now c.emit_function.new.emitter c.args.form.now c.in-ArrowBlock.spot c.in-ArrowBlock.names c.in-ArrowBlock.body c.deref-in-ArrowBlock.result.now c.deref-in-ArrowBlock-2.result.now c.in-ArrowBlock.is c.deref-in-ArrowBlock.ensures.value c.deref-in-ArrowBlock-2.ensures.value c.emit_function.ensures

pub emit_form-returns-in-Function : goal.emit_form-returns-in-Function
emit_form-returns-in-Function t c =
    f.function_arm c.args.tables.now c.emit_function-in-Function.result c.args.emitter.now c.emit_function-in-Function.new.emitter c.args.form.now c.in-Function.spot c.in-Function.names c.in-Function.body c.deref-in-Function.result.now c.deref-in-Function-2.result.now c.in-Function.is c.deref-in-Function.ensures.value c.deref-in-Function-2.ensures.value c.emit_function-in-Function.ensures

pub emit_member-returns-in-Some : goal.emit_member-returns-in-Some
emit_member-returns-in-Some t c =
    m.member_builtin c.args.tables.now c.args.emitter.now (plain_expr c.args.object.now) c.args.word.now c.in-Some.builtin c.new.result (sym (c.value_builtin.ensures ∙ ap (value_builtin (plain_expr c.args.object.now)) c.as_str.ensures) ∙ c.in-Some.is) c.new.ensures.items

pub emit_member-returns-in_ok-copy-in-None : goal.emit_member-returns-in_ok-copy-in-None
emit_member-returns-in_ok-copy-in-None t c =
    subst (λ z. FormsExpr c.args.tables.now c.args.emitter.now c.emit_expr.new.emitter (N.Member c.in_ok-object-in-None.object z) (p.member (plain_expr c.args.object.now) c.args.word.now)) (sym c.in_ok-copy-in-None.ensures) (m.member_plain c.args.tables.now c.args.emitter.now c.emit_expr.new.emitter (plain_expr c.args.object.now) c.args.word.now c.in_ok-object-in-None.object (sym (c.value_builtin.ensures ∙ ap (value_builtin (plain_expr c.args.object.now)) c.as_str.ensures) ∙ c.in-None.is) c.in_ok-object-in-None.ensures)

pub emit_callee-returns-in-Some : goal.emit_callee-returns-in-Some
emit_callee-returns-in-Some t c =
    m.callee_builtin c.args.tables.now c.args.emitter.now (plain_expr c.args.callee.now) c.in-Some.builtin (sym c.called_builtin.ensures ∙ c.in-Some.is)

pub emit_callee-returns-in-None : goal.emit_callee-returns-in-None
emit_callee-returns-in-None t c =
    m.callee_called c.emit_called.result c.args.tables.now c.args.emitter.now c.emit_called.new.emitter (plain_expr c.args.callee.now) (sym c.called_builtin.ensures ∙ c.in-None.is) c.emit_called.ensures

pub emit_called-returns-in_ok-copy-in-Member : goal.emit_called-returns-in_ok-copy-in-Member
emit_called-returns-in_ok-copy-in-Member t c =
    subst (λ z. EmitsCalled c.args.tables.now c.args.emitter.now c.emit_expr.new.emitter (C.Method c.in_ok-object-in-Member.object z) (plain_expr c.args.callee.now)) (sym c.in_ok-copy-in-Member.ensures)
    (m.called_method c.args.tables.now c.args.emitter.now c.emit_expr.new.emitter (plain_expr c.args.callee.now) (plain_expr c.deref-in-Member.result.now) c.args.callee.now.parens c.args.callee.now.line c.in-Member.word c.in_ok-object-in-Member.object
    (member_whole c.args.callee.now c.in-Member.object c.in-Member.word c.deref-in-Member.result.now c.in-Member.is c.deref-in-Member.ensures)
    (m.no_value c.value_builtin.result (value_builtin (plain_expr c.deref-in-Member.result.now) c.in-Member.word)
    (c.value_builtin.ensures ∙ (ap (value_builtin (plain_expr c.deref.result.now)) c.as_str.ensures ∙ ap (λ z. value_builtin (plain_expr z) c.in-Member.word) (c.deref.ensures ∙ sym c.deref-in-Member.ensures))) c.if-is_none.ensures)
    c.in_ok-object-in-Member.ensures)

pub emit_called-returns-in_ok-called-in_default : goal.emit_called-returns-in_ok-called-in_default
emit_called-returns-in_ok-called-in_default t c =
    m.called_other c.args.tables.now c.args.emitter.now c.emit_expr-in_default.new.emitter (plain_expr c.args.callee.now) c.in_ok-called-in_default.called (elim c.in_default.branch [
      | emit_called-in_default-via-in-Member+else-is_none w ↦
          m.no_method (plain_expr c.args.callee.now) (plain_expr w.deref.result.now) c.args.callee.now.parens c.args.callee.now.line w.in-Member.word (member_whole c.args.callee.now w.in-Member.object w.in-Member.word w.deref.result.now w.in-Member.is w.deref.ensures)
          (ap is_some (sym (w.value_builtin.ensures ∙ ap (value_builtin (plain_expr w.deref.result.now)) w.as_str.ensures)) ∙ w.if-is_none.ensures)
      | emit_called-in_default-via-in_default w ↦ ap method_of (expr_is c.args.callee.now) ∙ not_member c.args.callee.now.form w.in_default.not-Member c.args.callee.now.parens c.args.callee.now.line
    ])
    c.in_ok-called-in_default.ensures

pub emit_arguments-returns-in-Builtin : goal.emit_arguments-returns-in-Builtin
emit_arguments-returns-in-Builtin t c = subst (λ z. IfOk c.emit_builtin.result (λ x. FormsCall c.args.tables.now c.args.emitter.now c.emit_builtin.new.emitter x z (exprs_of (map plain_expr c.args.arguments.now)))) (sym c.in-Builtin.is) c.emit_builtin.ensures

pub emit_arguments-returns-in_ok-others-in-Method : goal.emit_arguments-returns-in_ok-others-in-Method
emit_arguments-returns-in_ok-others-in-Method t c =
    subst (λ z. FormsCall c.args.tables.now c.args.emitter.now c.emit_exprs.new.emitter (N.Method c.in-Method.object c.in-Method.word c.in_ok-others-in-Method.others) z (exprs_of (map plain_expr c.args.arguments.now))) (sym c.in-Method.is)
    (m.arguments_method c.args.tables.now c.args.emitter.now c.emit_exprs.new.emitter c.in-Method.object c.in-Method.word (exprs_of (map plain_expr c.args.arguments.now)) c.in_ok-others-in-Method.others c.in_ok-others-in-Method.ensures)

pub emit_arguments-returns-in_ok-others-in-Other : goal.emit_arguments-returns-in_ok-others-in-Other
emit_arguments-returns-in_ok-others-in-Other t c =
    subst (λ z. FormsCall c.args.tables.now c.args.emitter.now c.emit_exprs-in-Other.new.emitter (N.Call c.in-Other.called c.in_ok-others-in-Other.others) z (exprs_of (map plain_expr c.args.arguments.now))) (sym c.in-Other.is)
    (m.arguments_other c.args.tables.now c.args.emitter.now c.emit_exprs-in-Other.new.emitter c.in-Other.called (exprs_of (map plain_expr c.args.arguments.now)) c.in_ok-others-in-Other.others c.in_ok-others-in-Other.ensures)

pub emit_builtin-returns-in-Floor : goal.emit_builtin-returns-in-Floor
emit_builtin-returns-in-Floor t c = subst (λ z. IfOk c.emit_floor.result (λ x. FormsBuiltin c.args.tables.now c.args.emitter.now c.emit_floor.new.emitter x z (exprs_of (map plain_expr c.args.arguments.now)))) (sym c.in-Floor.is) c.emit_floor.ensures

pub emit_builtin-returns-in_ok-numbers-in_default : goal.emit_builtin-returns-in_ok-numbers-in_default
emit_builtin-returns-in_ok-numbers-in_default t c =
    m.builtin_plain c.args.tables.now c.args.emitter.now c.emit_exprs.new.emitter c.args.builtin (exprs_of (map plain_expr c.args.arguments.now)) c.in_ok-numbers-in_default.numbers (m.not_floor c.args.builtin (exprs_of (map plain_expr c.args.arguments.now)) c.in_default.not-Floor) c.in_ok-numbers-in_default.ensures

pub emit_floor-returns-in-empty : goal.emit_floor-returns-in-empty
emit_floor-returns-in-empty t c = m.floor_none c.args.tables.now c.args.emitter.now c.args.arguments.now c.new.result (nil_from_length c.args.arguments.now (omega arith)) c.new.ensures.items

pub emit_function-returns : goal.emit_function-returns
emit_function-returns t c =
    k.function_form c.args.tables.now c.args.emitter.now c.emit_body.new.emitter c.args.spot c.args.names.now (stmts_of (map plain_stmt c.args.body.now)) c.in_ok-code.code c.in_ok-code.ensures c.in_ok-emit_body.ensures

pub emit_arrow-returns : goal.emit_arrow-returns
emit_arrow-returns t c =
    k.arrow_form c.args.tables.now c.args.emitter.now c.emit_expr.new.emitter c.put_body.new.emitter c.len-place.result c.args.spot c.args.names.now c.args.value.now c.in_ok-number.number c.in_ok-code.code (c.len-place.ensures ∙ c.args.emitter.now.functions.ok.0) c.in_ok-number.ensures c.in_ok-put_body.ensures c.in_ok-code.ensures

pub emit_arrow-put_body-requires : goal.emit_arrow-put_body-requires
emit_arrow-put_body-requires t c =
    k.place_is_there c.args.emitter.now c.emit_expr.new.emitter (expr_piece c.args.tables.now (count c.args.emitter.now) (plain_expr c.args.value.now)) c.len-place.result (c.len-place.ensures ∙ c.args.emitter.now.functions.ok.0) c.in_ok-number.ensures.adds

pub emit_body-returns : goal.emit_body-returns
emit_body-returns t c =
    k.on_function_adds c.put_body.result c.args.tables.now c.args.emitter.now c.emit_stmts.new.emitter c.put_body.new.emitter c.len-place.result c.args.spot c.args.names.now c.in_ok-numbers.numbers.items n.statements (stmts_piece c.args.tables.now (count c.args.emitter.now) (stmts_of (map plain_stmt c.args.body.now))) (c.len-place.ensures ∙ c.args.emitter.now.functions.ok.0) c.in_ok-numbers.ensures c.put_body.ensures

pub emit_body-put_body-requires : goal.emit_body-put_body-requires
emit_body-put_body-requires t c =
    k.place_is_there c.args.emitter.now c.emit_stmts.new.emitter (stmts_piece c.args.tables.now (count c.args.emitter.now) (stmts_of (map plain_stmt c.args.body.now))) c.len-place.result (c.len-place.ensures ∙ c.args.emitter.now.functions.ok.0) c.in_ok-numbers.ensures.adds

pub emit_perhaps-returns-in_ok-number-in-Some : goal.emit_perhaps-returns-in_ok-number-in-Some
emit_perhaps-returns-in_ok-number-in-Some t c =
    s.present_arm c.args.tables.now c.args.emitter.now c.emit_expr.new.emitter c.args.e.now c.in-Some.e c.in_ok-number-in-Some.number c.in-Some.is c.in_ok-number-in-Some.ensures

pub emit_perhaps-returns-in-None : goal.emit_perhaps-returns-in-None
emit_perhaps-returns-in-None t c =
    s.absent_arm c.args.tables.now c.args.emitter.now c.args.e.now c.in-None.is

pub emit_start-returns-in-Nothing : goal.emit_start-returns-in-Nothing
emit_start-returns-in-Nothing t c =
    s.nothing_arm c.args.tables.now c.args.emitter.now c.args.start.now c.in-Nothing.is

pub emit_start-returns-in_ok-number-in-Declares : goal.emit_start-returns-in_ok-number-in-Declares
emit_start-returns-in_ok-number-in-Declares t c =
    s.declares_arm c.args.tables.now c.args.emitter.now c.emit_declarators.new.emitter c.put_node.new.emitter c.args.start.now c.in-Declares.line c.in-Declares.kind c.in-Declares.declarators c.deref.result.now c.in_ok-declared-in-Declares.declared c.in_ok-number-in-Declares.number c.in-Declares.is c.deref.ensures.value c.in_ok-declared-in-Declares.ensures c.in_ok-number-in-Declares.ensures

pub emit_start-returns-in_ok-number-in-Evaluates : goal.emit_start-returns-in_ok-number-in-Evaluates
emit_start-returns-in_ok-number-in-Evaluates t c =
    s.evaluates_arm c.args.tables.now c.args.emitter.now c.emit_expr.new.emitter c.args.start.now c.in-Evaluates.e c.in_ok-number-in-Evaluates.number c.in-Evaluates.is c.in_ok-number-in-Evaluates.ensures

pub emit_stmt-returns : goal.emit_stmt-returns
emit_stmt-returns t c =
    s.stmt_closed c.args.tables.now c.put_node.result c.args.emitter.now c.emit_stmt_form.new.emitter c.put_node.new.emitter c.args.stmt.now c.in_ok-form.form c.in_ok-form.ensures c.put_node.ensures

pub emit_stmt_form-returns-in-Empty : goal.emit_stmt_form-returns-in-Empty
emit_stmt_form-returns-in-Empty t c =
    s.empty_arm c.args.tables.now c.args.emitter.now c.args.form.now c.in-Empty.is

pub emit_stmt_form-returns-in_ok-numbers-in-Block : goal.emit_stmt_form-returns-in_ok-numbers-in-Block
emit_stmt_form-returns-in_ok-numbers-in-Block t c =
    s.block_arm c.args.tables.now c.args.emitter.now c.emit_stmts.new.emitter c.args.form.now c.in-Block.body c.deref.result.now c.deref-in-Block.result.now c.in_ok-slots-in-Block.slots c.in_ok-numbers-in-Block.numbers c.in-Block.is c.deref.ensures.value c.deref-in-Block.ensures.value c.in_ok-slots-in-Block.ensures c.in_ok-numbers-in-Block.ensures

pub emit_stmt_form-returns-in_ok-declared-in-Declaration : goal.emit_stmt_form-returns-in_ok-declared-in-Declaration
emit_stmt_form-returns-in_ok-declared-in-Declaration t c =
    s.declaration_arm c.args.tables.now c.args.emitter.now c.emit_declarators.new.emitter c.args.form.now c.in-Declaration.kind c.in-Declaration.declarators c.deref-in-Declaration.result.now c.in_ok-declared-in-Declaration.declared c.in-Declaration.is c.deref-in-Declaration.ensures.value c.in_ok-declared-in-Declaration.ensures

pub emit_stmt_form-returns-in_ok-number-in-Expression : goal.emit_stmt_form-returns-in_ok-number-in-Expression
emit_stmt_form-returns-in_ok-number-in-Expression t c =
    s.expression_arm c.args.tables.now c.args.emitter.now c.emit_expr.new.emitter c.args.form.now c.in-Expression.e c.in_ok-number-in-Expression.number c.in-Expression.is c.in_ok-number-in-Expression.ensures

pub emit_stmt_form-returns-in_ok-number-in-If : goal.emit_stmt_form-returns-in_ok-number-in-If
emit_stmt_form-returns-in_ok-number-in-If t c =
    s.if_arm c.args.tables.now c.args.emitter.now c.emit_expr-in-If.new.emitter c.emit_stmt.new.emitter c.args.form.now c.in-If.test c.in-If.body c.deref-in-If.result.now c.in_ok-tested-in-If.tested c.in_ok-number-in-If.number c.in-If.is c.deref-in-If.ensures c.in_ok-tested-in-If.ensures c.in_ok-number-in-If.ensures

pub emit_stmt_form-returns-in_ok-number-in-While : goal.emit_stmt_form-returns-in_ok-number-in-While
emit_stmt_form-returns-in_ok-number-in-While t c =
    s.while_arm c.args.tables.now c.args.emitter.now c.emit_expr-in-While.new.emitter c.emit_stmt-in-While.new.emitter c.args.form.now c.in-While.test c.in-While.body c.deref-in-While.result.now c.in_ok-tested-in-While.tested c.in_ok-number-in-While.number c.in-While.is c.deref-in-While.ensures c.in_ok-tested-in-While.ensures c.in_ok-number-in-While.ensures

pub emit_stmt_form-returns-in_ok-second-in-IfElse : goal.emit_stmt_form-returns-in_ok-second-in-IfElse
emit_stmt_form-returns-in_ok-second-in-IfElse t c =
    s.if_else_arm c.args.tables.now c.args.emitter.now c.emit_expr-in-IfElse.new.emitter c.emit_stmt-in-IfElse.new.emitter c.emit_stmt-in-IfElse-2.new.emitter c.args.form.now c.in-IfElse.test c.in-IfElse.body c.in-IfElse.other c.deref-in-IfElse.result.now c.deref-in-IfElse-2.result.now c.in_ok-tested-in-IfElse.tested c.in_ok-first-in-IfElse.first c.in_ok-second-in-IfElse.second c.in-IfElse.is c.deref-in-IfElse.ensures c.deref-in-IfElse-2.ensures c.in_ok-tested-in-IfElse.ensures c.in_ok-first-in-IfElse.ensures c.in_ok-second-in-IfElse.ensures

pub emit_stmt_form-returns-in_ok-number-in-ForThree : goal.emit_stmt_form-returns-in_ok-number-in-ForThree
emit_stmt_form-returns-in_ok-number-in-ForThree t c =
    s.for_arm c.args.tables.now c.args.emitter.now c.emit_start.new.emitter c.emit_perhaps.new.emitter c.emit_perhaps-in-ForThree.new.emitter c.emit_stmt-in-ForThree.new.emitter c.args.form.now c.in-ForThree.start c.in-ForThree.start c.in-ForThree.test c.in-ForThree.next c.in-ForThree.body c.deref-in-ForThree.result.now c.in_ok-slots-in-ForThree.slots c.in_ok-first-in-ForThree.first c.in_ok-tested-in-ForThree.tested c.in_ok-step-in-ForThree.step c.in_ok-number-in-ForThree.number c.in-ForThree.is c.deref-in-ForThree.ensures c.in_ok-slots-in-ForThree.ensures c.in_ok-first-in-ForThree.ensures c.in_ok-tested-in-ForThree.ensures c.in_ok-step-in-ForThree.ensures c.in_ok-number-in-ForThree.ensures

pub emit_stmt_form-returns-in_ok-number-in-ForOf : goal.emit_stmt_form-returns-in_ok-number-in-ForOf
emit_stmt_form-returns-in_ok-number-in-ForOf t c =
    s.for_of_arm c.args.tables.now c.args.emitter.now c.emit_expr-in-ForOf.new.emitter c.emit_stmt-in-ForOf.new.emitter c.args.form.now c.in-ForOf.field-0 c.in-ForOf.name c.in-ForOf.list c.in-ForOf.body c.deref-in-ForOf.result.now c.slot-slot.result c.in_ok-items-in-ForOf.items c.in_ok-number-in-ForOf.number c.in-ForOf.is c.deref-in-ForOf.ensures c.slot-slot.ensures c.in_ok-items-in-ForOf.ensures c.in_ok-number-in-ForOf.ensures

pub emit_stmt_form-returns-in-Break : goal.emit_stmt_form-returns-in-Break
emit_stmt_form-returns-in-Break t c =
    s.break_arm c.args.tables.now c.args.emitter.now c.args.form.now c.in-Break.field-0 c.in-Break.is

pub emit_stmt_form-returns-in-Continue : goal.emit_stmt_form-returns-in-Continue
emit_stmt_form-returns-in-Continue t c =
    s.continue_arm c.args.tables.now c.args.emitter.now c.args.form.now c.in-Continue.field-0 c.in-Continue.is

pub emit_stmt_form-returns-in-ReturnNothing : goal.emit_stmt_form-returns-in-ReturnNothing
emit_stmt_form-returns-in-ReturnNothing t c =
    s.return_nothing_arm c.args.tables.now c.args.emitter.now c.args.form.now c.in-ReturnNothing.field-0 c.in-ReturnNothing.is

pub emit_stmt_form-returns-in_ok-number-in-Return : goal.emit_stmt_form-returns-in_ok-number-in-Return
emit_stmt_form-returns-in_ok-number-in-Return t c =
    s.return_arm c.args.tables.now c.args.emitter.now c.emit_expr-in-Return.new.emitter c.args.form.now c.in-Return.field-0 c.in-Return.e c.in_ok-number-in-Return.number c.in-Return.is c.in_ok-number-in-Return.ensures

pub emit_exprs-loop-e-preserved : goal.emit_exprs-loop-e-preserved
emit_exprs-loop-e-preserved t c =
    l.exprs_more c.args.tables.now c.args.es.now c.loop-e.e-index c.e-item.result c.e-item.result c.args.emitter.now c.loop-e.emitter c.emit_expr.new.emitter c.loop-e.numbers.items c.push.new.self.items c.in_ok-number.number (exprs_piece c.args.tables.now (count c.args.emitter.now) (exprs_of (map plain_expr c.args.es.now))) (omega arith) c.e-item.is c.loop-e.invariant c.in_ok-number.ensures c.in_ok-push.ensures.items

pub emit_stmts-loop-stmt-preserved : goal.emit_stmts-loop-stmt-preserved
emit_stmts-loop-stmt-preserved t c =
    l.stmts_more c.args.tables.now c.args.body.now c.loop-stmt.stmt-index c.stmt-item.result c.stmt-item.result c.args.emitter.now c.loop-stmt.emitter c.emit_stmt.new.emitter c.loop-stmt.numbers.items c.push.new.self.items c.in_ok-number.number (stmts_piece c.args.tables.now (count c.args.emitter.now) (stmts_of (map plain_stmt c.args.body.now))) (omega arith) c.stmt-item.is c.loop-stmt.invariant c.in_ok-number.ensures c.in_ok-push.ensures.items

pub emit_declarators-loop-declarator-preserved : goal.emit_declarators-loop-declarator-preserved
emit_declarators-loop-declarator-preserved t c =
    l.declarators_more c.args.tables.now c.args.declarators.now c.loop-declarator.declarator-index c.declarator-item.result c.declarator-item.result c.args.emitter.now c.loop-declarator.emitter c.emit_perhaps.new.emitter c.loop-declarator.declared.items c.push.new.self.items (record { variable = c.variable-variable.result; value = c.in_ok-value.value }) (omega arith) c.declarator-item.is c.loop-declarator.invariant c.in_ok-value.ensures c.variable-variable.ensures c.in_ok-push.ensures.items

pub emit_fields-loop-field-preserved : goal.emit_fields-loop-field-preserved
emit_fields-loop-field-preserved t c =
    l.fields_more c.args.tables.now c.args.fields.now c.loop-field.field-index c.field-item.result c.field-item.result c.args.emitter.now c.loop-field.emitter c.emit_expr.new.emitter c.loop-field.numbers.items c.push.new.self.items c.in_ok-number.number (fields_piece c.args.tables.now (count c.args.emitter.now) (fields_of (map plain_field c.args.fields.now))) (omega arith) c.field-item.is c.loop-field.invariant c.in_ok-number.ensures c.in_ok-push.ensures.items

pub emit_exprs-loop-e-init : goal.emit_exprs-loop-e-init
emit_exprs-loop-e-init t c =
    l.remains_all c.args.emitter.now c.new-numbers.result.items (exprs_piece c.args.tables.now (count c.args.emitter.now) (exprs_of (map plain_expr c.args.es.now))) c.new-numbers.ensures.items

pub emit_exprs-returns : goal.emit_exprs-returns
emit_exprs-returns t c =
    l.exprs_done c.args.tables.now c.args.emitter.now c.loop-e.emitter c.loop-e.numbers.items (drop c.loop-e.e-index c.args.es.now) (exprs_piece c.args.tables.now (count c.args.emitter.now) (exprs_of (map plain_expr c.args.es.now))) (drop_all c.loop-e.e-index c.args.es.now (omega arith)) c.loop-e.invariant

pub emit_stmts-loop-stmt-init : goal.emit_stmts-loop-stmt-init
emit_stmts-loop-stmt-init t c =
    l.remains_all c.args.emitter.now c.new-numbers.result.items (stmts_piece c.args.tables.now (count c.args.emitter.now) (stmts_of (map plain_stmt c.args.body.now))) c.new-numbers.ensures.items

pub emit_stmts-returns : goal.emit_stmts-returns
emit_stmts-returns t c =
    l.stmts_done c.args.tables.now c.args.emitter.now c.loop-stmt.emitter c.loop-stmt.numbers.items (drop c.loop-stmt.stmt-index c.args.body.now) (stmts_piece c.args.tables.now (count c.args.emitter.now) (stmts_of (map plain_stmt c.args.body.now))) (drop_all c.loop-stmt.stmt-index c.args.body.now (omega arith)) c.loop-stmt.invariant

pub emit_fields-loop-field-init : goal.emit_fields-loop-field-init
emit_fields-loop-field-init t c =
    l.remains_all c.args.emitter.now c.new-numbers.result.items (fields_piece c.args.tables.now (count c.args.emitter.now) (fields_of (map plain_field c.args.fields.now))) c.new-numbers.ensures.items

pub emit_fields-returns : goal.emit_fields-returns
emit_fields-returns t c =
    l.fields_done c.args.tables.now c.args.emitter.now c.loop-field.emitter c.loop-field.numbers.items (drop c.loop-field.field-index c.args.fields.now) (fields_piece c.args.tables.now (count c.args.emitter.now) (fields_of (map plain_field c.args.fields.now))) (drop_all c.loop-field.field-index c.args.fields.now (omega arith)) c.loop-field.invariant

pub emit_declarators-loop-declarator-init : goal.emit_declarators-loop-declarator-init
emit_declarators-loop-declarator-init t c = l.declarators_all c.args.tables.now c.args.emitter.now c.new-declared.result.items c.args.declarators.now c.new-declared.ensures.items

pub emit_declarators-returns : goal.emit_declarators-returns
emit_declarators-returns t c =
    l.declarators_none c.args.tables.now c.args.emitter.now c.loop-declarator.emitter c.loop-declarator.declared.items (drop c.loop-declarator.declarator-index c.args.declarators.now) c.args.declarators.now (drop_all c.loop-declarator.declarator-index c.args.declarators.now (omega arith)) c.loop-declarator.invariant

pub emit_floor-returns-in_ok-others-in-Binary : goal.emit_floor-returns-in_ok-others-in-Binary
emit_floor-returns-in_ok-others-in-Binary t c =
    m.floor_divides c.args.tables.now c.args.emitter.now c.emit_expr.new.emitter c.emit_expr-in-Binary.new.emitter c.emit_exprs.new.emitter (plain_expr c.first-item.result) (plain_expr c.deref.result.now) (plain_expr c.deref-in-Binary.result.now) c.first-item.result.parens c.first-item.result.line
    (exprs_of (map plain_expr (take (length c.args.arguments.now - 1) (drop 1 c.args.arguments.now)))) (exprs_of (map plain_expr c.args.arguments.now)) c.in_ok-divided-in-Binary.divided c.in_ok-divisor-in-Binary.divisor c.in_ok-others-in-Binary.others
    (m.exprs_first c.args.arguments.now (take (length c.args.arguments.now - 1) (drop 1 c.args.arguments.now)) c.first-item.result (m.first_and_rest c.args.arguments.now c.first-item.result c.first-item.result c.in-len1-up.len_at_least c.first-item.is))
    (binary_whole c.first-item.result c.in-Binary.operator c.in-Binary.left c.in-Binary.right c.deref.result.now c.deref-in-Binary.result.now c.in-Binary.is c.deref.ensures c.deref-in-Binary.ensures
    ∙ ap (λ z. p.at c.first-item.result.parens c.first-item.result.line (p.binary z (plain_expr c.deref.result.now) (plain_expr c.deref-in-Binary.result.now))) (m.divides_is c.in-Binary.operator (sym c.is_divide.ensures ∙ c.if-is_divide.true)))
    c.in_ok-divided-in-Binary.ensures c.in_ok-divisor-in-Binary.ensures c.in_ok-others-in-Binary.ensures

pub emit_floor-returns-in_ok-numbers-in_default : goal.emit_floor-returns-in_ok-numbers-in_default
emit_floor-returns-in_ok-numbers-in_default t c =
    let rest = take (length c.args.arguments.now - 1) (drop 1 c.args.arguments.now) in
    m.builtin_plain c.args.tables.now c.args.emitter.now c.emit_exprs-in_default.new.emitter Floor (exprs_of (map plain_expr c.args.arguments.now)) c.in_ok-numbers-in_default.numbers
    (m.floor_plain (plain_expr c.first-item.result) (exprs_of (map plain_expr rest)) (exprs_of (map plain_expr c.args.arguments.now)) (m.exprs_first c.args.arguments.now rest c.first-item.result (m.first_and_rest c.args.arguments.now c.first-item.result c.first-item.result c.in-len1-up.len_at_least c.first-item.is))
    (elim c.in_default.branch [
      | emit_floor-in_default-via-in-Binary+else-is_divide w ↦
          ap is_division (binary_whole c.first-item.result w.in-Binary.operator w.in-Binary.left w.in-Binary.right w.in-Binary.left.value w.in-Binary.right.value w.in-Binary.is refl refl)
          ∙ m.divides_not w.in-Binary.operator c.first-item.result.parens c.first-item.result.line (plain_expr w.in-Binary.left.value) (plain_expr w.in-Binary.right.value) (sym w.is_divide.ensures ∙ w.if-is_divide.false)
      | emit_floor-in_default-via-in_default w ↦ ap is_division (expr_is c.first-item.result) ∙ not_binary c.first-item.result.form w.in_default.not-Binary c.first-item.result.parens c.first-item.result.line
    ]))
    c.in_ok-numbers-in_default.ensures
