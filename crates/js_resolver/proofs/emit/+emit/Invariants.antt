use Rattle.std.proofs.Common.{map, drop}
use Rattle.js_tree.specs.Plain.{exprs_of, fields_of, stmts_of}
use Rattle.js_tree.specs.Views.{plain_expr, plain_field, plain_stmt}
use Rattle.js_resolver.specs.Nodes.{exprs_piece, fields_piece, stmts_piece}
use Rattle.js_resolver.specs.inner.Emits.{count}
use Rattle.js_resolver.proofs.Loops.{Remains, RemainsDeclarators}
use Rattle.js_resolver.proofs.emit.+emit.Given as goal

abbrev pub invariant-emit_exprs-loop-e : goal.invariant-emit_exprs-loop-e
invariant-emit_exprs-loop-e l =
    Remains l.initial.emitter l.emitter l.numbers.items (exprs_piece l.tables (count l.emitter) (exprs_of (map plain_expr (drop l.e-index l.es)))) (exprs_piece l.tables (count l.initial.emitter) (exprs_of (map plain_expr l.es)))

abbrev pub invariant-emit_fields-loop-field : goal.invariant-emit_fields-loop-field
invariant-emit_fields-loop-field l =
    Remains l.initial.emitter l.emitter l.numbers.items (fields_piece l.tables (count l.emitter) (fields_of (map plain_field (drop l.field-index l.fields)))) (fields_piece l.tables (count l.initial.emitter) (fields_of (map plain_field l.fields)))

abbrev pub invariant-emit_declarators-loop-declarator : goal.invariant-emit_declarators-loop-declarator
invariant-emit_declarators-loop-declarator l = RemainsDeclarators l.tables l.initial.emitter l.emitter l.declared.items (drop l.declarator-index l.declarators) l.declarators

abbrev pub invariant-emit_stmts-loop-stmt : goal.invariant-emit_stmts-loop-stmt
invariant-emit_stmts-loop-stmt l =
    Remains l.initial.emitter l.emitter l.numbers.items (stmts_piece l.tables (count l.emitter) (stmts_of (map plain_stmt (drop l.stmt-index l.body)))) (stmts_piece l.tables (count l.initial.emitter) (stmts_of (map plain_stmt l.body)))
