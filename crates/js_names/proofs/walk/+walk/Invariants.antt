use Rattle.std.proofs.Common.{take}
use Rattle.std.specs.List.{flat_map}
use Rattle.js_names.specs.inner.Walks.{Adds, scopes_in}
use Rattle.js_names.specs.inner.TreeMentions.{tree_mentions, field_mentions, declarator_mentions, tree_stmt_mentions}
use Rattle.js_names.proofs.walk.+walk.Given as goal

abbrev pub invariant-put_exprs-loop-e : goal.invariant-put_exprs-loop-e
invariant-put_exprs-loop-e l = Adds l.initial.walk l.walk (flat_map (tree_mentions (scopes_in l.initial.walk) l.around) (take l.e-index l.es))

abbrev pub invariant-put_fields-loop-field : goal.invariant-put_fields-loop-field
invariant-put_fields-loop-field l = Adds l.initial.walk l.walk (flat_map (field_mentions (scopes_in l.initial.walk) l.around) (take l.field-index l.fields))

abbrev pub invariant-put_declarators-loop-declarator : goal.invariant-put_declarators-loop-declarator
invariant-put_declarators-loop-declarator l = Adds l.initial.walk l.walk (flat_map (declarator_mentions (scopes_in l.initial.walk) l.around l.kind) (take l.declarator-index l.declarators))

abbrev pub invariant-put_stmts-loop-stmt : goal.invariant-put_stmts-loop-stmt
invariant-put_stmts-loop-stmt l = Adds l.initial.walk l.walk (flat_map (tree_stmt_mentions (scopes_in l.initial.walk) l.around) (take l.stmt-index l.body))
