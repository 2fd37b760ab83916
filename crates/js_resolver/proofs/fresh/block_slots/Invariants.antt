use Rattle.std.proofs.Common.{◌≡◌, ◌++◌, map, drop, false}
use Rattle.js_tree.specs.Plain.{stmts_of}
use Rattle.js_tree.specs.Views.{plain_stmt}
use Rattle.js_names.specs.Entries.{own_of_all}
use Rattle.js_resolver.specs.NodeForms.{fresh}
use Rattle.js_resolver.proofs.fresh.block_slots.Given as goal

abbrev pub invariant-loop-stmt : goal.invariant-loop-stmt
invariant-loop-stmt l =
    l.slots.items ++ fresh l.tables (own_of_all 0 false (stmts_of (map plain_stmt (drop l.stmt-index l.body)))) ≡ fresh l.tables (own_of_all 0 false (stmts_of (map plain_stmt l.body)))
