use Rattle.std.proofs.Common.{take}
use Rattle.std.specs.List.{flat_map}
use Rattle.js_names.specs.Taken.{TakesOwn, own_of_stmt}
use Rattle.js_names.proofs.declare.declare_own_stmts.Given as goal

abbrev pub invariant-loop-stmt : goal.invariant-loop-stmt
invariant-loop-stmt l = TakesOwn l.initial.map l.map (flat_map (own_of_stmt l.owner l.direct) (take l.stmt-index l.body))
