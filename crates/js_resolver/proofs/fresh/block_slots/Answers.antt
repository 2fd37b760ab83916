use Rattle.std.proofs.Common.{arith, refl, map, false}
use Rattle.js_tree.specs.Plain.{stmts_of}
use Rattle.js_tree.specs.Views.{plain_stmt}
use Rattle.js_names.specs.Entries.{own_of, own_of_all}
use Rattle.js_resolver.proofs.Freshness.{fresh_more, fresh_none}
use Rattle.js_resolver.proofs.fresh.block_slots.Goals as goal

pub loop-stmt-preserved : goal.loop-stmt-preserved
loop-stmt-preserved c =
    fresh_more c.args.tables.now (λ x. own_of 0 false (plain_stmt x)) (λ xs. own_of_all 0 false (stmts_of (map plain_stmt xs))) c.args.body.now c.loop-stmt.stmt-index c.stmt-item.result c.stmt-item.result
    c.loop-stmt.slots.items c.push_stmt.new.slots.items _ (λ y ys. refl) (omega arith) c.stmt-item.is c.loop-stmt.invariant c.in_ok-push_stmt.ensures

pub returns : goal.returns
returns c =
    fresh_none c.args.tables.now (λ xs. own_of_all 0 false (stmts_of (map plain_stmt xs))) c.args.body.now c.loop-stmt.stmt-index c.loop-stmt.slots.items _ refl (omega arith) c.loop-stmt.invariant
