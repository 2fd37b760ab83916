use Rattle.std.proofs.Common.{arith, refl, map, false}
use Rattle.js_tree.specs.Plain.{declarators_of}
use Rattle.js_tree.specs.Views.{plain_declarator}
use Rattle.js_names.specs.Entries.{own_declarators}
use Rattle.js_names.specs.Taken.{own_of_declarator}
use Rattle.js_resolver.proofs.Freshness.{fresh_more, fresh_none}
use Rattle.js_resolver.proofs.fresh.push_declarators.Goals as goal

pub loop-declarator-preserved : goal.loop-declarator-preserved
loop-declarator-preserved c =
    fresh_more c.args.tables.now (own_of_declarator 0 false c.args.kind) (λ ds. own_declarators 0 false c.args.kind (declarators_of (map plain_declarator ds))) c.args.declarators.now c.loop-declarator.declarator-index
    c.declarator-item.result c.declarator-item.result c.loop-declarator.slots.items c.push_declarator.new.slots.items _ (λ y ys. refl) (omega arith) c.declarator-item.is c.loop-declarator.invariant c.in_ok-push_declarator.ensures

pub returns : goal.returns
returns c =
    fresh_none c.args.tables.now (λ ds. own_declarators 0 false c.args.kind (declarators_of (map plain_declarator ds))) c.args.declarators.now c.loop-declarator.declarator-index c.loop-declarator.slots.items _ refl (omega arith) c.loop-declarator.invariant
