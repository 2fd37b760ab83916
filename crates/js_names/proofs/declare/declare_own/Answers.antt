use Rattle.js_names.proofs.Taking.{own_inserted}
use Rattle.js_names.proofs.declare.declare_own.Goals as goal

pub returns-in_ok-insert : goal.returns-in_ok-insert
returns-in_ok-insert c =
    own_inserted c.args.map.now c.insert.new.self c.in_ok-from_str.field-0 c.as_str-text.result.now c.args.name.now.text c.args.declared c.contains_key.result
    c.in_ok-from_str.ensures.ok c.as_str-text.ensures c.contains_key.ensures c.if-not-contains_key.true c.in_ok-insert.ensures.updates
