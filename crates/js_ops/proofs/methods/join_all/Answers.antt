use Rattle.std.proofs.Common.{◌≤◌, ◌++◌, map, flat_map, length, length-append, arith}
use Rattle.std.proofs.lemmas.List.{length-map}
use Rattle.js_value.specs.Views.{plain_value}
use Rattle.js_ops.specs.Methods.{joined}
use Rattle.js_ops.proofs.Weights.{too_many}
use Rattle.js_ops.proofs.methods.join_all.Goals as goal

pub returns-then-count-ge-MOST_WEIGHT : goal.returns-then-count-ge-MOST_WEIGHT
returns-then-count-ge-MOST_WEIGHT c =
    let items = map plain_value c.args.items.now in
    let more = flat_map joined (map plain_value c.args.args.now) in
    let long : 65_536 ≤ length (items ++ more) = grind (arith, length-append items more, length-map c.args.items.now plain_value) in
    too_many (items ++ more) long
