use Rattle.std.proofs.Common.{◌∙◌, ◌++◌, ◌∷◌, [], ap, map, arith}
use Rattle.std.specs.Arc.{arc_value}
use Rattle.std.proofs.lemmas.List.{map-append}
use Rattle.js_resolver.proofs.Loops.{keys_more, keys_done}
use Rattle.js_resolver.proofs.emit.keys_of.Goals as goal

pub loop-field-preserved : goal.loop-field-preserved
loop-field-preserved c =
    let so_far = map arc_value c.loop-field.keys.items in
    keys_more c.args.fields.now c.loop-field.field-index c.field-item.result c.field-item.result so_far (map arc_value c.push.new.self.items) _ (omega arith) c.field-item.is c.loop-field.invariant
    (ap (map arc_value) c.in_ok-push.ensures.items ∙ map-append arc_value c.loop-field.keys.items (c.in_ok-key.key ∷ []) ∙ ap (λ z. so_far ++ z ∷ []) c.in_ok-key.ensures)

pub returns : goal.returns
returns c = keys_done c.args.fields.now c.loop-field.field-index (map arc_value c.loop-field.keys.items) _ (omega arith) c.loop-field.invariant
