use Rattle.std.proofs.Common.{codes}
use Rattle.std.specs.Str.{bytes_eq}
use Rattle.js_value.specs.Value as v
use Rattle.js_ops.specs.Methods.{method_named}
use Rattle.js_meaning.specs.Calls.{applies, for_each_call}
use Rattle.js_meaning.specs.Meaning.{eval}
use Rattle.js_frames.specs.Places.{plain_ground, here}
use Rattle.js_frames.proofs.Steps.{means_ok, if_true, if_false}
use Rattle.js_frames.proofs.engine.Engine.call_on_list.Goals as goal

pub returns-then-is_for_each : goal.returns-then-is_for_each
returns-then-is_for_each c =
    let g = here c.args.base.now c.args.self.now in
    means_ok (plain_ground c.args.base.now) _ _ _ _ c.for_each.result c.for_each.ensures
    (λ s. if_true (bytes_eq c.args.word.now (codes "forEach")) (for_each_call g (eval g) c.args.line c.args.items c.args.args) (applies c.args.line (method_named c.args.word.now) (v.list c.args.items) c.args.args) s c.if-is_for_each.ensures)

pub returns-else-is_for_each : goal.returns-else-is_for_each
returns-else-is_for_each c =
    let g = here c.args.base.now c.args.self.now in
    means_ok (plain_ground c.args.base.now) _ _ _ _ c.apply_method.result c.apply_method.ensures
    (λ s. if_false (bytes_eq c.args.word.now (codes "forEach")) (for_each_call g (eval g) c.args.line c.args.items c.args.args) (applies c.args.line (method_named c.args.word.now) (v.list c.args.items) c.args.args) s c.if-is_for_each.ensures)

pub for_each-requires : goal.for_each-requires
for_each-requires c = c.requires

pub apply_method-requires : goal.apply_method-requires
apply_method-requires c = c.requires
