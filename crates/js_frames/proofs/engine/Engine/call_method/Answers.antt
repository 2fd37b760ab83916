use Rattle.std.proofs.Common.{sym, ap}
use Rattle.js_value.specs.Views.{plain_value}
use Rattle.js_meaning.specs.Calls.{calls_method}
use Rattle.js_meaning.specs.Meaning.{eval}
use Rattle.js_ops.specs.Members.{field_or_undefined}
use Rattle.js_frames.specs.Places.{plain_ground, here}
use Rattle.js_frames.proofs.Steps.{means_ok}
use Rattle.js_frames.proofs.CallLemmas.{no_method_call}
use Rattle.js_frames.proofs.engine.Engine.call_method.Goals as goal

pub returns-in-Fields : goal.returns-in-Fields
returns-in-Fields c =
    let g = here c.args.base.now c.args.self.now in
    means_ok (plain_ground c.args.base.now) _ _ _ _ c.call_field.result (c.call_field.ensures (field_or_undefined c.in-Fields.fields c.args.word.now) c.member-field.ensures)
    (λ s. ap (λ x. calls_method g (eval g) c.args.line c.args.word.now (plain_value x) c.args.args s) (sym c.in-Fields.is))

pub returns-in-List : goal.returns-in-List
returns-in-List c =
    let g = here c.args.base.now c.args.self.now in
    means_ok (plain_ground c.args.base.now) _ _ _ _ c.call_on_list.result c.call_on_list.ensures
    (λ s. ap (λ x. calls_method g (eval g) c.args.line c.args.word.now (plain_value x) c.args.args s) (sym c.in-List.is))

pub returns-in_default : goal.returns-in_default
returns-in_default c =
    let g = here c.args.base.now c.args.self.now in
    means_ok (plain_ground c.args.base.now) _ _ _ _ c.apply_method.result c.apply_method.ensures
    (λ s. no_method_call g (eval g) c.args.line c.args.word.now c.args.on c.args.args s c.in_default.not-Fields c.in_default.not-List)

pub call_field-requires : goal.call_field-requires
call_field-requires c = c.requires

pub call_on_list-requires : goal.call_on_list-requires
call_on_list-requires c = c.requires

pub apply_method-requires : goal.apply_method-requires
apply_method-requires c = c.requires
