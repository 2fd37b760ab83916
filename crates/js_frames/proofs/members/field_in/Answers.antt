use Rattle.std.proofs.Common.{sym, ◌∙◌, arith}
use Rattle.js_value.proofs.Sorted.{field_sorted}
use Rattle.js_frames.proofs.MemberLemmas.{as_found, found_here, found_later, found_never}
use Rattle.js_frames.proofs.members.field_in.Goals as goal

pub value_of_data-requires : goal.value_of_data-requires
value_of_data-requires c = field_sorted c.args.fields.now c.loop-field.field-index c.field-item.result c.loop-field-test.true c.field-item.is c.requires

pub returns-then-same : goal.returns-then-same
returns-then-same c =
    as_found c.value_of_data.result _ _ (sym (found_here c.args.fields.now c.args.key.now c.loop-field.field-index c.field-item.result c.loop-field-test.true c.field-item.is (sym c.same.ensures ∙ c.if-same.true)) ∙ c.loop-field.invariant) c.value_of_data.ensures

pub loop-field-preserved : goal.loop-field-preserved
loop-field-preserved c =
    found_later c.args.fields.now c.args.key.now c.loop-field.field-index c.field-item.result c.loop-field-test.true c.field-item.is (sym c.same.ensures ∙ c.if-same.false) ∙ c.loop-field.invariant

pub returns : goal.returns
returns c = sym (found_never c.args.fields.now c.args.key.now c.loop-field.field-index (omega arith)) ∙ c.loop-field.invariant
