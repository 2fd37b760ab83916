use Rattle.std.proofs.Common.{arith, sym}
use Rattle.js_value.proofs.Converted.{values_done, value_fields_done}
use Rattle.js_value.proofs.Below.{item_below, data_field_below}
use Rattle.js_value.proofs.Sorted.{sorted_keys, item_sorted, field_sorted}
use Rattle.js_value.proofs.data.+value_of.Goals as goal

pub values_of_data-returns : goal.values_of_data-returns
values_of_data-returns t c =
    rw (sym c.deref-item-items.ensures.value) (values_done c.loop-item.values.items c.deref-item-items.result.now c.loop-item.item-index (omega arith) c.loop-item.invariant)

pub fields_of_data-returns-clause-fields : goal.fields_of_data-returns-clause-fields
fields_of_data-returns-clause-fields t c =
    rw (sym c.deref-field-items.ensures.value) (value_fields_done c.loop-field.values.items c.deref-field-items.result.now c.loop-field.field-index (omega arith) c.loop-field.invariant)

pub fields_of_data-returns-clause-keys : goal.fields_of_data-returns-clause-keys
fields_of_data-returns-clause-keys t c =
    sorted_keys _ _ c.requires (rw (sym c.deref-field-items.ensures.value) (value_fields_done c.loop-field.values.items c.deref-field-items.result.now c.loop-field.field-index (omega arith) c.loop-field.invariant))

pub values_of_data-value_of_data-requires : goal.values_of_data-value_of_data-requires
values_of_data-value_of_data-requires t c =
    let sorted = item_sorted c.deref-item-items.result.now c.loop-item.item-index c.item-item.result c.loop-item-test.true c.item-item.is (rw c.deref-item-items.ensures.value c.requires) in
    let below = rw c.deref-item-items.ensures.value at (item_below c.deref-item-items.result.now c.loop-item.item-index c.item-item.result c.loop-item-test.true c.item-item.is) in
    (search (arith, below), sorted)

pub fields_of_data-value_of_data-requires : goal.fields_of_data-value_of_data-requires
fields_of_data-value_of_data-requires t c =
    let sorted = field_sorted c.deref-field-items.result.now c.loop-field.field-index c.field-item.result c.loop-field-test.true c.field-item.is (rw c.deref-field-items.ensures.value c.requires) in
    let below = rw c.deref-field-items.ensures.value at (data_field_below c.deref-field-items.result.now c.loop-field.field-index c.field-item.result c.loop-field-test.true c.field-item.is) in
    (search (arith, below), sorted)
