use Rattle.std.proofs.Common.{rules}
use Rattle.std.specs.Ordering.{nat_cmp}
use Rattle.std.specs.Cmp.Lexicographic.{slice_cmp}
use Rattle.std.proofs.lemmas.Fn.{always_returns_same}
use Rattle.js_value.proofs.Finding.{found_at, not_found}
use Rattle.js_value.proofs.value.Pairs.get.Goals as goal

pub returns-in-Ok : goal.returns-in-Ok
returns-in-Ok c =
    let facts = c.in-Ok.ensures in
    let at = facts.position (λ field. slice_cmp nat_cmp field.0.value c.args.key.now) (always_returns_same _ _ _ (λ a r f called. search rules)) in
    let found = found_at c.as_slice-fields.result.now c.args.key.now c.in-Ok.place c.index-fields-place.result (rw c.as_slice-fields.ensures c.keeps.ensures) facts.bound at in
    rw (← c.as_slice-fields.ensures) found

pub returns-in-Err : goal.returns-in-Err
returns-in-Err c =
    let facts = c.in-Err.ensures in
    let parted = facts.position (λ field. slice_cmp nat_cmp field.0.value c.args.key.now) (always_returns_same _ _ _ (λ a r f called. search rules)) in
    let none = not_found c.as_slice-fields.result.now c.args.key.now c.in-Err.field-0 (rw c.as_slice-fields.ensures c.keeps.ensures) parted in
    rw (← c.as_slice-fields.ensures) none
