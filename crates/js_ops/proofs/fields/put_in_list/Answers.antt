use Rattle.std.proofs.Common.{◌≡◌, rules}
use Rattle.std.specs.Arc.{arc_value}
use Rattle.std.specs.Ordering.{nat_cmp}
use Rattle.std.specs.Cmp.Lexicographic.{slice_cmp}
use Rattle.std.proofs.lemmas.Fn.{always_returns_same}
use Rattle.js_ops.proofs.Listing.{put_over, put_between}
use Rattle.js_ops.proofs.fields.put_in_list.Goals as goal

pub returns-in-Ok-clause-keys : goal.returns-in-Ok-clause-keys
returns-in-Ok-clause-keys c =
    let k = arc_value c.args.key.now in
    let facts = c.in-Ok.ensures in
    let at = facts.position (λ field. slice_cmp nat_cmp field.0.value k) (always_returns_same _ _ _ (λ a r f called. search rules)) in
    (put_over c.args.fields.now.items c.deref.result.now k c.args.value c.in-Ok.place c.index_mut.result.now c.requires c.deref.ensures.value facts.bound at c.index_mut.ensures.value).1

pub returns-in-Ok-clause-fields : goal.returns-in-Ok-clause-fields
returns-in-Ok-clause-fields c =
    let k = arc_value c.args.key.now in
    let facts = c.in-Ok.ensures in
    let at = facts.position (λ field. slice_cmp nat_cmp field.0.value k) (always_returns_same _ _ _ (λ a r f called. search rules)) in
    (put_over c.args.fields.now.items c.deref.result.now k c.args.value c.in-Ok.place c.index_mut.result.now c.requires c.deref.ensures.value facts.bound at c.index_mut.ensures.value).0

pub returns-in_ok-insert-in-Err-clause-keys : goal.returns-in_ok-insert-in-Err-clause-keys
returns-in_ok-insert-in-Err-clause-keys c =
    let k = arc_value c.args.key.now in
    let facts = c.in-Err.ensures in
    let parted = facts.position (λ field. slice_cmp nat_cmp field.0.value k) (always_returns_same _ _ _ (λ a r f called. search rules)) in
    let shared = c.in_ok-clone-in-Err.field-0 in
    let same : arc_value shared ≡ k = search rules in
    (put_between c.args.fields.now.items c.deref.result.now _ k (shared, c.args.value) c.in-Err.place c.requires c.deref.ensures.value facts.bound parted same c.in_ok-insert-in-Err.ensures.items).1

pub returns-in_ok-insert-in-Err-clause-fields : goal.returns-in_ok-insert-in-Err-clause-fields
returns-in_ok-insert-in-Err-clause-fields c =
    let k = arc_value c.args.key.now in
    let facts = c.in-Err.ensures in
    let parted = facts.position (λ field. slice_cmp nat_cmp field.0.value k) (always_returns_same _ _ _ (λ a r f called. search rules)) in
    let shared = c.in_ok-clone-in-Err.field-0 in
    let same : arc_value shared ≡ k = search rules in
    (put_between c.args.fields.now.items c.deref.result.now _ k (shared, c.args.value) c.in-Err.place c.requires c.deref.ensures.value facts.bound parted same c.in_ok-insert-in-Err.ensures.items).0
