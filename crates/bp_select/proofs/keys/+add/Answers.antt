use Rattle.std.proofs.Common.{◌∙◌, ◌++◌, ◌∷◌, [], ℕ, List, ap, sym, subst, arith}
use Rattle.js_value.specs.Value.{PlainSet}
use Rattle.js_value.specs.Views.{plain_set}
use Rattle.bp_roll.specs.Rolls.{is_in}
use Rattle.bp_sets.proofs.Deciding.{set_below}
use Rattle.bp_roll.specs.Feeding.{event_key}
use Rattle.bp_select.specs.inner.Heeding.{HaveKeysOf}
use Rattle.bp_select.proofs.HeedLemmas.{in_push, keys_any, keys_only}
use Rattle.bp_select.proofs.keys.+add.Goals as goal

pub add_set-returns-in_ok-push-in-Only-clause-set : goal.add_set-returns-in_ok-push-in-Only-clause-set
add_set-returns-in_ok-push-in-Only-clause-set t c = λ yes.
    let f = c.in-Only.event.value in
    let old = c.args.keys.now.items in
    subst (λ (s : PlainSet). HaveKeysOf s c.push.new.self.items) (sym (ap plain_set c.in-Only.is) ∙ c.tree.ensures)
    (keys_only f c.push.new.self.items
    (ap (λ (ks : List ℕ). is_in (event_key f) ks) (c.in_ok-push-in-Only.ensures.items ∙ ap (λ (k : ℕ). old ++ k ∷ []) (c.hash_of.ensures ∙ ap event_key c.deref.ensures)) ∙ in_push (event_key f) old))

pub add_sets-add_set-requires : goal.add_sets-add_set-requires
add_sets-add_set-requires t c =
    let below = set_below c.args.sets.now c.loop-set.set-index c.set-item.result c.loop-set-test.true c.set-item.is in
    search (arith, below)

pub add_sets-returns-clause-set : goal.add_sets-returns-clause-set
add_sets-returns-clause-set t c = λ yes. keys_any c.args.sets.now c.loop-set.keys.items c.loop-set.set-index c.loop-set-test.false c.loop-set.invariant.sets
