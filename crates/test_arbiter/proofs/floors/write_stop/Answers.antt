use Rattle.std.proofs.Common.{◌∙◌, List, Some, None, slice_get, refl, sym, ap, subst}
use Rattle.js_data.specs.Event.{PlainEvent}
use Rattle.bp_select.specs.Answers.{enabled_of}
use Rattle.bp_floor.specs.Floors.{PlainFloor, CanGo}
use Rattle.test_arbiter.proofs.Turning.{among_first}
use Rattle.test_arbiter.proofs.floors.write_stop.Goals as goal

pub stop-requires-clause-can : goal.stop-requires-clause-can
stop-requires-clause-can c = λ w.
    let found = c.in_ok-enabled.enabled in
    let first = c.in-Some.first.now in
    subst (λ (f : PlainFloor). CanGo f first None) (sym c.enabled.ensures.same)
    (record {
      enabled = enabled_of found;
      is_enabled = c.in_ok-enabled.ensures.enabled;
      among = among_first found.inner.items first (Some first) (c.in-Some.ensures.value ∙ ap (λ (xs : List PlainEvent). slice_get xs 0) c.deref.ensures.value) refl;
    })
