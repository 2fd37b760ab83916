use Rattle.std.proofs.Common.{◌<◌, ◌+◌, ◌∙◌, ℕ, List, length, map, slice_get, sym, subst, ap, arith, Some, None, Vec, Global, add-one}
use Rattle.std.specs.Borrow.{Bor}
use Rattle.bp_run.specs.Choosing.{Touched as to}
use Rattle.bp_floor.specs.declared.touching.Touch.{Touch}
use Rattle.bp_floor.specs.inner.Reached.{touch_seen}
use Rattle.bp_floor.proofs.Weaving.{Weaves, weaves_start, weaves_moves, weaves_interrupts, weaves_none}
use Rattle.bp_floor.proofs.TransitionLemmas.{first_is, looked_up, weaves_same, pushed_seen}
use Rattle.bp_floor.proofs.going.touches_of.Goals.{in-Some-Moves+in_ok-push-in-Some-Moves, in-Some-Interrupts+in_ok-push-in-Some-Interrupts, in-None}
use Rattle.bp_floor.proofs.going.touches_of.Goals as goal

pub loop-touch-init : goal.loop-touch-init
loop-touch-init c = record { weaves = subst (λ (ts : List Touch). Weaves c.args.reach.now 0 0 0 (map touch_seen ts)) (sym c.new-touches.ensures.items) (weaves_start c.args.reach.now) }

pub loop-touch-preserved : goal.loop-touch-preserved
loop-touch-preserved c =
    let reach = c.args.reach.now in
    let m = c.loop-touch.moved in
    let i = c.loop-touch.interrupted in
    let n = c.loop-touch._touch in
    let done = map touch_seen c.loop-touch.touches.items in
    let a = looked_up (λ (x : Bor ℕ). x.now) _ _ m c.get.ensures.lookup.3 ∙ ap (λ (xs : List ℕ). slice_get xs m) c.deref.ensures.value in
    let b = looked_up (λ (x : Bor ℕ). x.now) _ _ i c.get-in-loop-touch.ensures.lookup.3 ∙ ap (λ (xs : List ℕ). slice_get xs i) c.deref-in-loop-touch.ensures.value in
    let low : n < length reach.moved.items + length reach.interrupted.items =
    (let t = c.loop-touch-test.true in let x = c.len.ensures ∙ reach.moved.ok.0 in let y = c.len-2.ensures ∙ reach.interrupted.ok.0 in omega (arith, t, x, y)) in
    elim c.match-first_touch.branch [
      | in-Some-Moves+in_ok-push-in-Some-Moves w ↦
          let k = w.in-Some-Moves.number in
          let f = first_is (Some (to.Moves k)) _ _ _ _ a b (sym (ap (λ (t : Touch). Some (touch_seen t)) w.in-Some-Moves.field-0-is) ∙ w.in-Some-Moves.ensures) in
          record {
            weaves = weaves_same reach _ _ _ _ _ _ _ _ (w.moved-is ∙ add-one m) w.interrupted-is (add-one n)
                (ap (λ (ts : Vec Touch Global). map touch_seen ts.items) w.touches-is ∙ pushed_seen c.loop-touch.touches.items _ _ (to.Moves k) w.in_ok-push-in-Some-Moves.ensures.items (ap to.Moves w.in-Some-Moves.number-is))
                (weaves_moves reach m i n k done (c.loop-touch.invariant).weaves low f);
          }
      | in-Some-Interrupts+in_ok-push-in-Some-Interrupts w ↦
          let k = w.in-Some-Interrupts.number in
          let f = first_is (Some (to.Interrupts k)) _ _ _ _ a b (sym (ap (λ (t : Touch). Some (touch_seen t)) w.in-Some-Interrupts.field-0-is) ∙ w.in-Some-Interrupts.ensures) in
          record {
            weaves = weaves_same reach _ _ _ _ _ _ _ _ w.moved-is (w.interrupted-is ∙ add-one i) (add-one n)
                (ap (λ (ts : Vec Touch Global). map touch_seen ts.items) w.touches-is ∙ pushed_seen c.loop-touch.touches.items _ _ (to.Interrupts k) w.in_ok-push-in-Some-Interrupts.ensures.items (ap to.Interrupts w.in-Some-Interrupts.number-is))
                (weaves_interrupts reach m i n k done (c.loop-touch.invariant).weaves low f);
          }
      | in-None w ↦
          record {
            weaves = weaves_same reach _ _ _ _ _ _ _ _ w.moved-is w.interrupted-is (add-one n) (ap (λ (ts : Vec Touch Global). map touch_seen ts.items) w.touches-is)
                (weaves_none reach m i n done (c.loop-touch.invariant).weaves low (first_is None _ _ _ _ a b w.in-None.ensures));
          }
    ]
