use Rattle.std.proofs.Common.{◌≤◌, ◌+◌, ◌∙◌, ℕ, List, inl, arith, ap, length, map, slice_index, subst, sym, take, Vec}
use Rattle.std.specs.Borrow.{Bor}
use Rattle.std.specs.declared.alloc.Global.{Global}
use Rattle.std.proofs.lemmas.List.{map_push}
use Rattle.bp_live.specs.declared.stated.Stated.{Stated}
use Rattle.bp_live.specs.Lives.{live_of, lent}
use Rattle.bp_select.specs.inner.Parts.{IsPart}
use Rattle.bp_select.proofs.Finding.{ArePassed, part_last, part_next, passed_step}
use Rattle.bp_select.proofs.picking.part_at.Goals as goal
use Rattle.bp_select.proofs.picking.part_at.Goals.{then-is_between+in_ok-push, else-is_between}

pub loop-place-preserved : goal.loop-place-preserved
loop-place-preserved c =
    let live = c.args.live.now in
    let places = c.args.places.now in
    let j = c.loop-place.place-index in
    let place = slice_index places j in
    let was = c.loop-place.invariant in
    let next = λ (n : ℕ). ArePassed places (j + 1) n (length live) in
    elim c.if-is_between.branch [
      | then-is_between+in_ok-push w ↦
          let between = c.is_between.ensures.yes w.if-is_between.true in
          let a = between.0 in
          let low = between.1 in
          record {
            part = λ p others.
                subst (λ (n : ℕ). IsPart p (map lent c.if-is_between.those.items) (map live_of (take n live))) (sym w.done-is)
                (part_next p live places c.requires others j c.loop-place.done (map lent c.loop-place.those.items) (map lent c.if-is_between.those.items) w.index-live-place.result low a w.index-live-place.is
                (ap (λ (v : Vec (Bor Stated) Global). map lent v.items) w.those-is ∙ ap (λ (xs : List (Bor Stated)). map lent xs) w.in_ok-push.ensures.items ∙ map_push lent c.loop-place.those.items _)
                was.passed (was.part p others));
            passed = subst next (sym w.done-is) (passed_step places (length live) j c.loop-place.done (place + 1) (omega (arith, a)) (inl (omega arith)) was.passed);
            within = subst (λ (n : ℕ). n ≤ length live) (sym w.done-is) (omega (arith, low));
          }
      | else-is_between w ↦
          record {
            part = λ p others.
                subst (λ (n : ℕ). IsPart p (map lent c.if-is_between.those.items) (map live_of (take n live))) (sym w.done-is)
                (subst (λ (v : Vec (Bor Stated) Global). IsPart p (map lent v.items) (map live_of (take c.loop-place.done live))) (sym w.those-is) (was.part p others));
            passed = subst next (sym w.done-is) (passed_step places (length live) j c.loop-place.done c.loop-place.done (omega arith) (c.is_between.ensures.no w.if-is_between.false) was.passed);
            within = subst (λ (n : ℕ). n ≤ length live) (sym w.done-is) was.within;
          }
    ]

pub returns : goal.returns
returns c = λ p others.
    let was = c.loop-place.invariant in
    part_last p c.args.live.now c.args.places.now c.requires others c.loop-place.place-index c.loop-place.done (map lent c.loop-place.those.items) c.loop-place-test.false was.within was.passed (was.part p others)
