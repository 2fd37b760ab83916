use Rattle.std.proofs.Common.{◌<◌, ◌∙◌, ap, sym, subst, map, length, IfSome}
use Rattle.std.specs.Arc.{arc_value}
use Rattle.js_data.specs.Event.{PlainEvent}
use Rattle.js_meaning.specs.Bodies.{Origin}
use Rattle.js_frames.specs.Places.{plain_ground}
use Rattle.bp_run.specs.Settling.{Pair}
use Rattle.bp_floor.specs.declared.going.Outlook.{Outlook}
use Rattle.bp_floor.specs.declared.going.Outlook.TheVariants.{Reaches}
use Rattle.bp_floor.specs.Floors.{IsMoved}
use Rattle.bp_floor.specs.inner.Reached.{touch_seen}
use Rattle.bp_floor.specs.inner.Transition.{LooksAs, floor_on}
use Rattle.bp_floor.proofs.Gone.{place_there, few_transitions}
use Rattle.bp_floor.proofs.TransitionLemmas.{can, moved}
use Rattle.bp_floor.proofs.board.Board.go.Goals as goal

pub entries-requires : goal.entries-requires
entries-requires c =
    let base = plain_ground c.args.ground.now in
    let q = subst (λ (x : Outlook). LooksAs (floor_on base c.args.options c.args.self.now) c.args.event.now x) c.in-Reaches.is c.in_ok-verdict.ensures.looks in
    (can base c.args.options c.args.self.now c.look.new.self c.args.event.now (map touch_seen c.as_slice.result.now) c.in-Reaches.reach c.in-Reaches.weight c.look.ensures.resting c.look.ensures.same q
    (λ xs h r. ap (map touch_seen) c.as_slice.ensures.value ∙ c.in_ok-touches-in-Reaches.ensures xs h r)).standing

pub step-requires-clause-there : goal.step-requires-clause-there
step-requires-clause-there c =
    subst (λ (p : Pair Origin). IfSome c.args.place (λ i. i < length p.stand.queue)) (sym c.look.ensures.same)
    (place_there (plain_ground c.args.ground.now) c.args.options c.args.self.now c.args.event.now c.args.place c.requires.can)

pub step-requires-clause-few : goal.step-requires-clause-few
step-requires-clause-few c = few_transitions (plain_ground c.args.ground.now) c.args.options c.look.new.self c.look.ensures.resting

pub step-requires-clause-can : goal.step-requires-clause-can
step-requires-clause-can c =
    let base = plain_ground c.args.ground.now in
    let q = subst (λ (x : Outlook). LooksAs (floor_on base c.args.options c.args.self.now) c.args.event.now x) c.in-Reaches.is c.in_ok-verdict.ensures.looks in (
      record { program = base.program; options = c.args.options },
      can base c.args.options c.args.self.now c.look.new.self c.args.event.now (map touch_seen c.as_slice-in-Reaches.result.now) c.in-Reaches.reach c.in-Reaches.weight c.look.ensures.resting c.look.ensures.same q
          (λ xs h r. ap (map touch_seen) c.as_slice-in-Reaches.ensures.value ∙ c.in_ok-touches-in-Reaches.ensures xs h r),
    )

pub returns-in_ok-step-in-Reaches-clause-goes : goal.returns-in_ok-step-in-Reaches-clause-goes
returns-in_ok-step-in-Reaches-clause-goes c =
    let base = plain_ground c.args.ground.now in
    let looks = subst (λ (x : Outlook). LooksAs (floor_on base c.args.options c.args.self.now) c.args.event.now x) c.in-Reaches.is c.in_ok-verdict.ensures.looks in
    let q = subst (λ (e : PlainEvent). LooksAs (floor_on base c.args.options c.args.self.now) e (Reaches c.in-Reaches.reach c.in-Reaches.weight)) (sym c.in_ok-shared-in-Reaches.ensures) looks in
    let same = ap (map touch_seen) (c.as_slice.ensures.value ∙ sym c.as_slice-in-Reaches.ensures.value) in
    subst (λ (e : PlainEvent). IsMoved (floor_on base c.args.options c.args.self.now) e c.args.place (floor_on base c.args.options c.step.new.self)) c.in_ok-shared-in-Reaches.ensures
    (moved base c.args.options c.args.self.now c.look.new.self (arc_value c.in_ok-shared-in-Reaches.shared) (map touch_seen c.as_slice-in-Reaches.result.now) c.in-Reaches.reach c.in-Reaches.weight c.look.ensures.resting c.look.ensures.same q
    (λ xs h r. ap (map touch_seen) c.as_slice-in-Reaches.ensures.value ∙ c.in_ok-touches-in-Reaches.ensures xs h r) c.step.new.self c.args.place c.in_ok-wave-in-Reaches.wave
    (λ r s own threads. c.in_ok-wave-in-Reaches.ensures r s own threads ∙ ap (map _) same) c.in_ok-step-in-Reaches.ensures.stepped c.in_ok-step-in-Reaches.ensures.kept).0

pub returns-in_ok-step-in-Reaches-clause-sound : goal.returns-in_ok-step-in-Reaches-clause-sound
returns-in_ok-step-in-Reaches-clause-sound c =
    let base = plain_ground c.args.ground.now in
    let looks = subst (λ (x : Outlook). LooksAs (floor_on base c.args.options c.args.self.now) c.args.event.now x) c.in-Reaches.is c.in_ok-verdict.ensures.looks in
    let q = subst (λ (e : PlainEvent). LooksAs (floor_on base c.args.options c.args.self.now) e (Reaches c.in-Reaches.reach c.in-Reaches.weight)) (sym c.in_ok-shared-in-Reaches.ensures) looks in
    let same = ap (map touch_seen) (c.as_slice.ensures.value ∙ sym c.as_slice-in-Reaches.ensures.value) in
    (moved base c.args.options c.args.self.now c.look.new.self (arc_value c.in_ok-shared-in-Reaches.shared) (map touch_seen c.as_slice-in-Reaches.result.now) c.in-Reaches.reach c.in-Reaches.weight c.look.ensures.resting c.look.ensures.same q
    (λ xs h r. ap (map touch_seen) c.as_slice-in-Reaches.ensures.value ∙ c.in_ok-touches-in-Reaches.ensures xs h r) c.step.new.self c.args.place c.in_ok-wave-in-Reaches.wave
    (λ r s own threads. c.in_ok-wave-in-Reaches.ensures r s own threads ∙ ap (map _) same) c.in_ok-step-in-Reaches.ensures.stepped c.in_ok-step-in-Reaches.ensures.kept).1
