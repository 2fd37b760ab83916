use Rattle.std.proofs.Common.{Some, refl, sym, ap, ◌∙◌, ◌+◌, arith}
use Rattle.js_value.specs.Views.{plain_value}
use Rattle.js_meaning.specs.Statements.{after_iteration}
use Rattle.js_meaning.specs.Meaning.{eval}
use Rattle.js_frames.specs.declared.frame.Iteration.TheVariants.{OfItems}
use Rattle.js_frames.specs.Places.{plain_ground, place_of, here, state_at}
use Rattle.js_frames.specs.Frames.{again, resume}
use Rattle.js_frames.proofs.Steps.{left, moves_ok, wait_leads}
use Rattle.js_frames.proofs.LoopLemmas.{next_item, no_item}
use Rattle.js_frames.proofs.engine.Engine.each.Goals as goal

pub returns-in_default : goal.returns-in_default
returns-in_default c = left (plain_ground c.args.base.now) (place_of c.args.self.now) _ _ c.leave.ensures c.requires.fits (λ s. no_item (here c.args.base.now c.args.self.now) c.args.slot c.args.body c.args.place c.args.items s (sym c.in_default.ensures.value))

pub overflow_add-place : goal.overflow_add-place
overflow_add-place c = let room = c.in-Some.ensures.room in omega arith

pub returns : goal.returns
unfolding resume again
returns c =
    let base = plain_ground c.args.base.now in
    let old = place_of c.args.self.now in
    let g = here c.args.base.now c.args.self.now in
    let x = plain_value c.in_ok-value.value in
    moves_ok base old (record old { slots = c.set.new.self }) (place_of c.wait.new.self) _ (λ s. after_iteration (eval g c.args.body s) (again g (OfItems c.args.slot c.args.body c.args.items (c.args.place + 1)))) c.wait.result refl refl refl refl
    (λ b. ap (λ slots. after_iteration (eval g c.args.body (record (state_at old b) { slots = slots })) (again g (OfItems c.args.slot c.args.body c.args.items (c.args.place + 1)))) c.set.ensures
    ∙ next_item g c.args.slot c.args.body c.args.place c.args.items x (state_at old b) (sym c.in-Some.ensures.value ∙ ap Some (sym c.in_ok-value.ensures)))
    (wait_leads base (record old { slots = c.set.new.self }) _ _ c.wait.result _ _ c.requires.fits c.wait.ensures c.requires.body c.requires.body (λ s. refl))
