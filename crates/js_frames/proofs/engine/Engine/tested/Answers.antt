use Rattle.js_value.specs.Value.{is_truthy}
use Rattle.js_value.specs.Views.{plain_value}
use Rattle.js_meaning.specs.State.{leaves}
use Rattle.js_meaning.specs.Statements.{after_iteration}
use Rattle.js_meaning.specs.Meaning.{eval}
use Rattle.js_frames.specs.declared.frame.Iteration.TheVariants.{OfLoop}
use Rattle.js_frames.specs.Places.{plain_ground, here}
use Rattle.js_frames.specs.Frames.{rest, again}
use Rattle.js_frames.proofs.Steps.{means_ok, left, if_true, if_false}
use Rattle.js_frames.proofs.engine.Engine.tested.Goals as goal

pub returns-then-truthy : goal.returns-then-truthy
unfolding rest again
returns-then-truthy c =
    let g = here c.args.base.now c.args.self.now in
    means_ok (plain_ground c.args.base.now) _ _ _ _ c.iteration.result c.iteration.ensures (λ s. if_true (is_truthy (plain_value c.args.value)) (λ now. after_iteration (eval g (let t = c.args.cycle in t.body) now) (again g (OfLoop c.args.cycle))) leaves s c.if-truthy.ensures)

pub returns : goal.returns
unfolding rest again
returns c =
    let g = here c.args.base.now c.args.self.now in
    left (plain_ground c.args.base.now) _ _ _ c.leave.ensures c.requires.fits (λ s. if_false (is_truthy (plain_value c.args.value)) (λ now. after_iteration (eval g (let t = c.args.cycle in t.body) now) (again g (OfLoop c.args.cycle))) leaves s c.if-truthy.ensures)
