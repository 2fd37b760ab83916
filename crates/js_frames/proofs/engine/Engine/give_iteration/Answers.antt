use Rattle.std.proofs.Common.{sym, ap}
use Rattle.js_meaning.specs.State.{went}
use Rattle.js_frames.specs.declared.frame.Frame.TheVariants.{Iterating}
use Rattle.js_frames.specs.Places.{plain_ground, here}
use Rattle.js_frames.specs.Frames.{plain_completion, again, resume}
use Rattle.js_frames.proofs.Steps.{means_ok, completes, left, iterates_on}
use Rattle.js_frames.proofs.engine.Engine.give_iteration.Goals as goal

pub returns-in-Normal : goal.returns-in-Normal
unfolding resume
returns-in-Normal c =
    let g = here c.args.base.now c.args.self.now in
    means_ok (plain_ground c.args.base.now) _ _ _ _ c.iterate_again.result c.iterate_again.ensures (λ s. iterates_on c.args.completion (again g c.args.iteration) s c.in-Normal.is)

pub returns-in-Broke : goal.returns-in-Broke
unfolding resume
returns-in-Broke c =
    let g = here c.args.base.now c.args.self.now in
    left (plain_ground c.args.base.now) _ _ _ c.leave.ensures c.requires.fits (λ s. ap (λ q. resume g (Iterating c.args.iteration) (went (plain_completion q) s)) (sym c.in-Broke.is))

pub returns-in-Returned : goal.returns-in-Returned
unfolding resume
returns-in-Returned c =
    let g = here c.args.base.now c.args.self.now in
    completes (plain_ground c.args.base.now) _ _ _ c.requires.fits (λ s. ap (λ q. resume g (Iterating c.args.iteration) (went (plain_completion q) s)) (sym c.in-Returned.is))
