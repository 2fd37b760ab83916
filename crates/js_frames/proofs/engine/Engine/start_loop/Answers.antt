use Rattle.std.proofs.Common.{refl, ap, ◌∙◌, subst}
use Rattle.js_meaning.specs.State.{◌>>=◌}
use Rattle.js_meaning.specs.Meaning.{eval}
use Rattle.js_frames.specs.declared.frame.Part.TheVariants.{Started}
use Rattle.js_frames.specs.Places.{plain_ground, place_of, here, state_at}
use Rattle.js_frames.specs.Fits.{IsPerhapsNode}
use Rattle.js_frames.specs.Frames.{rest, resume, loop}
use Rattle.js_frames.proofs.Steps.{wait_leads, moves_ok}
use Rattle.js_frames.proofs.LoopLemmas.{state_undeclared, start_absent, start_there}
use Rattle.js_frames.proofs.engine.Engine.start_loop.Goals as goal

pub returns-in-None : goal.returns-in-None
returns-in-None c =
    let g = here c.args.base.now c.args.self.now in
    let old = place_of c.args.self.now in
    moves_ok (plain_ground c.args.base.now) old (record old { slots = c.undeclare.new.self }) _ _ _ c.test.result refl refl refl refl
    (λ b. ap (loop g c.args.cycle) (state_undeclared old c.undeclare.new.self c.args.slots.now b c.undeclare.ensures) ∙ start_absent g c.args.slots.now c.args.first c.args.cycle (state_at old b) c.in-None.is)
    c.test.ensures

pub returns-in-Some : goal.returns-in-Some
unfolding resume
returns-in-Some c =
    let g = here c.args.base.now c.args.self.now in
    let old = place_of c.args.self.now in
    let mid = record old { slots = c.undeclare.new.self } in
    moves_ok (plain_ground c.args.base.now) old mid _ _ (λ s. eval g c.in-Some.part s >>= rest g (Started c.args.cycle)) c.wait.result refl refl refl refl
    (λ b. ap (λ s. eval g c.in-Some.part s >>= rest g (Started c.args.cycle)) (state_undeclared old c.undeclare.new.self c.args.slots.now b c.undeclare.ensures) ∙ start_there g c.args.slots.now c.args.first c.args.cycle (state_at old b) c.in-Some.part c.in-Some.is)
    (wait_leads (plain_ground c.args.base.now) mid _ _ c.wait.result _ _ c.requires.fits c.wait.ensures c.requires.cycle (subst (IsPerhapsNode (let p = c.args.base.now in p.program)) c.in-Some.is c.requires.first) (λ s. refl))
