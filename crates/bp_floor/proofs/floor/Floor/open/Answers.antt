use Rattle.std.proofs.Common.{◌∙◌, ◌++◌, ◌∷◌, [], List, ap, sym, refl}
use Rattle.js_meaning.specs.Bodies.{Origin, bare}
use Rattle.js_meaning.specs.State.{Ground}
use Rattle.bp_run.specs.Settling.{Entry}
use Rattle.bp_run.specs.Settling.Entry.{The_top}
use Rattle.bp_floor.proofs.Sound.{sound_opened}
use Rattle.bp_floor.proofs.floor.Floor.open.Goals as goal

pub invariant_of-result : goal.invariant_of-result
invariant_of-result c = λ _.
    sound_opened _ _ _ refl
    (c.bare-ground.ensures ∙ ap (λ (g : Ground). bare g.program) (sym c.bare-ground.ensures))
    c.new-seats.ensures c.new-desk.ensures.empty c.new-desk.ensures.queue refl refl refl
    (c.in_ok-push.ensures ∙ ap (λ (ns : List (Entry Origin)). ns ++ The_top ∷ []) c.new-wave.ensures)
    (c.new-desk.ensures.fits _ _)
