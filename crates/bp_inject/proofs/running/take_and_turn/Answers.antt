use Rattle.std.proofs.Common.{[], ◌∷◌, ◌++◌, ap, ◌∙◌}
use Rattle.bp_inject.proofs.running.take_and_turn.Goals as goal

pub returns-in-Ok : goal.returns-in-Ok
returns-in-Ok g c =
    let before = c.loop.invariant.same in
    let pops = c.in-Ok.ensures.ring in
    record {
      handed = c.in-Ok.feed;
      takes = c.in-Ok.ensures.ok.0 ∙ ap (λ l. l ++ c.in-Ok.feed ∷ []) c.loop.invariant.none;
      same = ((pops.0.0 ∙ before.0.0, pops.0.1 ∙ before.0.1, pops.0.2 ∙ before.0.2, pops.0.3 ∙ before.0.3), pops.1 ∙ before.1);
      on = c.inject-answer.ensures.goes_on;
      over = c.inject-answer.ensures.over;
    }
