use Rattle.std.proofs.Common.{◌≡◌, Option, Ok, Some, map, subst}
use Rattle.std.specs.Prelude.{IfSome}
use Rattle.js_frames.specs.Places.{plain_ground}
use Rattle.bp_draw.specs.Words.{draw_word}
use Rattle.bp_meaning.specs.Membership.{member}
use Rattle.bp_run.specs.Choosing.{choice}
use Rattle.bp_select.specs.declared.tally.Picked.{Picked}
use Rattle.bp_live.specs.Lives.{live_of}
use Rattle.bp_select.specs.inner.Counted.{chosen_as}
use Rattle.bp_select.proofs.TallyLemmas.{picked_as, picked_drawn, picked_some, picked_within}
use Rattle.bp_select.proofs.selecting.choose.Goals as goal

pub returns-in-Some-clause-chosen : goal.returns-in-Some-clause-chosen
returns-in-Some-clause-chosen c =
    let d = c.args.draw.now.drawn in
    let asked = choice (member (plain_ground c.args.ground.now) c.args.budget) (draw_word c.args.draw.now.seed) c.args.strategy (map live_of c.args.live.now) c.args.queue.now d in
    picked_as asked c.args.queue.now d c.into_choice.new.draw.drawn _ _ c.into_choice.result
    (subst (λ (o : Option Picked). IfSome o (λ p. asked ≡ Ok (Some (chosen_as p.event p.draws d)))) c.in-Some.is (c.in_ok-picked.ensures.picked c.args.queue.now)) c.into_choice.ensures.drawn c.into_choice.ensures.event

pub returns-in-Some-clause-drawn : goal.returns-in-Some-clause-drawn
returns-in-Some-clause-drawn c = picked_drawn c.args.draw.now.drawn c.into_choice.new.draw.drawn _ c.into_choice.ensures.drawn

pub returns-in-Some-clause-within : goal.returns-in-Some-clause-within
returns-in-Some-clause-within c = picked_within _ c.into_choice.result _ c.into_choice.ensures.event

pub returns-in-Some-clause-nothing : goal.returns-in-Some-clause-nothing
returns-in-Some-clause-nothing c = λ h. absurd (picked_some c.into_choice.result _ c.into_choice.ensures.event h)
