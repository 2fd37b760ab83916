use Rattle.std.proofs.Common.{◌≡◌, List, Ok, Some, map, subst, sym}
use Rattle.std.specs.Prelude.{IfOk, IfSome}
use Rattle.js_data.specs.Event.{PlainEvent}
use Rattle.js_frames.specs.Places.{plain_ground}
use Rattle.bp_draw.specs.Words.{draw_word}
use Rattle.bp_log.specs.declared.options.Strategy.{Strategy}
use Rattle.bp_meaning.specs.Membership.{member}
use Rattle.bp_run.specs.Choosing.{choice}
use Rattle.bp_live.specs.Lives.{live_of}
use Rattle.bp_select.specs.inner.Counted.{chosen_as}
use Rattle.bp_select.proofs.tally.quick.Goals as goal

pub returns-in-Simple-clause-picked : goal.returns-in-Simple-clause-picked
returns-in-Simple-clause-picked c =
    subst
    (λ (s : Strategy). (queue : List PlainEvent) →
    IfOk c.pick.result (λ o. IfSome o (λ p. choice (member (plain_ground c.args.ground.now) c.args.budget) (draw_word c.args.draw.now.seed) s (map live_of c.args.live.now) queue c.args.draw.now.drawn ≡ Ok (Some (chosen_as p.event p.draws c.args.draw.now.drawn)))))
    (sym c.in-Simple.is) c.pick.ensures.picked

pub pick-requires-clause-ready : goal.pick-requires-clause-ready
pick-requires-clause-ready c = record { settled = c.requires.settled; noted = c.in_ok-many.ensures.settled c.if-not-many.false }

pub returns-in-Simple-clause-settled : goal.returns-in-Simple-clause-settled
returns-in-Simple-clause-settled c = c.pick.ensures.ready.settled
