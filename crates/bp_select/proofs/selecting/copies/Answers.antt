use Rattle.std.proofs.Common.{◌∙◌, ◌++◌, ◌∷◌, [], ap}
use Rattle.js_data.specs.Event.{PlainEvent}
use Rattle.bp_live.specs.Candidates.{event_of, events_in}
use Rattle.bp_live.proofs.Firsts.{copies_step, copies_last}
use Rattle.bp_select.proofs.selecting.copies.Goals as goal

pub loop-candidate-preserved : goal.loop-candidate-preserved
loop-candidate-preserved c =
    copies_step event_of c.args.candidates.now c.loop-candidate.candidate-index c.candidate-item.result c.loop-candidate.events.items c.push.new.self.items (events_in c.args.candidates.now)
    c.loop-candidate-test.true c.candidate-item.is
    (c.in_ok-push.ensures.items ∙ ap (λ (e : PlainEvent). c.loop-candidate.events.items ++ e ∷ []) c.in_ok-copy.ensures) c.loop-candidate.invariant

pub returns : goal.returns
returns c =
    copies_last event_of c.args.candidates.now c.loop-candidate.candidate-index c.loop-candidate.events.items (events_in c.args.candidates.now) c.loop-candidate-test.false c.loop-candidate.invariant
