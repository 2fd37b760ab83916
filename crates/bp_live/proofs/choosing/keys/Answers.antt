use Rattle.std.specs.List.{list_any}
use Rattle.js_data.specs.Event.{same_event}
use Rattle.bp_live.specs.Candidates.{event_of, events_in, is_among}
use Rattle.bp_roll.specs.declared.key.Key.{Key}
use Rattle.bp_live.proofs.Firsts.{among_more, keys_step, keys_last}
use Rattle.bp_live.proofs.choosing.keys.Goals as goal

pub loop-candidate-preserved : goal.loop-candidate-preserved
loop-candidate-preserved c = λ e.
    keys_step event_of c.args.candidates.now c.loop-candidate.candidate-index c.candidate-item.result e (is_among c.loop-candidate.events e) (is_among c.insert.new.self e) (list_any (same_event e) (events_in c.args.candidates.now))
    c.loop-candidate-test.true c.candidate-item.is
    (among_more (λ (k : Key). k.event.now) c.loop-candidate.events.keys c.insert.new.self.keys _ e c.in_ok-insert.ensures.keys) (c.loop-candidate.invariant e)

pub returns : goal.returns
returns c = λ e.
    keys_last event_of c.args.candidates.now c.loop-candidate.candidate-index e (is_among c.loop-candidate.events e) (list_any (same_event e) (events_in c.args.candidates.now)) c.loop-candidate-test.false (c.loop-candidate.invariant e)
