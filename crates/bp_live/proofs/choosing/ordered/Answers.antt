use Rattle.std.proofs.Common.{◌∙◌, filter, map}
use Rattle.std.specs.List.{list_any}
use Rattle.js_data.specs.Event.{PlainEvent}
use Rattle.bp_run.specs.Choosing.{is_first_of}
use Rattle.bp_live.specs.Lives.{lent}
use Rattle.bp_live.specs.Candidates.{event_of, events_in, is_among}
use Rattle.bp_live.specs.declared.candidate.Candidate.{Candidate}
use Rattle.bp_live.proofs.Firsts.{firsts_of, kept_step, kept_last}
use Rattle.bp_live.proofs.TopLemmas.{tops_step}
use Rattle.bp_live.proofs.choosing.ordered.Goals as goal

pub loop-candidate-preserved : goal.loop-candidate-preserved
loop-candidate-preserved c =
    let events = events_in c.args.inner.now in
    let ts = map lent c.args.asking.now in
    let x = c.candidate-item.result in
    let p = λ (e : PlainEvent). list_any (is_first_of events e) ts in
    record {
      events =
          kept_step event_of p c.args.inner.now c.loop-candidate.candidate-index x c.loop-candidate.kept.items c.keep_if.new.kept.items (filter p events) c.contains-first.result c.loop-candidate-test.true c.candidate-item.is
          (c.contains-first.ensures ∙ c.in_ok-firsts.ensures (event_of x) ∙ firsts_of events (is_among c.in_ok-events.events) ts (event_of x) c.in_ok-events.ensures)
          c.in_ok-keep_if.ensures.kept c.loop-candidate.invariant.events;
      tops = λ us h.
          tops_step event_of (λ (y : Candidate). y.top) us c.args.inner.now c.loop-candidate.candidate-index x c.loop-candidate.kept.items c.keep_if.new.kept.items
          c.contains-first.result c.loop-candidate-test.true c.candidate-item.is c.in_ok-keep_if.ensures.kept h (c.loop-candidate.invariant.tops us h);
    }

pub returns-clause-events : goal.returns-clause-events
returns-clause-events c =
    kept_last event_of (λ (e : PlainEvent). list_any (is_first_of (events_in c.args.inner.now) e) (map lent c.args.asking.now)) c.args.inner.now c.loop-candidate.candidate-index c.loop-candidate.kept.items
    c.loop-candidate-test.false c.loop-candidate.invariant.events
