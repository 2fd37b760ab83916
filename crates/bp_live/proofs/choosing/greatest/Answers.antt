use Rattle.std.proofs.Common.{◌∙◌, ℤ, Option, filter, ap, sym, Some, w64, SFits, to_z-of_z, rules}
use Rattle.bp_run.specs.Choosing.{at_most, is_greatest, priority_of}
use Rattle.bp_live.specs.Candidates.{event_of, events_in}
use Rattle.bp_live.specs.declared.candidate.Candidate.{Candidate}
use Rattle.bp_live.proofs.Firsts.{kept_step, kept_last}
use Rattle.bp_live.proofs.TopLemmas.{tops_get, tops_step}
use Rattle.bp_live.proofs.choosing.greatest.Goals as goal

pub loop-candidate-preserved : goal.loop-candidate-preserved
loop-candidate-preserved c =
    let x = c.candidate-item.result in
    let i = c.loop-candidate.candidate-index in
    let events = events_in c.args.inner.now in
    let fits : SFits w64 x.top = search rules in
    record {
      events = λ ts h.
          kept_step event_of (is_greatest ts events) c.args.inner.now i x c.loop-candidate.kept.items c.keep_if.new.kept.items (filter (is_greatest ts events) events) c.at_most-reaches.result c.loop-candidate-test.true c.candidate-item.is
          (c.at_most-reaches.ensures
          ∙ ap (λ (z : ℤ). at_most c.top_of-top.result (Some z)) (to_z-of_z fits)
          ∙ ap (λ (o : Option ℤ). at_most c.top_of-top.result o) (sym (tops_get event_of (λ (y : Candidate). y.top) ts c.args.inner.now i x c.loop-candidate-test.true c.candidate-item.is h))
          ∙ c.top_of-top.ensures ts h (priority_of ts (event_of x)))
          c.in_ok-keep_if.ensures.kept (c.loop-candidate.invariant.events ts h);
      tops = λ ts h.
          tops_step event_of (λ (y : Candidate). y.top) ts c.args.inner.now i x c.loop-candidate.kept.items c.keep_if.new.kept.items
          c.at_most-reaches.result c.loop-candidate-test.true c.candidate-item.is c.in_ok-keep_if.ensures.kept h (c.loop-candidate.invariant.tops ts h);
    }

pub returns-clause-events : goal.returns-clause-events
returns-clause-events c = λ ts h.
    kept_last event_of (is_greatest ts (events_in c.args.inner.now)) c.args.inner.now c.loop-candidate.candidate-index c.loop-candidate.kept.items
    c.loop-candidate-test.false (c.loop-candidate.invariant.events ts h)
