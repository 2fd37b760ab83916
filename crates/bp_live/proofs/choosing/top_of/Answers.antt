use Rattle.std.proofs.Common.{◌∙◌, ℤ, ap, w64, SFits, to_z-of_z, rules}
use Rattle.std.specs.List.{list_all}
use Rattle.bp_run.specs.Choosing.{at_most, greater, priority_of}
use Rattle.bp_live.specs.Candidates.{event_of, events_in}
use Rattle.bp_live.specs.declared.candidate.Candidate.{Candidate}
use Rattle.bp_live.proofs.Remains.{top_step, top_last}
use Rattle.bp_live.proofs.TopLemmas.{tops_get}
use Rattle.bp_live.proofs.choosing.top_of.Goals as goal

pub loop-candidate-preserved : goal.loop-candidate-preserved
loop-candidate-preserved c = λ ts h q.
    let x = c.candidate-item.result in
    let i = c.loop-candidate.candidate-index in
    let fits : SFits w64 x.top = search rules in
    top_step event_of ts c.args.candidates.now i q (list_all (λ e. at_most (priority_of ts e) q) (events_in c.args.candidates.now)) x c.loop-candidate.top c.greater-top.result x.top c.loop-candidate-test.true c.candidate-item.is
    (tops_get event_of (λ (y : Candidate). y.top) ts c.args.candidates.now i x c.loop-candidate-test.true c.candidate-item.is h)
    (c.greater-top.ensures ∙ ap (λ (z : ℤ). greater z c.loop-candidate.top) (to_z-of_z fits)) (c.loop-candidate.invariant ts h q)

pub returns : goal.returns
returns c = λ ts h q.
    top_last event_of ts c.args.candidates.now c.loop-candidate.candidate-index q (list_all (λ e. at_most (priority_of ts e) q) (events_in c.args.candidates.now)) c.loop-candidate.top c.loop-candidate-test.false (c.loop-candidate.invariant ts h q)
