use Rattle.std.proofs.Common.{not}
use Rattle.bp_meaning.specs.Membership.{member}
use Rattle.bp_live.specs.Candidates.{event_of}
use Rattle.bp_live.specs.declared.candidate.Candidate.{Candidate}
use Rattle.bp_select.proofs.Questions.{unblocked_step}
use Rattle.bp_live.proofs.TopLemmas.{tops_step}
use Rattle.bp_select.proofs.block_sets.Blocks.known_free.Goals as goal

pub loop-candidate-preserved : goal.loop-candidate-preserved
loop-candidate-preserved c = record {
  free = λ base budget k ts order of.
      unblocked_step event_of (member base budget) ts c.args.candidates.now c.loop-candidate.candidate-index c.candidate-item.result c.loop-candidate.free.items c.keep_if.new.kept.items
      c.in-Some.blocked c.loop-candidate-test.true c.candidate-item.is (c.in-Some.ensures base budget k ts order of) c.in_ok-keep_if.ensures.kept (c.loop-candidate.invariant.free base budget k ts order of);
  tops = λ ts h.
      tops_step event_of (λ (x : Candidate). x.top) ts c.args.candidates.now c.loop-candidate.candidate-index c.candidate-item.result c.loop-candidate.free.items c.keep_if.new.kept.items
      (not c.in-Some.blocked) c.loop-candidate-test.true c.candidate-item.is c.in_ok-keep_if.ensures.kept h (c.loop-candidate.invariant.tops ts h);
}
