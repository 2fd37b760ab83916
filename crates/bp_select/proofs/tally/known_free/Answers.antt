use Rattle.std.proofs.Common.{◌∙◌, [], ◌∷◌, List, ap}
use Rattle.bp_known.specs.Known.{sets_in}
use Rattle.bp_live.specs.declared.candidate.Candidate.{Candidate}
use Rattle.bp_live.specs.Candidates.{event_of, events_in, tops_of}
use Rattle.bp_live.specs.Lives.{live_of}
use Rattle.bp_select.proofs.Selects.{are_candidates}
use Rattle.bp_select.proofs.TallyLemmas.{free_when}
use Rattle.bp_select.proofs.tally.known_free.Goals as goal

pub returns : goal.returns
returns c = λ base budget k.
    let t = live_of c.args.stated.now in
    let es = c.as_slice.result.now in
    free_when base budget (sets_in c.args.blocks.now.sets) c.known_free.result (events_in es) t
    (are_candidates event_of (λ (x : Candidate). x.top) es (t ∷ []) (ap (λ (cs : List Candidate). tops_of cs) c.as_slice.ensures.value ∙ c.in_ok-requested.ensures))
    (λ ts o of. c.known_free.ensures.free base budget k ts o of)
