use Rattle.std.proofs.Common.{◌≡◌, ◌∙◌, List, Ok, Option, Vec, length, ap, subst, sym}
use Rattle.std.specs.Prelude.{IfSome}
use Rattle.std.specs.declared.alloc.Global.{Global}
use Rattle.std.proofs.lemmas.List.{length-map}
use Rattle.bp_meaning.specs.Membership.{member}
use Rattle.bp_run.specs.Selecting.{unblocked}
use Rattle.bp_live.specs.Candidates.{event_of, events_in, tops_of}
use Rattle.bp_live.specs.Tops.{HaveTops}
use Rattle.bp_live.specs.declared.candidate.Candidate.{Candidate}
use Rattle.bp_select.proofs.Selects.{are_candidates, have_tops, select_inner}
use Rattle.bp_select.proofs.selecting.known.Goals as goal

pub returns-clause-eligible : goal.returns-clause-eligible
returns-clause-eligible c = λ base budget k ts order of tops queue.
    select_inner (member base budget) ts queue (events_in c.args.candidates.now) (events_in c.in-Some.inner.items) (are_candidates event_of (λ (x : Candidate). x.top) c.args.candidates.now ts tops)
    (subst (λ (o : Option (Vec Candidate Global)). IfSome o (λ l. unblocked (member base budget) ts (events_in c.args.candidates.now) ≡ Ok (events_in l.items))) c.in-Some.is (c.in_ok-inner.ensures.free base budget k ts order of))
    (λ z. c.if-count-eq0.false (ap (λ (cs : List Candidate). length cs) c.as_slice-count.ensures.value ∙ sym (length-map c.in-Some.inner.items event_of) ∙ z))

pub returns-clause-tops : goal.returns-clause-tops
returns-clause-tops c = λ ts tops.
    subst (λ (o : Option (Vec Candidate Global)). IfSome o (λ l. HaveTops ts (tops_of l.items))) c.in-Some.is
    (c.in_ok-inner.ensures.tops ts (have_tops event_of (λ (x : Candidate). x.top) c.args.candidates.now ts tops))
