use Rattle.std.proofs.Common.{◌∙◌, List, ap, map, sym, subst}
use Rattle.std.proofs.lemmas.Result.{IfOk-weaker}
use Rattle.bp_log.specs.declared.options.Strategy.TheVariants.{Priority}
use Rattle.bp_run.specs.Choosing.{remaining}
use Rattle.bp_live.specs.declared.candidate.Candidate.{Candidate}
use Rattle.bp_live.specs.Lives.{lent}
use Rattle.bp_live.specs.Tops.{HaveTops}
use Rattle.bp_live.specs.Candidates.{events_in, tops_of}
use Rattle.bp_live.proofs.choosing.remaining.Goals as goal

pub returns-clause-events : goal.returns-clause-events
returns-clause-events c =
    let ts = map lent c.args.asking.now in
    let q = c.as_slice-in-Priority.ensures.value in
    rw c.in-Priority.is
    (IfOk-weaker c.greatest.result _ _
    (λ l h. h ∙ ap (λ (cs : List Candidate). remaining Priority ts (events_in cs)) q)
    (c.greatest.ensures.events ts (subst (λ (cs : List Candidate). HaveTops ts (tops_of cs)) (sym q) c.requires)))

pub returns-clause-tops : goal.returns-clause-tops
returns-clause-tops c =
    let ts = map lent c.args.asking.now in
    c.greatest.ensures.tops ts (subst (λ (cs : List Candidate). HaveTops ts (tops_of cs)) (sym c.as_slice-in-Priority.ensures.value) c.requires)
