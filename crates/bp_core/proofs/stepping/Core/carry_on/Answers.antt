use Rattle.std.proofs.Common.{◌≡◌, ◌∙◌, sym, ap, subst, refl, Some, slice_get}
use Rattle.std.proofs.lemmas.Option.{slice_get-get_or}
use Rattle.js_meaning.specs.State.{Ground}
use Rattle.bp_thread.specs.declared.job.Job.{Job}
use Rattle.bp_thread.specs.Jobs.{IsOf, Sliced}
use Rattle.bp_thread.specs.Carried.{Carries}
use Rattle.bp_arbiter.specs.Arbiters.{options_in}
use Rattle.bp_core.proofs.Slices.{is_of_program, cuts}
use Rattle.std.proofs.lemmas.Result.{err_from_is_err_and}
use Rattle.bp_core.proofs.Playing.{still_cuts}
use Rattle.bp_core.proofs.stepping.Core.carry_on.Goals as goal

pub slice-requires-clause-program : goal.slice-requires-clause-program
slice-requires-clause-program c =
    let jobs = c.args.self.now.jobs.items in
    let i = c.args.place in
    let j = c.index_mut.result.now in
    let a = c.args.self.now.arbiter in
    let there : slice_get jobs i ≡ Some j = slice_get-get_or jobs i j c.requires.there ∙ ap (λ (x : Job). Some x) (sym c.index_mut.ensures.value) in
    let s = c.requires.somewhere in
    subst (λ (g : Ground). IsOf g.program j) (sym c.ground.ensures) (is_of_program a jobs s.taken s.moment (s.at).at c.requires.lent i c.args.nodes c.requires.some j j there (c.requires.open j there))

pub slice-requires-clause-open : goal.slice-requires-clause-open
slice-requires-clause-open c =
    let jobs = c.args.self.now.jobs.items in
    let i = c.args.place in
    let j = c.index_mut.result.now in
    let there : slice_get jobs i ≡ Some j = slice_get-get_or jobs i j c.requires.there ∙ ap (λ (x : Job). Some x) (sym c.index_mut.ensures.value) in
    c.requires.open j there

pub returns-clause-leads : goal.returns-clause-leads
returns-clause-leads c = λ taken m h.
    let jobs = c.args.self.now.jobs.items in
    let i = c.args.place in
    let n = c.args.nodes in
    let j = c.index_mut.result.now in
    let x = c.slice.new.self in
    let a = c.args.self.now.arbiter in
    let budget = (options_in a).budget in
    let there : slice_get jobs i ≡ Some j = slice_get-get_or jobs i j c.requires.there ∙ ap (λ (y : Job). Some y) (sym c.index_mut.ensures.value) in
    let w = cuts a jobs taken m h.at c.requires.lent i n c.requires.some j x there (c.requires.open j there)
    (subst (λ (g : Ground). Carries g budget j x) c.ground.ensures (c.in_ok-slice.ensures.carries budget)) c.in_ok-slice.field-0 c.in_ok-slice.ensures.done
    (λ begun made at. subst (λ (g : Ground). Sliced g budget begun made n c.in_ok-slice.field-0 j x) c.ground.ensures
    (c.in_ok-slice.ensures.stands budget begun made (subst (λ (g : Ground). Rattle.bp_thread.specs.Jobs.StandsAt g budget begun made j) (sym c.ground.ensures) at))) in
    record { next = w.0; leads = w.1; at = record { whole = refl; at = w.2 } }

pub returns-in_err-slice-clause-cut : goal.returns-in_err-slice-clause-cut
returns-in_err-slice-clause-cut c =
    let w = err_from_is_err_and c.from_residual.result c.from_residual.ensures.1 in
    rw w.1 (still_cuts c.args.self.now _ _ refl)
