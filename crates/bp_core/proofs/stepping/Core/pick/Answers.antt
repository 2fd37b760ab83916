use Rattle.std.proofs.Common.{◌≡◌, ◌∙◌, sym, ap, refl, true, false, [], inl, inr}
use Rattle.js_meaning.specs.State.{Ground}
use Rattle.bp_steps.specs.Steps.{pair_at, picked}
use Rattle.bp_arbiter.specs.declared.picked.Picked.{Picked}
use Rattle.bp_arbiter.specs.Arbiters.{code_in, coming, is_over}
use Rattle.bp_arbiter.specs.Pick.{phase_after}
use Rattle.bp_core.proofs.Leads.{pick_leads, ready_picked, told_is, alone}
use Rattle.std.proofs.lemmas.Result.{err_from_is_err_and}
use Rattle.bp_core.proofs.stepping.Core.pick.Goals as goal

pub returns-clause-leads : goal.returns-clause-leads
returns-clause-leads c = λ taken m h.
    let a = c.args.self.now.arbiter in
    let jobs = c.args.self.now.jobs.items in
    let b = c.pick.new.self in
    let f = c.requires.rest in
    let x = coming a m.told in
    let told = told_is a jobs taken m h.at f in
    let done = c.in_ok-picked.ensures in
    let n = picked (code_in a) m x in
    record {
      next = n;
      leads = pick_leads a jobs taken m h.at f;
      at = record {
        whole = refl;
        at = c.in_ok-self.ensures.at taken n
            (ready_picked a jobs taken m h.at f b x refl (c.keeps.ensures.complete ∙ ap is_over f) (ap (λ (g : Ground). g.program) c.pick.ensures.ground) c.pick.ensures.options
            (done.recorded m.told told) (done.stands taken (pair_at m) m.told (alone a jobs taken m h.at f) told)
            (done.phase ∙ ap (λ (k : Picked). phase_after k b.floor.pair.entries) (done.picked m.told told)));
      };
    }

pub returns-then-self-clause-cut : goal.returns-then-self-clause-cut
returns-then-self-clause-cut c = λ taken m h. absurd (let y = h.whole in let z : true ≡ false = sym c.if-self.true ∙ y in cc)

pub returns-in_err-picked-clause-cut : goal.returns-in_err-picked-clause-cut
returns-in_err-picked-clause-cut c =
    let w = err_from_is_err_and c.from_residual.result c.from_residual.ensures.1 in
    let e = c.in_err-picked.ensures.memory in
    rw w.1
    (λ taken m h. record {
      records = inl (e.records ∙ (h.at).records);
      tells = e.tells [] taken (pair_at m) refl (alone c.args.self.now.arbiter c.args.self.now.jobs.items taken m h.at c.requires.rest);
    })

pub returns-in_err-self-clause-cut : goal.returns-in_err-self-clause-cut
returns-in_err-self-clause-cut c =
    let w = err_from_is_err_and c.from_residual-in_err-self.result c.from_residual-in_err-self.ensures.1 in
    let a = c.args.self.now.arbiter in
    let jobs = c.args.self.now.jobs.items in
    let b = c.pick.new.self in
    let f = c.requires.rest in
    let done = c.in_ok-picked.ensures in
    rw w.1
    (λ taken m h.
    let x = coming a m.told in
    let told = told_is a jobs taken m h.at f in
    let n = picked (code_in a) m x in
    let ready =
    ready_picked a jobs taken m h.at f b x refl (c.keeps.ensures.complete ∙ ap is_over f) (ap (λ (g : Ground). g.program) c.pick.ensures.ground) c.pick.ensures.options
    (done.recorded m.told told) (done.stands taken (pair_at m) m.told (alone a jobs taken m h.at f) told)
    (done.phase ∙ ap (λ (k : Picked). phase_after k b.floor.pair.entries) (done.picked m.told told)) in
    record { records = inr (n, pick_leads a jobs taken m h.at f, c.lend_on.ensures.records ∙ ready.records); tells = c.in_err-self.ensures.tells taken n ready })

pub returns-clause-picked : goal.returns-clause-picked
returns-clause-picked c = λ taken m h. c.in_ok-picked.ensures.picked m.told (told_is c.args.self.now.arbiter c.args.self.now.jobs.items taken m h.at c.requires.rest)
