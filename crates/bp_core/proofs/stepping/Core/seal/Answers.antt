use Rattle.std.proofs.Common.{◌≡◌, ◌≤◌, ◌<◌, ℕ, ◌∙◌, length, true, false, sym, ap, subst, refl, inl, inr, Vec, Global}
use Rattle.bp_log.specs.declared.limits.TheConstants.{MOST_THREADS}
use Rattle.bp_thread.specs.declared.job.Job.{Job}
use Rattle.bp_steps.specs.Steps.{pair_at, settled, sealed}
use Rattle.bp_run.specs.Settling.{turn}
use Rattle.bp_arbiter.specs.Arbiters.{code_in, options_in, stand_in, is_over, is_lent}
use Rattle.bp_arbiter.specs.Lend.{AreBack, AreReturned}
use Rattle.bp_core.proofs.Leads.{count_is}
use Rattle.bp_core.proofs.Merges.{seal_leads, ready_sealed, back_of, unlent_phase, stands_back, carried_out_on}
use Rattle.std.proofs.lemmas.Result.{err_from_is_err_and}
use Rattle.bp_core.proofs.stepping.Core.seal.Goals as goal

pub seal-requires-clause-back : goal.seal-requires-clause-back
seal-requires-clause-back c = λ w.
    let a = c.args.self.now.arbiter in
    let s = c.requires.somewhere c.if-self.false in
    subst (λ (v : Vec Job Global). AreBack a v.items) (sym c.replace-jobs.ensures.value) (back_of a c.args.self.now.jobs.items s.taken s.moment (s.at).at c.requires.lent c.requires.done)

pub lend_on-requires : goal.lend_on-requires
lend_on-requires c =
    let p = c.seal.new.self.floor.pair in
    record { unlent = ap is_lent c.in_ok-seal.ensures.phase ∙ unlent_phase p.stand.verdict p.entries }

pub returns-clause-leads : goal.returns-clause-leads
returns-clause-leads c = λ taken m h.
    let a = c.args.self.now.arbiter in
    let jobs = c.args.self.now.jobs.items in
    let b = c.seal.new.self in
    let f = c.requires.lent in
    let l = code_in a in
    let done = c.in_ok-seal.ensures in
    let out = (h.at).out f in
    let back_now = subst (λ (v : Vec Job Global). AreReturned a v.items out.first) (sym c.replace-jobs.ensures.value) (carried_out_on a.floor.base (options_in a).budget out.first jobs out.carried c.requires.done) in
    let few : length m.told.stand.threads ≤ MOST_THREADS = subst (λ (n : ℕ). n ≤ MOST_THREADS) (sym (count_is a jobs taken m h.at)) (c.keeps.ensures.few (done.memory).before) in
    record {
      next = sealed l m (turn l (pair_at m));
      leads = seal_leads a jobs taken m h.at f c.requires.done;
      at = record {
        whole = refl;
        at = c.in_ok-self.ensures.at taken (sealed l m (turn l (pair_at m)))
            (ready_sealed a jobs taken m h.at f b (c.keeps.ensures.complete ∙ ap is_over f) done.program done.options done.recorded
            (done.stands out.first taken (pair_at m) (stands_back a out.first jobs taken (pair_at m) out.carried (h.at).stands) back_now) done.phase few (λ v e. done.over (settled l m) (h.at).told v e));
      };
    }

pub returns-then-self-clause-cut : goal.returns-then-self-clause-cut
returns-then-self-clause-cut c = λ taken m h. absurd (let y = h.whole in let z : true ≡ false = sym c.if-self.true ∙ y in cc)

pub returns-in_err-seal-clause-cut : goal.returns-in_err-seal-clause-cut
returns-in_err-seal-clause-cut c =
    let w = err_from_is_err_and c.from_residual.result c.from_residual.ensures.1 in
    let a = c.args.self.now.arbiter in
    let jobs = c.args.self.now.jobs.items in
    let f = c.requires.lent in
    rw w.1
    (λ taken m h.
    let out = (h.at).out f in
    let back_now = subst (λ (v : Vec Job Global). AreReturned a v.items out.first) (sym c.replace-jobs.ensures.value) (carried_out_on a.floor.base (options_in a).budget out.first jobs out.carried c.requires.done) in
    let e = c.in_err-seal.ensures.memory in
    record { records = inl (e.records ∙ (h.at).records); tells = e.tells out.first taken (pair_at m) back_now (stands_back a out.first jobs taken (pair_at m) out.carried (h.at).stands) })

pub returns-in_err-self-clause-cut : goal.returns-in_err-self-clause-cut
returns-in_err-self-clause-cut c =
    let w = err_from_is_err_and c.from_residual-in_err-self.result c.from_residual-in_err-self.ensures.1 in
    let a = c.args.self.now.arbiter in
    let jobs = c.args.self.now.jobs.items in
    let b = c.seal.new.self in
    let f = c.requires.lent in
    let l = code_in a in
    let done = c.in_ok-seal.ensures in
    rw w.1
    (λ taken m h.
    let out = (h.at).out f in
    let back_now = subst (λ (v : Vec Job Global). AreReturned a v.items out.first) (sym c.replace-jobs.ensures.value) (carried_out_on a.floor.base (options_in a).budget out.first jobs out.carried c.requires.done) in
    let few : length m.told.stand.threads ≤ MOST_THREADS = subst (λ (n : ℕ). n ≤ MOST_THREADS) (sym (count_is a jobs taken m h.at)) (c.keeps.ensures.few (done.memory).before) in
    let n = sealed l m (turn l (pair_at m)) in
    let ready =
    ready_sealed a jobs taken m h.at f b (c.keeps.ensures.complete ∙ ap is_over f) done.program done.options done.recorded
    (done.stands out.first taken (pair_at m) (stands_back a out.first jobs taken (pair_at m) out.carried (h.at).stands) back_now) done.phase few (λ v e. done.over (settled l m) (h.at).told v e) in
    record { records = inr (n, seal_leads a jobs taken m h.at f c.requires.done, c.lend_on.ensures.records ∙ ready.records); tells = c.in_err-self.ensures.tells taken n ready })

pub returns-clause-grows : goal.returns-clause-grows
returns-clause-grows c = λ e.
    let lent = c.in_ok-self.ensures.lent e in
    let done = c.in_ok-seal.ensures in
    subst (λ (n : ℕ). length (stand_in c.args.self.now.arbiter).threads < n) (sym lent.count) (done.grows (done.answered ∙ lent.ready))
