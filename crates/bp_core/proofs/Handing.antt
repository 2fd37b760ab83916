-- Jobs that are handed out, and back in.
use Rattle.std.proofs.Common.{◌≡◌, ℕ, List, [], ◌∷◌, ◌++◌, map, refl, sym, ap, ◌∙◌, subst, Option, Some, None, eqb}
use Rattle.std.specs.List.{AllZip, AllByRecursion, IsDistinct}
use Rattle.std.proofs.lemmas.List.Elements.{All-from_recursion}
use Rattle.js_value.specs.Value.{PlainSet}
use Rattle.js_meaning.specs.State.{Ground}
use Rattle.js_meaning.specs.Bodies.{Origin}
use Rattle.bp_log.specs.declared.trace.Line.{Line}
use Rattle.bp_run.specs.Bodies as run
use Rattle.bp_log.specs.Options.{PlainOptions}
use Rattle.bp_run.specs.Bodies.{Code}
use Rattle.bp_run.specs.Configuration.{Thread}
use Rattle.bp_run.specs.Settling.{Body, Entry, Pair}
use Rattle.bp_steps.specs.Steps.{Moment, pair_at, settled, lent_bodies, fresh}
use Rattle.bp_thread.specs.declared.job.Job.{Job}
use Rattle.bp_thread.specs.Jobs.{plain_job, IsOf, IsWhole}
use Rattle.bp_thread.specs.Carried.{Carries}
use Rattle.bp_floor.specs.declared.phase.Phase.TheVariants.{Lent}
use Rattle.bp_arbiter.specs.Arbiters.{PlainArbiter, StandsFor, Recounts, code_in, options_in}
use Rattle.bp_floor.specs.Loans.{AreLent, filled_pair, standing}
use Rattle.bp_arbiter.specs.Lend.{AllCanRun, AreOut}
use Rattle.bp_core.specs.Moments.{HasBegun, IsBegun, AreBegun, IsAt}
use Rattle.bp_core.specs.Cores.{CanRunNow}
use Rattle.bp_core.proofs.Merges.{carried_at, stands_back}
use Rattle.bp_arbiter.proofs.Told.{same_code, same_story}

module _ (base : Ground) (budget : ℕ) where
  -- a job that was carried on has begun this many nodes, or has its outcome
  begun_now : (x : Job) (o : Option (run.Outcome PlainSet)) → (plain_job x).outcome ≡ o → IsWhole base budget x → (k : Option ℕ) × HasBegun base budget x k
  begun_now x None e w = (Some w.begun, (e, _, w.stands))
  begun_now x (Some y) e w = (None, ap Rattle.std.specs.Prelude.is_some e)

  one_on : (b : Body Origin) (e x : Job) (n : Option ℕ) → IsBegun base budget b e n → Carries base budget e x → (k : Option ℕ) × IsBegun base budget b x k
  one_on b e x n h c =
      let k = begun_now x (plain_job x).outcome refl (c.whole h.whole) in
      (k.0, record { origin = (c.same).origin ∙ h.origin; replies = (c.same).replies ∙ h.replies; of_program = c.of_program h.of_program; ground = h.ground; whole = c.whole h.whole; begun = k.1 })

  pub begun_on : (bs : List (Body Origin)) (es : List Job) (ns : List (Option ℕ)) (xs : List Job) → AreBegun base budget bs es ns → AllZip (Carries base budget) es xs → (ks : List (Option ℕ)) × AreBegun base budget bs xs ks
  begun_on [] [] [] [] h c = ([], tt)
  begun_on [] [] [] (x ∷ xs) h c = absurd c
  begun_on [] [] (n ∷ ns) xs h c = absurd h
  begun_on [] (e ∷ es) ns xs h c = absurd h
  begun_on (b ∷ bs) [] ns xs h c = absurd h
  begun_on (b ∷ bs) (e ∷ es) [] xs h c = absurd h
  begun_on (b ∷ bs) (e ∷ es) (n ∷ ns) [] h c = absurd c
  begun_on (b ∷ bs) (e ∷ es) (n ∷ ns) (x ∷ xs) h c =
      let k = one_on b e x n h.0 c.0 in
      let r = begun_on bs es ns xs h.1 c.1 in
      (k.0 ∷ r.0, (k.1, r.1))

  pub of_program_all : (bs : List (Body Origin)) (js : List Job) (ns : List (Option ℕ)) → AreBegun base budget bs js ns → AllByRecursion (λ j. IsOf base.program j) js
  of_program_all [] [] [] h = tt
  of_program_all [] [] (n ∷ ns) h = absurd h
  of_program_all [] (j ∷ js) ns h = absurd h
  of_program_all (b ∷ bs) [] ns h = absurd h
  of_program_all (b ∷ bs) (j ∷ js) [] h = absurd h
  of_program_all (b ∷ bs) (j ∷ js) (n ∷ ns) h = ((h.0).of_program, of_program_all bs js ns h.1)

  pub whole_all : (bs : List (Body Origin)) (js : List Job) (ns : List (Option ℕ)) → AreBegun base budget bs js ns → AllByRecursion (IsWhole base budget) js
  whole_all [] [] [] h = tt
  whole_all [] [] (n ∷ ns) h = absurd h
  whole_all [] (j ∷ js) ns h = absurd h
  whole_all (b ∷ bs) [] ns h = absurd h
  whole_all (b ∷ bs) (j ∷ js) [] h = absurd h
  whole_all (b ∷ bs) (j ∷ js) (n ∷ ns) h = ((h.0).whole, whole_all bs js ns h.1)

  pub open_all : (bs : List (Body Origin)) (js : List Job) → AreBegun base budget bs js (fresh bs) → AllByRecursion (λ j. (plain_job j).outcome ≡ None) js
  open_all [] [] h = tt
  open_all [] (j ∷ js) h = absurd h
  open_all (b ∷ bs) [] h = absurd h
  open_all (b ∷ bs) (j ∷ js) h = (((h.0).begun).0, open_all bs js h.1)

  pub numbers_on : (es xs : List Job) → AllZip (Carries base budget) es xs → map (λ j. (plain_job j).number) xs ≡ map (λ j. (plain_job j).number) es
  numbers_on [] [] c = refl
  numbers_on [] (x ∷ xs) c = absurd c
  numbers_on (e ∷ es) [] c = absurd c
  numbers_on (e ∷ es) (x ∷ xs) c =
      ap (λ (n : ℕ). n ∷ map (λ j. (plain_job j).number) xs) ((c.0).same).number ∙ ap (λ (ns : List ℕ). (plain_job e).number ∷ ns) (numbers_on es xs c.1)

-- what is handed out can be carried on
pub can_run_now : (a : PlainArbiter) (jobs : List Job) (taken : List Line) (m : Moment Origin) → IsAt a jobs taken m → a.phase ≡ Lent → CanRunNow a jobs m
can_run_now a jobs taken m h f =
    let base = a.floor.base in
    let budget = (options_in a).budget in
    let o = h.out f in
    record {
      of_program = All-from_recursion (IsOf base.program) jobs (of_program_all base budget (lent_bodies (code_in a) (pair_at m)) jobs m.lent h.lent);
      whole = All-from_recursion (IsWhole base budget) jobs (whole_all base budget (lent_bodies (code_in a) (pair_at m)) jobs m.lent h.lent);
      distinct = subst (λ (ns : List ℕ). IsDistinct eqb ns) (sym (numbers_on base budget o.first jobs o.carried)) o.distinct;
      open_still = λ e. All-from_recursion (λ (j : Job). (plain_job j).outcome ≡ None) jobs
          (open_all base budget (lent_bodies (code_in a) (pair_at m)) jobs (subst (λ (ns : List (Option ℕ)). AreBegun base budget (lent_bodies (code_in a) (pair_at m)) jobs ns) e h.lent));
    }

-- what comes back was carried on
pub handed_at : (a : PlainArbiter) (jobs xs : List Job) (taken : List Line) (m : Moment Origin) → IsAt a jobs taken m → AllZip (Carries a.floor.base (options_in a).budget) jobs xs →
    (ks : List (Option ℕ)) × IsAt a xs taken (record m { lent = ks })
handed_at a jobs xs taken m h c =
    let r = begun_on a.floor.base (options_in a).budget (lent_bodies (code_in a) (pair_at m)) jobs m.lent xs h.lent c in
    (r.0, carried_at a jobs xs taken m r.0 h c r.1)

-- ---- lines are taken

out_same : (a b : PlainArbiter) (first : List Job) (taken more : List Line) (p : Pair Origin) → b.floor.base ≡ a.floor.base → options_in b ≡ options_in a → StandsFor a first taken p → StandsFor b first more p → AreOut a first → AreOut b first
out_same a b first taken more p base options s t o =
    let threads : (filled_pair first a.floor.pair).stand.threads ≡ (filled_pair first b.floor.pair).stand.threads = sym (ap (λ (q : Pair Origin). q.stand.threads) s.floor) ∙ ap (λ (q : Pair Origin). q.stand.threads) t.floor in
    let entries : a.floor.pair.entries ≡ b.floor.pair.entries = sym (ap (λ (q : Pair Origin). q.entries) s.floor) ∙ ap (λ (q : Pair Origin). q.entries) t.floor in
    record {
      can_run = subst (λ (g : Ground). AllCanRun g (options_in b).budget first) (sym base) (subst (λ (x : PlainOptions). AllCanRun a.floor.base x.budget first) (sym options) o.can_run);
      lent = subst (λ (g : Ground). AreLent g.program (options_in b) (standing (filled_pair first b.floor.pair).stand.threads) b.floor.pair.entries first) (sym base)
          (subst (λ (x : PlainOptions). AreLent a.floor.base.program x (standing (filled_pair first b.floor.pair).stand.threads) b.floor.pair.entries first) (sym options)
          (subst (λ (ns : List (Entry Origin)). AreLent a.floor.base.program (options_in a) (standing (filled_pair first b.floor.pair).stand.threads) ns first) entries
          (subst (λ (ts : List (Thread Origin)). AreLent a.floor.base.program (options_in a) (standing ts) a.floor.pair.entries first) threads o.lent)));
    }

-- nothing but lines has changed
pub retaken : (a b : PlainArbiter) (jobs : List Job) (taken more : List Line) (m : Moment Origin) → b.floor.base ≡ a.floor.base → options_in b ≡ options_in a → b.records ≡ a.records → b.phase ≡ a.phase →
    ((js : List Job) (t : List Line) (p : Pair Origin) → StandsFor a js t p → StandsFor b js (t ++ more) p) → IsAt a jobs taken m → IsAt b jobs (taken ++ more) m
retaken a b jobs taken more m base options rs f stands h =
    let program : b.floor.base.program ≡ a.floor.base.program = ap (λ (g : Ground). g.program) base in
    let code : code_in b ≡ code_in a = same_code a.floor.base.program b.floor.base.program (options_in a) (options_in b) program options in
    let begun : AreBegun b.floor.base (options_in b).budget (lent_bodies (code_in b) (pair_at m)) jobs m.lent =
    subst (λ (l : Code Origin PlainSet). AreBegun b.floor.base (options_in b).budget (lent_bodies l (pair_at m)) jobs m.lent) (sym code)
    (subst (λ (g : Ground). AreBegun g (options_in b).budget (lent_bodies (code_in a) (pair_at m)) jobs m.lent) (sym base)
    (subst (λ (x : PlainOptions). AreBegun a.floor.base x.budget (lent_bodies (code_in a) (pair_at m)) jobs m.lent) (sym options) h.lent)) in
    record {
      stands = stands jobs taken (pair_at m) h.stands;
      records = rs ∙ h.records;
      told = subst (λ (l : Code Origin PlainSet). Recounts b (settled l m)) (sym code) (same_story a b (settled (code_in a) m) program options rs h.told);
      phase = f ∙ h.phase;
      lent = begun;
      out = λ e.
          let o = h.out (sym f ∙ e) in
          let s = stands_back a o.first jobs taken (pair_at m) o.carried h.stands in
          record {
            first = o.first;
            out = out_same a b o.first taken (taken ++ more) (pair_at m) base options s (stands o.first taken (pair_at m) s) o.out;
            distinct = o.distinct;
            carried = subst (λ (g : Ground). AllZip (Carries g (options_in b).budget) o.first jobs) (sym base) (subst (λ (x : PlainOptions). AllZip (Carries a.floor.base x.budget) o.first jobs) (sym options) o.carried);
          };
    }
