-- The entries of a floor have rising numbers, and so the jobs that it lends have distinct ones.
use Rattle.std.proofs.Common.{◌≡◌, ℕ, suc, ◌≤◌, false, eqb, List, [], ◌∷◌, map, sym, subst, arith, Option, Some, None}
use Rattle.std.specs.List.{IsDistinct, AllByRecursion}
use Rattle.std.proofs.lemmas.Bool.{ne_eqb}
use Rattle.js_program.specs.PlainProgram.{PlainProgram}
use Rattle.js_meaning.specs.Bodies.{Origin}
use Rattle.bp_log.specs.Options.{PlainOptions}
use Rattle.bp_run.specs.Configuration.{Stand}
use Rattle.bp_run.specs.Settling.{Body, Entry, body_of}
use Rattle.bp_run.specs.Numbers.{number_of}
use Rattle.bp_thread.specs.declared.job.Job.{Job}
use Rattle.bp_thread.specs.Jobs.{plain_job}
use Rattle.bp_thread.specs.Carried.{HaveDistinctNumbers}
use Rattle.bp_code.specs.Code.{sealed_code_of as code_of}
use Rattle.bp_floor.specs.inner.Kept.{AreFrom, Rises}
use Rattle.bp_floor.specs.Loans.{IsLent, JobFor, AreLent}

-- ---- rising numbers are distinct

apart : (n : ℕ) (ns : List ℕ) → AreFrom (suc n) ns → AllByRecursion (λ m. eqb n m ≡ false) ns
apart n [] h = tt
apart n (m ∷ ns) h = (ne_eqb n m (λ e. let a = h.0 in omega (arith, e, a)), apart n ns h.1)

pub rising_distinct : (ns : List ℕ) → Rises ns → IsDistinct eqb ns
unfolding IsDistinct
rising_distinct [] h = tt
rising_distinct (n ∷ ns) h = (apart n ns h.0, rising_distinct ns h.1)

-- ---- jobs

-- the number of a job
abbrev number_at : Job → ℕ
number_at j = (plain_job j).number

module _ (program : PlainProgram) (o : PlainOptions) where
  from_first : (low n : ℕ) (b : Option (Body Origin)) (js : List Job) (rest : List Job → Type 0) → low ≤ n → JobFor (IsLent program o) n b js rest → ((ks : List Job) → rest ks → AreFrom low (map number_at ks)) → AreFrom low (map number_at js)
  from_first low n None js rest l h k = k js h
  from_first low n (Some b) [] rest l h k = tt
  from_first low n (Some b) (j ∷ js) rest l h k = let i = h.0 in let q = i.job in let e = q.number_is in (omega (arith, l, e), k js h.1)

  lent_from : (s : Stand Origin) (low : ℕ) (ns : List (Entry Origin)) (js : List Job) → AreFrom low (map number_of ns) → AreLent program o s ns js → AreFrom low (map number_at js)
  lent_from s low [] js a h = subst (λ (xs : List Job). AreFrom low (map number_at xs)) (sym h) tt
  lent_from s low (n ∷ ns) js a h = from_first low (number_of n) (body_of (code_of program o) s n) js (AreLent program o s ns) a.0 h (λ ks k. lent_from s low ns ks a.1 k)

  rises_first : (n : ℕ) (b : Option (Body Origin)) (js : List Job) (rest : List Job → Type 0) → JobFor (IsLent program o) n b js rest → ((ks : List Job) → rest ks → AreFrom (suc n) (map number_at ks)) → ((ks : List Job) → rest ks → Rises (map number_at ks)) →
      Rises (map number_at js)
  rises_first n None js rest h k m = m js h
  rises_first n (Some b) [] rest h k m = tt
  rises_first n (Some b) (j ∷ js) rest h k m =
      let i = h.0 in
      let q = i.job in
      (subst (λ (low : ℕ). AreFrom (suc low) (map number_at js)) (sym q.number_is) (k js h.1), m js h.1)

  lent_rises : (s : Stand Origin) (ns : List (Entry Origin)) (js : List Job) → Rises (map number_of ns) → AreLent program o s ns js → Rises (map number_at js)
  lent_rises s [] js r h = subst (λ (xs : List Job). Rises (map number_at xs)) (sym h) tt
  lent_rises s (n ∷ ns) js r h =
      rises_first (number_of n) (body_of (code_of program o) s n) js (AreLent program o s ns) h (λ ks k. lent_from s (suc (number_of n)) ns ks r.0 k) (λ ks k. lent_rises s ns ks r.1 k)

  pub lent_distinct : (s : Stand Origin) (ns : List (Entry Origin)) (js : List Job) → Rises (map number_of ns) → AreLent program o s ns js → HaveDistinctNumbers js
  lent_distinct s ns js r h = rising_distinct (map number_at js) (lent_rises s ns js r h)
