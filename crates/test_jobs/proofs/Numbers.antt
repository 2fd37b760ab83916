-- Jobs that are numbered from 0, over plain variables.
use Rattle.std.proofs.Common.{◌≡◌, ℕ, ◌+◌, ◌<◌, ◌≤◌, Bool, true, false, eqb, List, [], ◌∷◌, ◌++◌, map, refl, sym, ap, ◌∙◌, subst, arith, None}
use Rattle.std.specs.List.{IsDistinct, AllByRecursion}
use Rattle.std.proofs.lemmas.Bool.{eqb-true}
use Rattle.std.proofs.lemmas.List.Elements.{All-nil, All-push}
use Rattle.std.proofs.lemmas.List.{map_push}
use Rattle.js_meaning.specs.State.{Ground}
use Rattle.bp_thread.specs.declared.job.Job.{Job}
use Rattle.bp_thread.specs.Jobs.{plain_job, IsOf}
use Rattle.bp_thread.specs.Carried.{HaveDistinctNumbers}
use Rattle.bp_pool.specs.Carrying.{AreOf, AreOpen}

not_below : (m n : ℕ) (b : Bool) → eqb m n ≡ b → m < n → b ≡ false
not_below m n true e h = absurd (let k = eqb-true m n e in omega (arith, h, k))
not_below m n false e h = refl

all_push : (P : ℕ → Type 0) (ns : List ℕ) (n : ℕ) → AllByRecursion P ns → P n → AllByRecursion P (ns ++ n ∷ [])
all_push P [] n h p = (p, tt)
all_push P (m ∷ ns) n h p = (h.0, all_push P ns n h.1 p)

all_below : (ns : List ℕ) (n k : ℕ) → AllByRecursion (λ m. m < n) ns → n ≤ k → AllByRecursion (λ m. m < k) ns
all_below [] n k h l = tt
all_below (m ∷ ns) n k h l = (let a = h.0 in omega (arith, a, l), all_below ns n k h.1 l)

distinct_push : (ns : List ℕ) (n : ℕ) → AllByRecursion (λ m. m < n) ns → IsDistinct eqb ns → IsDistinct eqb (ns ++ n ∷ [])
unfolding IsDistinct
distinct_push [] n h d = (tt, tt)
distinct_push (m ∷ ns) n h d = (all_push (λ k. eqb m k ≡ false) ns n d.0 (not_below m n (eqb m n) refl h.0), distinct_push ns n h.1 d.1)

distinct_none : IsDistinct eqb []
unfolding IsDistinct
distinct_none = tt

-- jobs of the ground's program without outcome, with distinct numbers below n
pub record AreNumbered (base : Ground) (n : ℕ) (jobs : List Job) : Type 0 where
  pub of_program : AreOf base jobs
  pub still : AreOpen jobs
  pub below : AllByRecursion (λ m. m < n) (map (λ (j : Job). (plain_job j).number) jobs)
  pub distinct : HaveDistinctNumbers jobs

pub none_numbered : (base : Ground) (jobs : List Job) → jobs ≡ [] → AreNumbered base 0 jobs
none_numbered base [] e = record { of_program = All-nil _; still = All-nil _; below = tt; distinct = distinct_none }
none_numbered base (j ∷ js) e = cc

pub one_more : (base : Ground) (n : ℕ) (jobs more : List Job) (j : Job) → AreNumbered base n jobs → IsOf base.program j → (plain_job j).outcome ≡ None → (plain_job j).number ≡ n →
    more ≡ jobs ++ j ∷ [] → (m : ℕ) → m ≡ n + 1 → AreNumbered base m more
one_more base n jobs more j h p o e is m next =
    let numbers : map (λ (i : Job). (plain_job i).number) more ≡ map (λ (i : Job). (plain_job i).number) jobs ++ n ∷ [] =
    ap (map (λ (i : Job). (plain_job i).number)) is ∙ map_push (λ (i : Job). (plain_job i).number) jobs j ∙ ap (λ m. map (λ (i : Job). (plain_job i).number) jobs ++ m ∷ []) e in
    subst (λ k. AreNumbered base k more) (sym next)
    (record {
      of_program = subst (AreOf base) (sym is) (All-push (IsOf base.program) jobs j h.of_program p);
      still = subst AreOpen (sym is) (All-push (λ (i : Job). (plain_job i).outcome ≡ None) jobs j h.still o);
      below = subst (AllByRecursion (λ m. m < n + 1)) (sym numbers) (all_push (λ m. m < n + 1) (map (λ (i : Job). (plain_job i).number) jobs) n (all_below _ n (n + 1) h.below (omega arith)) (omega arith));
      distinct = subst (IsDistinct eqb) (sym numbers) (distinct_push (map (λ (i : Job). (plain_job i).number) jobs) n h.below h.distinct);
    })
