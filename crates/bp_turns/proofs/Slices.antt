-- Jobs that are carried on by slices.
use Rattle.std.proofs.Common.{◌≡◌, ℕ, ◌+◌, ◌<◌, ◌≤◌, Bool, false, List, All, length, slice_index_or, sym, subst, arith}
use Rattle.std.proofs.lemmas.List.Elements.{All-get_or}
use Rattle.js_meaning.specs.State.{Ground, Effect}
use Rattle.bp_thread.specs.declared.job.Job.{Job}
use Rattle.bp_thread.specs.Jobs.{StandsAt, Sliced}

-- this many slices were made of the job, and each began a node of the budget
pub record Begun (base : Ground) (budget slices : ℕ) (j : Job) : Type 0 where
  pub begun : ℕ
  pub made : List Effect
  pub stands : StandsAt base budget begun made j
  pub each : slices ≤ begun
  pub within : 0 < slices → begun < budget

module _ (base : Ground) (budget : ℕ) where
  pub begun_next : (slices nodes : ℕ) (done : Bool) (old new : Job) → (b : Begun base budget slices old) → 0 < nodes → done ≡ false → Sliced base budget b.begun b.made nodes done old new →
      Begun base budget (slices + 1) new
  begun_next slices nodes done old new b h e s =
      let w = s.waits e in
      let whole = w.whole in
      let left = w.some_left in
      let each = b.each in
      record {
        begun = b.begun + s.more;
        made = _;
        stands = s.stands;
        each = omega (arith, whole, each, h);
        within = λ _. left;
      }

-- ---- many jobs

-- the next job is one of those that were given
pub all_next : (P : Job → Type 0) (jobs items given : List Job) (i : ℕ) (d : Job) → given ≡ jobs → i < length given → All P jobs → ((k : ℕ) (e : Job) → i ≤ k → slice_index_or items k e ≡ slice_index_or jobs k e) →
    P (slice_index_or items i d)
all_next P jobs items given i d e h a rest = subst P (sym (rest i d (omega arith))) (All-get_or P jobs i d (subst (λ (js : List Job). i < length js) e h) a)
