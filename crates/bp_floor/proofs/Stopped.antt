-- At rest the job of a b-thread that has not ended tells where it stands.
use Rattle.std.proofs.Common.{◌≡◌, ℕ, Bool, false, List, [], map, refl, sym, ap, subst, Option, Some, None, slice_get, option_map, if◌then◌else◌}
use Rattle.js_data.proofs.Shared.{one_answer}
use Rattle.js_value.specs.Value.{PlainSet}
use Rattle.js_meaning.specs.Bodies.{evaluation}
use Rattle.bp_run.specs.Bodies.{Outcome}
use Rattle.bp_thread.specs.declared.job.Job.{Job}
use Rattle.bp_thread.specs.Jobs.{plain_job, stop_line}
use Rattle.bp_code.specs.Code.{ground_for, sealed_code_of as code_of}
use Rattle.bp_floor.specs.inner.Seats.{PlainSeat, seated, origin_in, replies_in, is_waiting, where_from, IsOwn, AreOwn}
use Rattle.bp_floor.specs.inner.SeatViews.{job_at}
use Rattle.bp_floor.specs.Stops.{stop_with, stop_in}
use Rattle.bp_floor.specs.inner.Kept.{Running}
use Rattle.bp_floor.proofs.Lists.{get_map}
use Rattle.bp_floor.proofs.Places.{own_at0}
use Rattle.bp_floor.proofs.Rests.{not_waiting, none_waits}

-- the line of the stop where a job stands
abbrev line_in : Running → Job → Option ℕ
line_in r j =
    stop_line (evaluation (ground_for r.program r.options.budget (plain_job j).origin) r.options.budget (plain_job j).origin (plain_job j).replies)

pub record Told (r : Running) (ss : List PlainSeat) (i : ℕ) (j : Job) : Type 0 where
  pub own : IsOwn r.program r.options i j
  pub out : Outcome PlainSet
  pub outcome : (plain_job j).outcome ≡ Some out
  pub stop : stop_in r.program r.options (slice_get (map seated ss) i) ≡ stop_with out (line_in r j)

stop_there : (r : Running) (j : Job) (out : Outcome PlainSet) (b : Bool) (o : Option Job) → b ≡ false → o ≡ Some j → out ≡ ((code_of r.program r.options).after (plain_job j).origin (plain_job j).replies).outcome →
    (if b then None else stop_with ((code_of r.program r.options).after (origin_in o) (replies_in o)).outcome
    (stop_line (evaluation (ground_for r.program r.options.budget (origin_in o)) r.options.budget (origin_in o) (replies_in o)))) ≡ stop_with out (line_in r j)
stop_there r j out b o h k e = rw (h, k) (ap (λ (x : Outcome PlainSet). stop_with x (line_in r j)) (sym e))

told_at : (r : Running) (ss : List PlainSeat) (i : ℕ) (j : Job) (o : Option PlainSeat) → slice_get ss i ≡ o → AreOwn r.program r.options 0 ss → where_from is_waiting 0 ss ≡ [] → Some false ≡ option_map (λ (s : PlainSeat). s.ended) o →
    job_at o ≡ Some j → Told r ss i j
told_at r ss i j None e own waiting h k = absurd (cc)
told_at r ss i j (Some s) e own waiting h k =
    let ended : s.ended ≡ false = cc in
    let q = not_waiting r i s ended (none_waits 0 i ss s waiting e) (own_at0 r.program r.options i ss s own e) in
    let same : q.job ≡ j = one_answer s.job q.job j q.is_job k in
    let own_j : IsOwn r.program r.options i j = subst (λ (x : Job). IsOwn r.program r.options i x) same q.own in
    let outcome : (plain_job j).outcome ≡ Some q.out = subst (λ (x : Job). (plain_job x).outcome ≡ Some q.out) same q.outcome in
    record {
      own = own_j;
      out = q.out;
      outcome = outcome;
      stop = rw (get_map seated ss i s e) (stop_there r j q.out s.ended s.job ended k (own_j.outcome q.out outcome));
    }

-- of one whose job is there
pub told : (r : Running) (ss : List PlainSeat) (i : ℕ) (j : Job) → AreOwn r.program r.options 0 ss → where_from is_waiting 0 ss ≡ [] → Some false ≡ option_map (λ (s : PlainSeat). s.ended) (slice_get ss i) →
    job_at (slice_get ss i) ≡ Some j → Told r ss i j
told r ss i j own waiting h k = told_at r ss i j (slice_get ss i) refl own waiting h k

no_job_at : (r : Running) (ss : List PlainSeat) (i : ℕ) (o : Option PlainSeat) → slice_get ss i ≡ o → AreOwn r.program r.options 0 ss → where_from is_waiting 0 ss ≡ [] → Some false ≡ option_map (λ (s : PlainSeat). s.ended) o → job_at o ≡ None → ⊥
no_job_at r ss i None e own waiting h k = cc
no_job_at r ss i (Some s) e own waiting h k =
    let ended : s.ended ≡ false = cc in
    let q = not_waiting r i s ended (none_waits 0 i ss s waiting e) (own_at0 r.program r.options i ss s own e) in
    let there = q.is_job in
    absurd (cc)

-- and one that has not ended has its job
pub no_job : (r : Running) (ss : List PlainSeat) (i : ℕ) → AreOwn r.program r.options 0 ss → where_from is_waiting 0 ss ≡ [] → Some false ≡ option_map (λ (s : PlainSeat). s.ended) (slice_get ss i) → job_at (slice_get ss i) ≡ None → ⊥
no_job r ss i own waiting h k = no_job_at r ss i (slice_get ss i) refl own waiting h k
