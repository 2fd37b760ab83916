-- At rest the bench has what the live b-threads state, and those that an event reaches stand at their points.
use Rattle.std.proofs.Common.{◌≡◌, ℕ, zero, suc, ◌+◌, ◌<◌, Bool, true, false, not, ◌&&◌, ◌==◌, nat_eq, List, [], ◌∷◌, length, map, refl, sym, ap, ◌∙◌, subst, arith, Option, Some, None, Ok, is_none, is_some, slice_get, if◌then◌else◌}
use Rattle.std.proofs.lemmas.Bool.{eq-eqb}
use Rattle.std.specs.List.{cons_option}
use Rattle.std.proofs.lemmas.List.{length-map}
use Rattle.js_data.specs.Event.{PlainEvent}
use Rattle.js_data.proofs.Shared.{known}
use Rattle.js_value.specs.Value.{PlainSet}
use Rattle.js_meaning.specs.Bodies.{Origin}
use Rattle.bp_run.specs.Bodies.{Outcome}
use Rattle.bp_run.specs.Bodies.Outcome.{Stopped, Ended, Broken, Violated, Spent}
use Rattle.bp_run.specs.Configuration.{Stand, Thread}
use Rattle.bp_run.specs.Selecting.{Live, Has, Asked, at_stop, stated, live_from, live}
use Rattle.bp_run.specs.Choosing.{Touched, reach}
use Rattle.bp_run.specs.Numbers.{number_in, touch_at, touch_of, IsRising}
use Rattle.bp_run.proofs.Numbers.{reach_each, reach_rising, live_rising}
use Rattle.bp_thread.specs.declared.job.Job.{Job}
use Rattle.bp_thread.specs.Jobs.{plain_job, is_stopped}
use Rattle.bp_code.specs.Code.{sealed_code_of as code_of}
use Rattle.bp_floor.specs.inner.Seats.{PlainSeat, seated, origin_in, replies_in, outcome_in, is_waiting, where_from, stop_at, statement_at, stated_from, IsOwn, IsOwnIn, AreOwn}
use Rattle.bp_floor.specs.inner.Kept.{Running, AreFrom, Rises}
use Rattle.bp_floor.specs.inner.Reached.{IsStanding, AreStanding}
use Rattle.bp_floor.proofs.Places.{own_at0, none_step, from_lower}
use Rattle.bp_floor.proofs.Lists.{found, get_map}

-- one that neither waits nor has ended has its job with an outcome, which is that of its body
pub record Settled (r : Running) (n : ℕ) (s : PlainSeat) : Type 0 where
  pub job : Job
  pub out : Outcome PlainSet
  pub is_job : s.job ≡ Some job
  pub outcome : (plain_job job).outcome ≡ Some out
  pub own : IsOwn r.program r.options n job

settled_some : (r : Running) (n : ℕ) (j : Job) (o : Option (Outcome PlainSet)) (s : PlainSeat) → s.job ≡ Some j → (plain_job j).outcome ≡ o → is_none o ≡ false → IsOwn r.program r.options n j → Settled r n s
settled_some r n j None s e f k w = absurd (cc)
settled_some r n j (Some x) s e f k w = record { job = j; out = x; is_job = e; outcome = f; own = w }

settled_at : (r : Running) (n : ℕ) (b : Bool) (o : Option Job) (s : PlainSeat) → s.job ≡ o → b ≡ false → (not b && is_none (outcome_in o)) ≡ false → IsOwnIn r.program r.options n o → Settled r n s
settled_at r n true o s e h k w = absurd (cc)
settled_at r n false None s e h k w = absurd (cc)
settled_at r n false (Some j) s e h k w = settled_some r n j (plain_job j).outcome s e refl k w

pub not_waiting : (r : Running) (n : ℕ) (s : PlainSeat) → s.ended ≡ false → is_waiting s ≡ false → IsOwnIn r.program r.options n s.job → Settled r n s
not_waiting r n s h k w = settled_at r n s.ended s.job s refl h k w

states_at : (r : Running) (n : ℕ) (b : Bool) (s : PlainSeat) → s.ended ≡ b → is_waiting s ≡ false → IsOwnIn r.program r.options n s.job → statement_at n s ≡ stated (code_of r.program r.options) n (seated s)
states_at r n true s h k w = rw h refl
states_at r n false s h k w =
    let q = not_waiting r n s h k w in
    let l = code_of r.program r.options in
    let o : outcome_in s.job ≡ Some q.out = ap (λ (x : Option Job). outcome_in x) q.is_job ∙ q.outcome in
    let f : q.out ≡ (l.after (origin_in s.job) (replies_in s.job)).outcome =
    q.own.outcome q.out q.outcome ∙ ap (λ (x : Option Job). (l.after (origin_in x) (replies_in x)).outcome) (sym q.is_job) in
    rw h (ap (λ (x : Option (Outcome PlainSet)). stop_at n x) o ∙ ap (λ (x : Outcome PlainSet). at_stop n x) f)

-- what is stated is what the live b-threads state
pub stated_live : (r : Running) (n : ℕ) (ss : List PlainSeat) → AreOwn r.program r.options n ss → where_from is_waiting n ss ≡ [] → stated_from n ss ≡ live_from (code_of r.program r.options) n (map seated ss)
stated_live r n [] h k = refl
stated_live r n (s ∷ ss) h k =
    let w = none_step (is_waiting s) n (where_from is_waiting (suc n) ss) k in
    ap (λ (o : Option (Live PlainSet)). cons_option o (stated_from (suc n) ss)) (states_at r n s.ended s refl w.0 h.0)
    ∙ ap (λ (ts : List (Live PlainSet)). cons_option (stated (code_of r.program r.options) n (seated s)) ts) (stated_live r (suc n) ss h.1 w.1)

-- ---- those that are reached

pub none_waits : (n i : ℕ) (ss : List PlainSeat) (s : PlainSeat) → where_from is_waiting n ss ≡ [] → slice_get ss i ≡ Some s → is_waiting s ≡ false
none_waits n i [] s h k = absurd (cc)
none_waits n zero (x ∷ ss) s h k = let e : x ≡ s = cc in ap is_waiting (sym e) ∙ (none_step (is_waiting x) n (where_from is_waiting (suc n) ss) h).0
none_waits n (suc i) (x ∷ ss) s h k = none_waits (suc n) i ss s (none_step (is_waiting x) n (where_from is_waiting (suc n) ss) h).1 k

stop_is : (n : ℕ) (x : Outcome PlainSet) (t : Live PlainSet) → at_stop n x ≡ Some t → is_stopped (Some x) ≡ true
stop_is n (Stopped s) t h = refl
stop_is n Ended t h = absurd (cc)
stop_is n (Broken f l) t h = absurd (cc)
stop_is n (Violated x) t h = absurd (cc)
stop_is n Spent t h = absurd (cc)

open_state : (b : Bool) (o : Option (Live PlainSet)) (t : Live PlainSet) → (if b then None else o) ≡ Some t → (b ≡ false) × (o ≡ Some t)
open_state true o t h = absurd (cc)
open_state false o t h = (refl, h)

-- one that states something stands at its point
states_stands : (r : Running) (n : ℕ) (s : PlainSeat) (t : Live PlainSet) (o : Option PlainSeat) → o ≡ Some s → is_waiting s ≡ false → IsOwnIn r.program r.options n s.job → statement_at n s ≡ Some t → IsStanding o
states_stands r n s t o e k w h =
    let p = open_state s.ended (stop_at n (outcome_in s.job)) t h in
    let q = not_waiting r n s p.0 k w in
    let x : outcome_in s.job ≡ Some q.out = ap (λ (y : Option Job). outcome_in y) q.is_job ∙ q.outcome in
    record {
      seat = s;
      job = q.job;
      is_seat = e;
      is_job = q.is_job;
      going = p.0;
      stopped = ap (λ (y : Option (Outcome PlainSet)). is_stopped y) q.outcome ∙ stop_is n q.out t (sym (ap (λ (y : Option (Outcome PlainSet)). stop_at n y) x) ∙ p.1);
      effects = q.own.effects;
    }

ok_none : (x : Touched) → let a : Asked (Option Touched) = Ok None in a ≡ Ok (Some x) → ⊥
ok_none x h = absurd (cc)

-- what touches a b-thread finds what it states
touched_states : (has : Has PlainSet) (e : PlainEvent) (o : Option (Live PlainSet)) (x : Touched) → touch_of has e o ≡ Ok (Some x) → (t : Live PlainSet) × (o ≡ Some t)
touched_states has e None x h = absurd (ok_none x h)
touched_states has e (Some t) x h = (t, refl)

AllSome : List Touched → List Touched → Type 0
AllSome [] xs = Unit {0}
AllSome (y ∷ ys) xs = (is_some (touch_at (number_in y) xs) ≡ true) × AllSome ys xs

some_if : (b : Bool) (x : Touched) (o : Option Touched) → is_some o ≡ true → is_some (if b then Some x else o) ≡ true
some_if true x o h = refl
some_if false x o h = h

some_more : (ys xs : List Touched) (x : Touched) → AllSome ys xs → AllSome ys (x ∷ xs)
unfolding AllSome
some_more [] xs x h = tt
some_more (y ∷ ys) xs x h = (some_if (number_in x == number_in y) x (touch_at (number_in y) xs) h.0, some_more ys xs x h.1)

some_here : (x : Touched) (xs : List Touched) → is_some (touch_at (number_in x) (x ∷ xs)) ≡ true
some_here x xs = let e : nat_eq (number_in x) (number_in x) ≡ true = eq-eqb (number_in x) (number_in x) refl in rw e refl

all_some : (xs : List Touched) → AllSome xs xs
unfolding AllSome
all_some [] = tt
all_some (x ∷ xs) = (some_here x xs, some_more xs xs x (all_some xs))

AllUnder : ℕ → List Touched → Type 0
AllUnder most [] = Unit {0}
AllUnder most (y ∷ ys) = (number_in y < most) × AllUnder most ys

rising_under : (low high : ℕ) (xs : List Touched) → IsRising low high (map number_in xs) → AllUnder high xs
unfolding AllUnder
rising_under low high [] h = tt
rising_under low high (x ∷ xs) h = (h.1, rising_under (number_in x + 1) high xs h.2)

rising_from : (low high : ℕ) (ns : List ℕ) → IsRising low high ns → AreFrom low ns
rising_from low high [] h = tt
rising_from low high (n ∷ ns) h = let a = h.0 in (a, from_lower low (n + 1) ns (omega (arith, a)) (rising_from (n + 1) high ns h.2))

pub rising_rises : (low high : ℕ) (ns : List ℕ) → IsRising low high ns → Rises ns
rising_rises low high [] h = tt
rising_rises low high (n ∷ ns) h =
    let e : n + 1 ≡ suc n = omega arith in
    (subst (λ (m : ℕ). AreFrom m ns) e (rising_from (n + 1) high ns h.2), rising_rises (n + 1) high ns h.2)

one_stands : (r : Running) (ss : List PlainSeat) (s : Stand Origin) (e : PlainEvent) (xs : List Touched) (y : Touched) → s.threads ≡ map seated ss → AreOwn r.program r.options 0 ss → where_from is_waiting 0 ss ≡ [] →
    reach (code_of r.program r.options).has e (live (code_of r.program r.options) s) ≡ Ok xs → number_in y < length ss → is_some (touch_at (number_in y) xs) ≡ true → IsStanding (slice_get ss (number_in y))
one_stands r ss s e xs y t own w h low some =
    let l = code_of r.program r.options in
    let i = number_in y in
    let f = found ss i low in
    let get : slice_get s.threads i ≡ Some (seated f.0) = ap (λ (ts : List (Thread Origin)). slice_get ts i) t ∙ get_map seated ss i f.0 f.1 in
    let x = known (touch_at i xs) some in
    let does = reach_each l s e xs i (seated f.0) h get ∙ ap (λ (o : Option Touched). let a : Asked (Option Touched) = Ok o in a) x.1 in
    let states = touched_states l.has e (stated l i (seated f.0)) x.0 does in
    let quiet = none_waits 0 i ss f.0 w f.1 in
    let mine = own_at0 r.program r.options i ss f.0 own f.1 in
    states_stands r i f.0 states.0 (slice_get ss i) f.1 quiet mine (states_at r i f.0.ended f.0 refl quiet mine ∙ states.1)

stand_all : (r : Running) (ss : List PlainSeat) (s : Stand Origin) (e : PlainEvent) (xs ys : List Touched) → s.threads ≡ map seated ss → AreOwn r.program r.options 0 ss → where_from is_waiting 0 ss ≡ [] →
    reach (code_of r.program r.options).has e (live (code_of r.program r.options) s) ≡ Ok xs → AllUnder (length ss) ys → AllSome ys xs → AreStanding ys ss
unfolding AllUnder AllSome
stand_all r ss s e xs [] t own w h u a = tt
stand_all r ss s e xs (y ∷ ys) t own w h u a = (one_stands r ss s e xs y t own w h u.0 a.0, stand_all r ss s e xs ys t own w h u.1 a.1)

-- those that an event reaches stand at their points
pub reached_stand : (r : Running) (ss : List PlainSeat) (s : Stand Origin) (e : PlainEvent) (xs : List Touched) → s.threads ≡ map seated ss → AreOwn r.program r.options 0 ss → where_from is_waiting 0 ss ≡ [] →
    reach (code_of r.program r.options).has e (live (code_of r.program r.options) s) ≡ Ok xs → AreStanding xs ss × Rises (map number_in xs)
reached_stand r ss s e xs t own w h =
    let l = code_of r.program r.options in
    let rising = reach_rising l.has e (live l s) xs 0 (length s.threads) h (live_rising l s) in
    let len : length s.threads ≡ length ss = ap (λ (ts : List (Thread Origin)). length ts) t ∙ length-map ss seated in
    (stand_all r ss s e xs xs t own w h (subst (λ (n : ℕ). AllUnder n xs) len (rising_under 0 (length s.threads) xs rising)) (all_some xs), rising_rises 0 (length s.threads) (map number_in xs) rising)
