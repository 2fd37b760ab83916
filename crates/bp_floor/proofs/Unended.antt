-- Those that go on have not ended.
use Rattle.std.proofs.Common.{◌≡◌, ℕ, zero, suc, ◌+◌, ◌≤◌, Bool, true, false, List, [], ◌∷◌, map, refl, sym, ap, ◌∙◌, subst, arith, Some, None, is_none, slice_get, if◌then◌else◌, not}
use Rattle.std.proofs.Math.Nat.{zero-add}
use Rattle.std.proofs.lemmas.Bool.{not-true, and_parts}
use Rattle.js_meaning.specs.Bodies.{Origin, the_top}
use Rattle.bp_log.specs.declared.trace.Line.{Line}
use Rattle.bp_run.specs.Configuration.{Thread, change}
use Rattle.bp_run.specs.Settling.{Entry, Pair, turn, before}
use Rattle.bp_run.specs.Settling.Entry.{The_top, Runs, Stops}
use Rattle.bp_run.specs.Bodies.{Code}
use Rattle.js_value.specs.Value.{PlainSet}
use Rattle.bp_thread.specs.declared.job.Job.{Job}
use Rattle.bp_thread.specs.Jobs.{plain_job}
use Rattle.bp_floor.specs.inner.Seats.{PlainSeat, seated, outcome_in, is_waiting, where_from}
use Rattle.bp_floor.specs.Forgetting.{forget, forgotten, AreGoing}
use Rattle.bp_floor.specs.inner.Kept.{AreFrom, runs_in}
use Rattle.bp_floor.specs.Loans.{fill, filled}
use Rattle.bp_floor.proofs.Places.{where_above}
use Rattle.bp_floor.proofs.Forgetting.{turn_stands, forget_ended_at}

-- each of these numbers is that of one that is so
AllAt : (PlainSeat → Bool) → ℕ → List PlainSeat → List ℕ → Type 0
AllAt f n ss [] = Unit {0}
AllAt f n ss (m ∷ ms) = ((k : ℕ) → m ≡ n + k → (s : PlainSeat) → slice_get ss k ≡ Some s → f s ≡ true) × AllAt f n ss ms

one_later : (f : PlainSeat → Bool) (n m : ℕ) (x : PlainSeat) (ss : List PlainSeat) → suc n ≤ m → ((k : ℕ) → m ≡ suc n + k → (s : PlainSeat) → slice_get ss k ≡ Some s → f s ≡ true) →
    (k : ℕ) → m ≡ n + k → (s : PlainSeat) → slice_get (x ∷ ss) k ≡ Some s → f s ≡ true
one_later f n m x ss a h zero e s w = absurd (omega (arith, a, e))
one_later f n m x ss a h (suc k) e s w = h k (omega (arith, e)) s w

one_here : (f : PlainSeat → Bool) (n : ℕ) (x : PlainSeat) (ss : List PlainSeat) → f x ≡ true → (k : ℕ) → n ≡ n + k → (s : PlainSeat) → slice_get (x ∷ ss) k ≡ Some s → f s ≡ true
one_here f n x ss h zero e s w = let g : x ≡ s = cc in ap f (sym g) ∙ h
one_here f n x ss h (suc k) e s w = absurd (omega (arith, e))

all_later : (f : PlainSeat → Bool) (n : ℕ) (x : PlainSeat) (ss : List PlainSeat) (ms : List ℕ) → AreFrom (suc n) ms → AllAt f (suc n) ss ms → AllAt f n (x ∷ ss) ms
unfolding AllAt
all_later f n x ss [] a h = tt
all_later f n x ss (m ∷ ms) a h = (one_later f n m x ss a.0 h.0, all_later f n x ss ms a.1 h.1)

all_step : (b : Bool) (f : PlainSeat → Bool) (n : ℕ) (x : PlainSeat) (ss : List PlainSeat) (ms : List ℕ) → f x ≡ b → AllAt f n (x ∷ ss) ms → AllAt f n (x ∷ ss) (if b then n ∷ ms else ms)
unfolding AllAt
all_step true f n x ss ms e h = (one_here f n x ss e, h)
all_step false f n x ss ms e h = h

all_at : (f : PlainSeat → Bool) (n : ℕ) (ss : List PlainSeat) → AllAt f n ss (where_from f n ss)
unfolding AllAt
all_at f n [] = tt
all_at f n (x ∷ ss) =
    all_step (f x) f n x ss (where_from f (suc n) ss) refl (all_later f n x ss (where_from f (suc n) ss) (where_above f (suc n) ss) (all_at f (suc n) ss))

seat_going : (ss : List PlainSeat) (i : ℕ) → ((s : PlainSeat) → slice_get ss i ≡ Some s → is_waiting s ≡ true) → (t : Thread Origin) → slice_get (map seated ss) i ≡ Some t → t.ended ≡ false
seat_going [] i h t e = absurd (cc)
seat_going (s ∷ ss) zero h t e = let f : seated s ≡ t = cc in ap (λ (x : Thread Origin). x.ended) (sym f) ∙ not-true s.ended (and_parts (not s.ended) (is_none (outcome_in s.job)) (h s refl)).0
seat_going (s ∷ ss) (suc i) h t e = seat_going ss i h t e

all_going : (ss : List PlainSeat) (ns : List (Entry Origin)) → AllAt is_waiting 0 ss (runs_in ns) → AreGoing (map seated ss) ns
unfolding AllAt
all_going ss [] h = tt
all_going ss (The_top ∷ ns) h = (tt, all_going ss ns h)
all_going ss (Runs i ∷ ns) h = (seat_going ss i (h.0 i (sym (zero-add i))), all_going ss ns h.1)
all_going ss (Stops i b ∷ ns) h = (tt, all_going ss ns h)

-- those that wait go on
pub seats_going : (ss : List PlainSeat) (ns : List (Entry Origin)) → where_from is_waiting 0 ss ≡ runs_in ns → AreGoing (map seated ss) ns
seats_going ss ns h = all_going ss ns (subst (λ (ms : List ℕ). AllAt is_waiting 0 ss ms) h (all_at is_waiting 0 ss))

-- ---- filling and forgetting

ended_changed : (f : Thread Origin → Thread Origin) (i j : ℕ) (ts : List (Thread Origin)) → ((t : Thread Origin) → (f t).ended ≡ t.ended) →
    ((t : Thread Origin) → slice_get ts j ≡ Some t → t.ended ≡ false) → (t : Thread Origin) → slice_get (change f i ts) j ≡ Some t → t.ended ≡ false
ended_changed f i j [] h k t e = absurd (cc)
ended_changed f zero zero (x ∷ ts) h k t e = let g : f x ≡ t = cc in ap (λ (y : Thread Origin). y.ended) (sym g) ∙ h x ∙ k x refl
ended_changed f zero (suc j) (x ∷ ts) h k t e = k t e
ended_changed f (suc i) zero (x ∷ ts) h k t e = k t e
ended_changed f (suc i) (suc j) (x ∷ ts) h k t e = ended_changed f i j ts h k t e

going_changed : (f : Thread Origin → Thread Origin) (i : ℕ) (ts : List (Thread Origin)) (ns : List (Entry Origin)) → ((t : Thread Origin) → (f t).ended ≡ t.ended) → AreGoing ts ns → AreGoing (change f i ts) ns
going_changed f i ts [] h k = tt
going_changed f i ts (The_top ∷ ns) h k = (tt, going_changed f i ts ns h k.1)
going_changed f i ts (Runs j ∷ ns) h k = (ended_changed f i j ts h k.0, going_changed f i ts ns h k.1)
going_changed f i ts (Stops j b ∷ ns) h k = (tt, going_changed f i ts ns h k.1)

pub filled_going : (ns : List (Entry Origin)) (js : List Job) (ts : List (Thread Origin)) (ms : List (Entry Origin)) → AreGoing ts ms → AreGoing (filled ns js ts) ms
filled_going [] js ts ms h = h
filled_going (n ∷ ns) [] ts ms h = h
filled_going (The_top ∷ ns) (j ∷ js) ts ms h = filled_going ns js ts ms h
filled_going (Runs i ∷ ns) (j ∷ js) ts ms h = filled_going ns js (change (fill (plain_job j)) i ts) ms (going_changed (fill (plain_job j)) i ts ms (λ t. refl) h)
filled_going (Stops i None ∷ ns) (j ∷ js) ts ms h = filled_going ns (j ∷ js) ts ms h
filled_going (Stops i (Some b) ∷ ns) (j ∷ js) ts ms h = filled_going ns js ts ms h

ended_forgotten : (ts : List (Thread Origin)) (i : ℕ) → ((t : Thread Origin) → slice_get (map (forget the_top) ts) i ≡ Some t → t.ended ≡ false) → (t : Thread Origin) → slice_get ts i ≡ Some t → t.ended ≡ false
ended_forgotten [] i h t e = absurd (cc)
ended_forgotten (x ∷ ts) zero h t e = let f : x ≡ t = cc in ap (λ (y : Thread Origin). y.ended) (sym f) ∙ sym (forget_ended_at the_top x.ended x refl) ∙ h (forget the_top x) refl
ended_forgotten (x ∷ ts) (suc i) h t e = ended_forgotten ts i h t e

pub going_forgotten : (ts : List (Thread Origin)) (ns : List (Entry Origin)) → AreGoing (map (forget the_top) ts) ns → AreGoing ts ns
going_forgotten ts [] h = tt
going_forgotten ts (The_top ∷ ns) h = (tt, going_forgotten ts ns h.1)
going_forgotten ts (Runs i ∷ ns) h = (ended_forgotten ts i h.0, going_forgotten ts ns h.1)
going_forgotten ts (Stops i b ∷ ns) h = (tt, going_forgotten ts ns h.1)

-- the turn of a pair that stands for this one
pub turn_of_standing : (l : Code Origin PlainSet) (taken : List Line) (p q : Pair Origin) → forgotten the_top p ≡ before taken q → AreGoing q.stand.threads q.entries →
    forgotten the_top (turn l p) ≡ before taken (forgotten the_top (turn l q))
turn_of_standing l taken p q h g =
    turn_stands l the_top taken p q h
    (going_forgotten p.stand.threads p.entries (subst (λ (x : Pair Origin). AreGoing x.stand.threads x.entries) (sym h) g))
