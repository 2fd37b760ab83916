-- Jobs that are taken out of their list and put back, over plain variables.
use Rattle.std.proofs.Common.{◌≡◌, ◌≢◌, ℕ, drop, append_assoc, length-append, below_more, ◌+◌, ◌<◌, ◌≤◌, Bool, false, cond, eqb, eq-eqb, ne_eqb, List, [], ◌∷◌, ◌++◌, map, All, length, get_or, set, length-set, get_or-set_same, get_or-set_other, ◌⊎◌, inl, inr, refl, sym, ap, ◌∙◌, subst, arith, Option, Some, None, IsSome, Result, Ok, Err, IfOk}
use Rattle.std.proofs.lemmas.Bool.{cases_eq}
use Rattle.std.proofs.lemmas.List.{length-map, get_or_append_left, get_or-map, map_push, nil_from_length}
use Rattle.std.proofs.Math.Seq.{get_or-append_seam}
use Rattle.std.proofs.lemmas.List.Sums.{sum_by-cons, sum_by-append}
use Rattle.std.proofs.lemmas.List.Elements.{All-push, All-head, All-tail, All-cons}
use Rattle.js_data.proofs.Shared.{drop_next}
use Rattle.js_meaning.specs.State.{Ground}
use Rattle.bp_thread.specs.declared.job.Job.{Job}
use Rattle.bp_thread.specs.Jobs.{plain_job, IsOf}
use Rattle.bp_thread.specs.Carried.{CarriedOut, AreCarriedOut}
use Rattle.bp_pool.specs.declared.seat.Seat.{Seat}
use Rattle.bp_pool.specs.Carrying.{IsCarriedOn}
use Rattle.bp_pool.specs.Seats.{Turned, IsSeat, seats_of, IsOutOrSeated, AreSeated, StaySeated, IsOpen, HaveOwnPlaces}
use Rattle.bp_pool.proofs.Going.{itself, onward, carries_itself}

-- 1 for a seat of the place k, and else 0
abbrev is_at : ℕ → Seat → ℕ
is_at k s = cond (eqb s.place k) 1 0

of_parts : (k : ℕ) (xs ys : List Seat) → seats_of k (xs ++ ys) ≡ seats_of k xs + seats_of k ys
of_parts k xs ys = sum_by-append (is_at k) xs ys

pub of_next : (k : ℕ) (s : Seat) (xs : List Seat) → seats_of k (s ∷ xs) ≡ is_at k s + seats_of k xs
of_next k s xs = sum_by-cons (is_at k) s xs

-- a job with its outcome is back at its place, and one without may have more seats
pub more_seats : (base : Ground) (e : Job) (o : Option Job) (n m : ℕ) → n ≤ m → IsOutOrSeated base e o n → IsOutOrSeated base e o m
more_seats base e (Some x) n m le h = h
more_seats base e None n m le h = omega (arith, h, le)

-- an element in the middle, and the others
pub all_mid : {X : Type 0} (P : X → Type 0) (xs : List X) (y : X) (ys : List X) → All P (xs ++ y ∷ ys) → All P (xs ++ ys) × P y
all_mid P [] y ys a = (All-tail P y ys a, All-head P y ys a)
all_mid P (x ∷ xs) y ys a =
    let r = all_mid P xs y ys (All-tail P x (xs ++ y ∷ ys) a) in
    (All-cons P x (xs ++ ys) (All-head P x (xs ++ y ∷ ys) a) r.0, r.1)

-- a pushed element has what is wanted, and the others keep what they had
pub pushed : {X : Type 0} (P : ℕ → X → Type 0) (xs ys : List X) (x : X) (n : ℕ) → length xs ≡ n → ((k : ℕ) (e : X) → k < n → P k (get_or xs k e)) → P n x → ys ≡ xs ++ x ∷ [] →
    (k : ℕ) (e : X) → k < n + 1 → P k (get_or ys k e)
pushed P xs ys x n long was here is k e lt =
    below_more (λ j. (f : _) → P j (get_or ys j f)) n
    (λ j low f. subst (P j) (sym (ap (λ l. get_or l j f) is ∙ get_or_append_left xs (x ∷ []) f j (omega arith))) (was j f low))
    (λ f. subst (P n) (sym (ap (λ l. get_or l n f) is ∙ ap (λ j. get_or (xs ++ x ∷ []) j f) (sym long) ∙ get_or-append_seam xs x [] f)) here) k lt e

-- ---- jobs are taken out of their list

-- the first jobs have been looked at, and these are left
pub record TakenOut (base : Ground) (jobs : List Job) (done : List (Option Job)) (seats : List Seat) (rest : List Job) : Type 0 where
  pub left : drop (length done) jobs ≡ rest
  pub within : length done ≤ length jobs
  pub each : (k : ℕ) (d : Job) (o : Option Job) → k < length done → IsOutOrSeated base (get_or jobs k d) (get_or done k o) (seats_of k seats)
  pub own : All (IsSeat base jobs) seats
  pub opens : All (IsOpen base) seats
  pub once : HaveOwnPlaces seats
  pub none : (place : ℕ) → length done ≤ place → seats_of place seats ≡ 0

-- the next job has its outcome, and stays in the list
pub stays_in : (base : Ground) (jobs rest after : List Job) (done more : List (Option Job)) (seats : List Seat) (x : Job) → TakenOut base jobs done seats rest → rest ≡ x ∷ after →
    IsSome (plain_job x).outcome → more ≡ done ++ Some x ∷ [] → TakenOut base jobs more seats after
stays_in base jobs rest after done more seats x t step out is =
    let n = length done in
    let h = drop_next jobs n x after (t.left ∙ step) in
    let lt = h.0 in
    let long : length more ≡ n + 1 = omega (arith, ap length is, length-append {A = Option Job}) in
    record {
      left = rw long h.2;
      within = omega (arith, lt, long);
      each = λ k d o low. pushed (λ j (y : Option Job). (c : Job) → IsOutOrSeated base (get_or jobs j c) y (seats_of j seats)) done more (Some x) n refl (λ j f b c. t.each j c f b)
          (λ c b. subst (λ (e : Job). CarriedOut base b e x) (sym (h.1 c)) (record { carries = carries_itself base b x; outcome = out })) is k o (omega (arith, low, long)) d;
      own = t.own;
      opens = t.opens;
      once = t.once;
      none = λ place le. t.none place (omega (arith, le, long));
    }

pub seat_here : (k : ℕ) (s : Seat) → s.place ≡ k → is_at k s ≡ 1
seat_here k s e = ap (λ (b : Bool). cond b 1 0) (eq-eqb s.place k e)

no_seat_here : (k : ℕ) (s : Seat) → s.place ≢ k → is_at k s ≡ 0
no_seat_here k s e = ap (λ (b : Bool). cond b 1 0) (ne_eqb s.place k e)

-- a seat of the next place is the only one of it
still_once : (seats many : List Seat) (s : Seat) (n k : ℕ) → many ≡ seats ++ s ∷ [] → s.place ≡ n → HaveOwnPlaces seats → seats_of n seats ≡ 0 → (k ≡ n) ⊎ (k ≢ n) → seats_of k many ≤ 1
still_once seats many s n k put place once none (inl q) =
    let e = ap (seats_of k) put ∙ of_parts k seats (s ∷ []) ∙ ap (λ m. seats_of k seats + m) (of_next k s []) in
    let here = seat_here k s (place ∙ sym q) in
    let before : seats_of k seats ≡ 0 = subst (λ (m : ℕ). seats_of m seats ≡ 0) (sym q) none in
    omega arith
still_once seats many s n k put place once none (inr q) =
    let e = ap (seats_of k) put ∙ of_parts k seats (s ∷ []) ∙ ap (λ m. seats_of k seats + m) (of_next k s []) in
    let there = no_seat_here k s (λ p. q (sym p ∙ place)) in
    let before = once k in
    omega arith

-- the next job has no outcome, and gets a seat
pub gets_seat : (base : Ground) (jobs rest after : List Job) (done more : List (Option Job)) (seats many : List Seat) (x : Job) (s : Seat) → TakenOut base jobs done seats rest → rest ≡ x ∷ after →
    All (IsOf base.program) jobs → (plain_job x).outcome ≡ None → (at : ℕ) → s ≡ record { place = at; job = x; lost = false } → at ≡ length done → more ≡ done ++ None ∷ [] → many ≡ seats ++ s ∷ [] →
    TakenOut base jobs more many after
gets_seat base jobs rest after done more seats many x s t step all out at here at_end is put =
    let n = length done in
    let h = drop_next jobs n x after (t.left ∙ step) in
    let lt = h.0 in
    let long : length more ≡ n + 1 = omega (arith, ap length is, length-append {A = Option Job}) in
    let place : s.place ≡ n = ap (λ (u : Seat). u.place) here ∙ at_end in
    let job : s.job ≡ x = ap (λ (u : Seat). u.job) here in
    let counts = λ (k : ℕ). ap (seats_of k) put ∙ of_parts k seats (s ∷ []) ∙ ap (λ m. seats_of k seats + m) (of_next k s []) in
    let one = counts n in
    let first = seat_here n s place in
    let seat : IsSeat base jobs s = record {
      within = omega (arith, lt, place);
      of_program = subst (IsOf base.program) (h.1 x ∙ sym job) (all n x lt);
      carried = λ ok d. subst (λ (y : Job). IsCarriedOn base y s.job) (job ∙ sym (h.1 d) ∙ ap (λ m. get_or jobs m d) (sym place)) (itself base s.job);
    } in
    record {
      left = rw long h.2;
      within = omega (arith, lt, long);
      each = λ k d o low. pushed (λ j (y : Option Job). (c : Job) → IsOutOrSeated base (get_or jobs j c) y (seats_of j many)) done more None n refl
          (λ j f b c. more_seats base (get_or jobs j c) (get_or done j f) (seats_of j seats) (seats_of j many) (let e = counts j in omega arith) (t.each j c f b))
          (λ c. omega (arith, one, first)) is k o (omega (arith, low, long)) d;
      own = subst (All (IsSeat base jobs)) (sym put) (All-push (IsSeat base jobs) seats s t.own seat);
      opens = subst (All (IsOpen base)) (sym put) (All-push (IsOpen base) seats s t.opens (record { of_program = seat.of_program; still = ap (λ (j : Job). (plain_job j).outcome) job ∙ out; there = ap (λ (u : Seat). u.lost) here }));
      once = λ k. still_once seats many s n k put place t.once (t.none n (omega arith)) (cases_eq k n);
      none = λ k le.
          let e = counts k in
          let there = no_seat_here k s (λ p. omega (arith, le, long, p, place)) in
          let before = t.none k (omega (arith, le, long)) in
          omega arith;
    }

-- ---- jobs are put back at their places

-- some seats were looked at: these are left of them, and these are still to be looked at
pub record PuttingBack (base : Ground) (before : List (Option Job)) (seats : List Seat) (done : List (Option Job)) (left rest : List Seat) : Type 0 where
  pub seated : StaySeated base before seats done (left ++ rest)
  pub within : All (λ (s : Seat). s.place < length done) rest

back_at : (base : Ground) (jobs : List Job) (done : List (Option Job)) (left after : List Seat) (s : Seat) → AreSeated base jobs done (left ++ s ∷ after) → s.lost ≡ false → IsSome (plain_job s.job).outcome →
    (k : ℕ) (d : Job) (o : Option Job) → k < length jobs → (k ≡ s.place) ⊎ (k ≢ s.place) → IsOutOrSeated base (get_or jobs k d) (get_or (set done s.place (Some s.job)) k o) (seats_of k (left ++ after))
back_at base jobs done left after s a ok out k d o lt (inl q) =
    let seat : IsSeat base jobs s = (all_mid (IsSeat base jobs) left s after a.own).1 in
    let many = a.as_many in
    let low : s.place < length done = omega (arith, lt, q, many) in
    let here : get_or (set done s.place (Some s.job)) k o ≡ Some s.job = ap (λ (n : ℕ). get_or (set done s.place (Some s.job)) n o) q ∙ get_or-set_same done s.place (Some s.job) o low in
    let on : IsCarriedOn base (get_or jobs k d) s.job = subst (λ (n : ℕ). IsCarriedOn base (get_or jobs n d) s.job) (sym q) (seat.carried ok d) in
    let done_here : (budget : ℕ) → CarriedOut base budget (get_or jobs k d) s.job = λ budget. record { carries = on.carries budget; outcome = out } in
    subst (λ (x : Option Job). IsOutOrSeated base (get_or jobs k d) x (seats_of k (left ++ after))) (sym here) done_here
back_at base jobs done left after s a ok out k d o lt (inr q) =
    let there : get_or (set done s.place (Some s.job)) k o ≡ get_or done k o = get_or-set_other done s.place k (Some s.job) o q in
    let none = no_seat_here k s (λ e. q (sym e)) in
    let e = of_parts k left (s ∷ after) in
    let f = of_next k s after in
    let g = of_parts k left after in
    subst (λ (x : Option Job). IsOutOrSeated base (get_or jobs k d) x (seats_of k (left ++ after))) (sym there)
    (more_seats base (get_or jobs k d) (get_or done k o) (seats_of k (left ++ s ∷ after)) (seats_of k (left ++ after)) (omega arith) (a.each k d o lt))

-- the next seat's job has its outcome, and is put back
pub gets_back : (base : Ground) (before done : List (Option Job)) (seats left rest after : List Seat) (s : Seat) → PuttingBack base before seats done left rest → rest ≡ s ∷ after →
    s.lost ≡ false → IsSome (plain_job s.job).outcome → PuttingBack base before seats (set done s.place (Some s.job)) left after
gets_back base before done seats left rest after s p step ok out = record {
  seated = record {
    stay = λ jobs h.
        let a = subst (λ (l : List Seat). AreSeated base jobs done (left ++ l)) step (p.seated.stay jobs h) in
        record {
          as_many = length-set done s.place (Some s.job) ∙ a.as_many;
          each = λ k d o lt. back_at base jobs done left after s a ok out k d o lt (cases_eq k s.place);
          own = (all_mid (IsSeat base jobs) left s after a.own).0;
        };
  };
  within = (let w = All-tail (λ (u : Seat). u.place < length done) s after (subst (All (λ (u : Seat). u.place < length done)) step p.within) in
      λ k d lt. subst (λ (n : ℕ). (get_or after k d).place < n) (sym (length-set done s.place (Some s.job))) (w k d lt));
}

pub gets_back_from : (base : Ground) (before done : List (Option Job)) (seats left rest after : List Seat) (s : Seat) (parts : ℕ × Job) → PuttingBack base before seats done left rest → rest ≡ s ∷ after →
    s.lost ≡ false → IsSome (plain_job s.job).outcome → parts ≡ (s.place, s.job) → PuttingBack base before seats (set done parts.0 (Some parts.1)) left after
gets_back_from base before done seats left rest after s parts p step ok out e =
    subst (λ (x : ℕ × Job). PuttingBack base before seats (set done x.0 (Some x.1)) left after) (sym e) (gets_back base before done seats left rest after s p step ok out)

pub place_within : (done : List (Option Job)) (rest after : List Seat) (s : Seat) (parts : ℕ × Job) (n : ℕ) → All (λ (u : Seat). u.place < length done) rest → rest ≡ s ∷ after → parts ≡ (s.place, s.job) →
    n ≡ length done → parts.0 < n
place_within done rest after s parts n all step e long =
    let here = All-head (λ (u : Seat). u.place < length done) s after (subst (All (λ (u : Seat). u.place < length done)) step all) in
    let place : parts.0 ≡ s.place = ap (λ (x : ℕ × Job). x.0) e in
    omega (arith, here, place, long)

-- a seat whose job was carried on is one of the list still
pub seat_turned : (base : Ground) (jobs : List Job) (s t : Seat) → IsSeat base jobs s → Turned base s t → IsSeat base jobs t
seat_turned base jobs s t h k =
    let w = h.within in
    let p = k.place in
    record {
      within = omega (arith, w, p);
      of_program = k.of_program;
      carried = λ ok d.
          let c = k.carried ok in
          let was = h.carried c.0 d in
          onward base (get_or jobs t.place d) s.job t.job (subst (λ (n : ℕ). IsCarriedOn base (get_or jobs n d) s.job) (sym p) was) c.1;
    }

-- each seat is of a place of the list
pub seats_within : (base : Ground) (jobs : List Job) (done : List (Option Job)) (seats : List Seat) → AreSeated base jobs done seats → All (λ (s : Seat). s.place < length done) seats
seats_within base jobs done seats a k d lt = let w = (a.own k d lt).within in let m = a.as_many in omega (arith, w, m)

done_there : (base : Ground) (e : Job) (o : Option Job) → IsOutOrSeated base e o 0 → IsSome o
done_there base e None h = absurd (omega (arith, h))
done_there base e (Some x) h = refl

-- where nobody has a seat, each job is back
pub all_there : (base : Ground) (jobs : List Job) (done : List (Option Job)) (seats : List Seat) → AreSeated base jobs done seats → length seats ≡ 0 → All (λ (o : Option Job). IsSome o) done
all_there base [] done seats a none k o lt = (let m = a.as_many in absurd (omega (arith, lt, m)))
all_there base (j ∷ js) done seats a none k o lt =
    let m = a.as_many in
    done_there base (get_or (j ∷ js) k j) (get_or done k o) (subst (λ (l : List Seat). IsOutOrSeated base (get_or (j ∷ js) k j) (get_or done k o) (seats_of k l)) (nil_from_length seats none) (a.each k j o (omega (arith, lt, m))))

-- and each is carried out
pub all_out : (base : Ground) (budget : ℕ) (jobs out : List Job) (done : List (Option Job)) (seats : List Seat) → AreSeated base jobs done seats → map (λ (j : Job). Some j) out ≡ done → AreCarriedOut base budget jobs out
all_out base budget jobs out done seats a is =
    let m = a.as_many in
    let long : length out ≡ length jobs = sym (length-map out (λ (j : Job). Some j)) ∙ ap length is ∙ m in
    record {
      as_many = long;
      each = λ k d e lt.
          let there : get_or done k None ≡ Some (get_or out k e) = sym (ap (λ (l : List (Option Job)). get_or l k None) is) ∙ get_or-map (λ (j : Job). Some j) out k e None (omega (arith, lt, long)) in
          subst (λ (o : Option Job). IsOutOrSeated base (get_or jobs k d) o (seats_of k seats)) there (a.each k d None lt) budget;
    }

-- ---- the list is whole again

-- these jobs were gathered, and these places are left
pub record Gathered (done : List (Option Job)) (jobs : List Job) (rest : List (Option Job)) : Type 0 where
  pub same : map (λ (j : Job). Some j) jobs ++ rest ≡ done
  pub there : All (λ (o : Option Job). IsSome o) rest

pub gathered_next : (done rest after : List (Option Job)) (jobs more : List Job) (x : Job) → Gathered done jobs rest → rest ≡ Some x ∷ after → more ≡ jobs ++ x ∷ [] → Gathered done more after
gathered_next done rest after jobs more x g step is = record {
  same = ap (λ (l : List Job). map (λ (j : Job). Some j) l ++ after) is ∙ ap (λ (l : List (Option Job)). l ++ after) (map_push (λ (j : Job). Some j) jobs x)
      ∙ append_assoc (map (λ (j : Job). Some j) jobs) (Some x ∷ []) after ∙ ap (λ (l : List (Option Job)). map (λ (j : Job). Some j) jobs ++ l) (sym step) ∙ g.same;
  there = All-tail (λ (o : Option Job). IsSome o) (Some x) after (subst (All (λ (o : Option Job). IsSome o)) step g.there);
}

pub all_out_if : {V E : Type 0} (r : Result V E) (items : V → List Job) (base : Ground) (jobs : List Job) (done : List (Option Job)) (seats : List Seat) → AreSeated base jobs done seats →
    IfOk r (λ v. map (λ (j : Job). Some j) (items v) ≡ done) → (budget : ℕ) → IfOk r (λ v. AreCarriedOut base budget jobs (items v))
all_out_if (Ok v) items base jobs done seats a is budget = all_out base budget jobs (items v) done seats a is
all_out_if (Err e) items base jobs done seats a is budget = tt
