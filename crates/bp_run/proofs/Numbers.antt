-- Entries are of distinct registered b-threads, and an event does to each b-thread what its own statement says.
use Rattle.std.proofs.Common.{◌≡◌, ℕ, zero, suc, ◌+◌, ◌<◌, ◌≤◌, Bool, true, false, List, [], ◌∷◌, ◌++◌, length, map, refl, sym, ap, ◌∙◌, subst, arith, Option, Some, None, Ok, Err, if◌then◌else◌, ◌==◌, nat_eq, slice_get, option_map, length-append, add-one}
use Rattle.std.proofs.lemmas.Bool.{eqb-true, eq-eqb, ne_eqb}
use Rattle.std.proofs.lemmas.List.{map-append}
use Rattle.std.specs.List.{cons_option}
use Rattle.std.proofs.lemmas.Iterator.Adapters.{option_map_id}
use Rattle.js_data.specs.Event.{PlainEvent}
use Rattle.bp_log.specs.declared.limits.TheConstants.{MOST_WAITING, MOST_THREADS}
use Rattle.bp_log.specs.declared.verdict.Verdict.{Verdict}
use Rattle.bp_log.specs.declared.verdict.Verdict.TheVariants as verdict
use Rattle.bp_log.specs.declared.verdict.Place.{Place}
use Rattle.bp_run.specs.Bodies.{Code, Part, Effect, Outcome}
use Rattle.bp_run.specs.Bodies.Effect.{Says, Enqueue, Register, Handler}
use Rattle.bp_run.specs.Bodies.Outcome.{Stopped, Ended, Broken, Violated, Spent}
use Rattle.bp_run.specs.Configuration.{Stand, Thread, change}
use Rattle.bp_run.specs.Settling.{Entry, Pair, Ran, ran, unless_at, unless_over, stopped, queued, registered, with_effect, with_effects, with_end, with_outcome, with_part, merged, turn, place_of}
use Rattle.bp_run.specs.Settling.Entry.{The_top, Runs, Stops}
use Rattle.bp_run.specs.Selecting.{Live, Has, Asked, by_number, both, without_fault, stated, at_stop, live_from, live, requests}
use Rattle.bp_run.specs.Choosing.{Touched, touched, reach, moves_if}
use Rattle.bp_run.specs.Choosing.Touched.{Moves, Interrupts}
use Rattle.bp_run.specs.Story.{touch, touch_all, stepped, entry_of}
use Rattle.bp_run.specs.Numbers.{number_of, number_in, numbers_from, IsRising, touch_at, after_touch, touch_of}
use Rattle.bp_run.proofs.Turns.{length-change}

-- ---- the entries of a turn

-- the entries are those that were registered since there were this many b-threads
record Waved {O : Type 0} (first : ℕ) (p : Pair O) : Type 0 where
  pub count : ℕ
  pub entries : p.entries ≡ map Runs (numbers_from first count)
  pub threads : length p.stand.threads ≡ first + count

waved_unless : {O : Type 0} (n : ℕ) (v : Option Verdict) (f : Pair O → Pair O) (p : Pair O) → (Waved n p → Waved n (f p)) → Waved n p → Waved n (unless_at v f p)
waved_unless n None f p g w = g w
waved_unless n (Some v) f p g w = w

waved_if : {O : Type 0} (n : ℕ) (b : Bool) (p q : Pair O) → Waved n p → Waved n q → Waved n (if b then p else q)
waved_if n true p q g h = g
waved_if n false p q g h = h

waved_registered : {O : Type 0} (n : ℕ) (name : List ℕ) (o : O) (p : Pair O) → Waved n p → Waved n (registered name o p)
waved_registered n name o p w =
    let more = length-append p.stand.threads (record { name = name; origin = o; replies = []; ended = false } ∷ []) in
    let t = w.threads in
    record {
      count = suc w.count;
      entries =
          ap (λ (es : List (Entry _)). es ++ Runs (length p.stand.threads) ∷ []) w.entries
          ∙ ap (λ (k : ℕ). map Runs (numbers_from n w.count) ++ Runs k ∷ []) w.threads
          ∙ sym (map-append Runs (numbers_from n w.count) ((n + w.count) ∷ []));
      threads = omega (arith, more, t);
    }

waved_effect : {O : Type 0} (n : ℕ) (at : Place) (x : Effect O) (p : Pair O) → Waved n p → Waved n (with_effect at x p)
waved_effect n at (Says t) p w = record { count = w.count; entries = w.entries; threads = w.threads }
waved_effect n at (Enqueue e) p w =
    waved_if n (length p.stand.queue == MOST_WAITING) (stopped verdict.Queue p) (record p { stand = queued e p.stand })
    (record { count = w.count; entries = w.entries; threads = w.threads }) (record { count = w.count; entries = w.entries; threads = w.threads })
waved_effect n at (Register name o) p w =
    waved_if n (length p.stand.threads == MOST_THREADS) (stopped verdict.Threads p) (registered name o p)
    (record { count = w.count; entries = w.entries; threads = w.threads }) (waved_registered n name o p w)
waved_effect n at Handler p w = w

waved_effects : {O : Type 0} (n : ℕ) (at : Place) (xs : List (Effect O)) (p : Pair O) → Waved n p → Waved n (with_effects at xs p)
waved_effects n at [] p w = w
waved_effects n at (x ∷ xs) p w = waved_effects n at xs (unless_over (with_effect at x) p) (waved_unless n p.stand.verdict (with_effect at x) p (waved_effect n at x p) w)

waved_end : {O : Type 0} (n : ℕ) (e : Entry O) (p : Pair O) → Waved n p → Waved n (with_end e p)
waved_end n The_top p w = w
waved_end n (Runs i) p w = record { count = w.count; entries = w.entries; threads = length-change (λ t. record t { ended = true }) i p.stand.threads ∙ w.threads }
waved_end n (Stops i b) p w = record { count = w.count; entries = w.entries; threads = w.threads }

waved_outcome : {O S : Type 0} (n : ℕ) (e : Entry O) (x : Outcome S) (p : Pair O) → Waved n p → Waved n (with_outcome e x p)
waved_outcome n e (Stopped s) p w = w
waved_outcome n e Ended p w = waved_end n e p w
waved_outcome n e (Broken f l) p w = record { count = w.count; entries = w.entries; threads = w.threads }
waved_outcome n e (Violated t) p w = record { count = w.count; entries = w.entries; threads = w.threads }
waved_outcome n e Spent p w = record { count = w.count; entries = w.entries; threads = w.threads }

waved_part : {O S : Type 0} (n : ℕ) (e : Entry O) (x : Part O S) (p : Pair O) → Waved n p → Waved n (with_part e x p)
waved_part n e x p w =
    let q = with_effects (place_of p.stand e) x.effects p in
    waved_unless n q.stand.verdict (with_outcome e x.outcome) q (waved_outcome n e x.outcome q) (waved_effects n (place_of p.stand e) x.effects p w)

waved_merged : {O S : Type 0} (n : ℕ) (rs : List (Ran O S)) (p : Pair O) → Waved n p → Waved n (merged rs p)
waved_merged n [] p w = w
waved_merged n (r ∷ rs) p w =
    waved_merged n rs (unless_over (with_part r.entry r.part) p) (waved_unless n p.stand.verdict (with_part r.entry r.part) p (waved_part n r.entry r.part p) w)

-- the entries that a turn leaves are the b-threads that it registered
pub turn_entries : {O S : Type 0} (l : Code O S) (p : Pair O) →
    (count : ℕ) × ((turn l p).entries ≡ map Runs (numbers_from (length p.stand.threads) count)) × (length (turn l p).stand.threads ≡ length p.stand.threads + count)
unfolding turn
turn_entries l p =
    let w = waved_merged (length p.stand.threads) (map (ran l p.stand) p.entries) (record { stand = p.stand; entries = [] })
    (record { count = 0; entries = refl; threads = omega arith }) in
    (w.count, w.entries, w.threads)

-- ---- rising numbers

rising_last : (low n : ℕ) (ns : List ℕ) → low ≤ n → IsRising low n ns → IsRising low (n + 1) (ns ++ n ∷ [])
rising_last low n [] h k = (h, omega arith, tt)
rising_last low n (m ∷ ns) h k = let a = k.0 in let b = k.1 in (a, omega (arith, b), rising_last (m + 1) n ns (omega (arith, b)) k.2)

pub rising_numbers : (first n : ℕ) → IsRising first (first + n) (numbers_from first n)
rising_numbers first zero = tt
rising_numbers first (suc n) =
    subst (λ (high : ℕ). IsRising first high (numbers_from first (suc n))) (omega arith)
    (rising_last first (first + n) (numbers_from first n) (omega arith) (rising_numbers first n))

rising_lower : (low m high : ℕ) (ns : List ℕ) → low ≤ m → IsRising m high ns → IsRising low high ns
rising_lower low m high [] h k = tt
rising_lower low m high (n ∷ ns) h k = let a = k.0 in (omega (arith, a), k.1, k.2)

map_numbers : (O : Type 0) (ns : List ℕ) → let run : ℕ → Entry O = λ n. Runs n in map number_of (map run ns) ≡ ns
map_numbers O [] = refl
map_numbers O (n ∷ ns) = ap (λ (ms : List ℕ). n ∷ ms) (map_numbers O ns)

-- the entries of a turn are of distinct registered b-threads
pub turn_rising : {O S : Type 0} (l : Code O S) (p : Pair O) → IsRising (length p.stand.threads) (length (turn l p).stand.threads) (map number_of (turn l p).entries)
turn_rising {O} l p =
    let w = turn_entries l p in
    rw (w.1, w.2, map_numbers O (numbers_from (length p.stand.threads) w.0)) (rising_numbers (length p.stand.threads) w.0)

-- ---- live b-threads

abbrev numbers : {S : Type 0} → List (Live S) → List ℕ
numbers ts = map (λ t. t.number) ts

stop_number : {S : Type 0} (n : ℕ) (x : Outcome S) (rest : List (Live S)) (high : ℕ) → n < high → IsRising (n + 1) high (numbers rest) → IsRising n high (numbers (cons_option (at_stop n x) rest))
stop_number n (Stopped s) rest high h k = (omega arith, h, k)
stop_number n Ended rest high h k = rising_lower n (n + 1) high (numbers rest) (omega arith) k
stop_number n (Broken f l) rest high h k = rising_lower n (n + 1) high (numbers rest) (omega arith) k
stop_number n (Violated t) rest high h k = rising_lower n (n + 1) high (numbers rest) (omega arith) k
stop_number n Spent rest high h k = rising_lower n (n + 1) high (numbers rest) (omega arith) k

stated_number : {S : Type 0} (n : ℕ) (b : Bool) (x : Outcome S) (rest : List (Live S)) (high : ℕ) → n < high → IsRising (n + 1) high (numbers rest) →
    IsRising n high (numbers (cons_option (if b then None else at_stop n x) rest))
stated_number n true x rest high h k = rising_lower n (n + 1) high (numbers rest) (omega arith) k
stated_number n false x rest high h k = stop_number n x rest high h k

rising_from : {O S : Type 0} (l : Code O S) (n : ℕ) (ts : List (Thread O)) (high : ℕ) → n + length ts ≤ high → IsRising n high (numbers (live_from l n ts))
rising_from l n [] high h = tt
rising_from l n (t ∷ ts) high h =
    stated_number n t.ended (l.after t.origin t.replies).outcome (live_from l (suc n) ts) high (omega arith)
    (subst (λ (m : ℕ). IsRising m high (numbers (live_from l (suc n) ts))) (sym (add-one n)) (rising_from l (suc n) ts high (omega arith)))

-- live b-threads are distinct and registered
pub live_rising : {O S : Type 0} (l : Code O S) (s : Stand O) → IsRising 0 (length s.threads) (numbers (live l s))
live_rising l s = rising_from l 0 s.threads (length s.threads) (omega arith)

-- ---- reach

pub both_ok : {A B C : Type 0} (f : A → B → C) (x : Asked A) (y : Asked B) (c : C) → both f x y ≡ Ok c → (a : A) × (b : B) × (x ≡ Ok a) × (y ≡ Ok b) × (c ≡ f a b)
both_ok f (Err e) y c h = absurd (cc)
both_ok f (Ok a) (Err e) c h = absurd (cc)
both_ok f (Ok a) (Ok b) c h = (a, b, refl, refl, cc)

-- what happens to a b-thread bears its number
abbrev IsOf : ℕ → Option Touched → Type 0
IsOf n None = Unit {0}
IsOf n (Some x) = number_in x ≡ n

moves_of : (n : ℕ) (x : Asked Bool) (o : Option Touched) → without_fault (moves_if n) x ≡ Ok o → IsOf n o
moves_of n (Err e) o h = absurd (cc)
moves_of n (Ok true) None h = absurd (cc)
moves_of n (Ok true) (Some x) h = let e : Moves n ≡ x = cc in ap number_in (sym e)
moves_of n (Ok false) None h = tt
moves_of n (Ok false) (Some x) h = absurd (cc)

some_of : (x : Touched) (o : Option Touched) → let a : Asked (Option Touched) = Ok (Some x) in a ≡ Ok o → IsOf (number_in x) o
some_of x None h = absurd (cc)
some_of x (Some y) h = let e : x ≡ y = cc in ap number_in (sym e)

touched_at : (n : ℕ) (i : Asked Bool) (r : Bool) (w : Asked Bool) (o : Option Touched) →
    let a : Asked (Option Touched) = elim i [ Err x ↦ Err x | Ok b ↦ elim b [ true ↦ Ok (Some (Interrupts n)) | false ↦ elim r [ true ↦ Ok (Some (Moves n)) | false ↦ without_fault (moves_if n) w ] ] ] in
    a ≡ Ok o → IsOf n o
touched_at n (Err e) r w o h = absurd (cc)
touched_at n (Ok true) r w o h = some_of (Interrupts n) o h
touched_at n (Ok false) true w o h = some_of (Moves n) o h
touched_at n (Ok false) false w o h = moves_of n w o h

touched_of : {S : Type 0} (has : Has S) (e : PlainEvent) (t : Live S) (o : Option Touched) → touched has e t ≡ Ok o → IsOf t.number o
touched_of has e t o h = touched_at t.number (by_number t.number (has t.statement.interrupt e)) (requests e t) (by_number t.number (has t.statement.wait_for e)) o h

rising_touch : (n low high : ℕ) (o : Option Touched) (r : List Touched) → IsOf n o → low ≤ n → n < high → IsRising (n + 1) high (map number_in r) → IsRising low high (map number_in (cons_option o r))
rising_touch n low high None r h a b k = rising_lower low (n + 1) high (map number_in r) (omega arith) k
rising_touch n low high (Some x) r h a b k = rw h (a, b, k)

-- who is reached is live, and in order
pub reach_rising : {S : Type 0} (has : Has S) (e : PlainEvent) (ts : List (Live S)) (r : List Touched) (low high : ℕ) → reach has e ts ≡ Ok r → IsRising low high (numbers ts) → IsRising low high (map number_in r)
unfolding reach
reach_rising has e [] r low high h k = let f : [] ≡ r = cc in subst (λ (x : List Touched). IsRising low high (map number_in x)) f tt
reach_rising has e (t ∷ ts) r low high h k =
    let b = both_ok cons_option (touched has e t) (reach has e ts) r h in
    subst (λ (x : List Touched). IsRising low high (map number_in x)) (sym b.4)
    (rising_touch t.number low high b.0 b.1 (touched_of has e t b.0 b.2) k.0 k.1 (reach_rising has e ts b.1 (t.number + 1) high b.3 k.2))

pub entry_number : {O S : Type 0} (l : Code O S) (s : Stand O) (e : PlainEvent) (r : List Touched) → map number_of (map (entry_of l s e) r) ≡ map number_in r
entry_number l s e [] = refl
entry_number l s e (Moves i ∷ r) = ap (λ (ns : List ℕ). i ∷ ns) (entry_number l s e r)
entry_number l s e (Interrupts i ∷ r) = ap (λ (ns : List ℕ). i ∷ ns) (entry_number l s e r)

-- the entries after a transition are of distinct registered b-threads
pub stepped_rising : {O S : Type 0} (l : Code O S) (s : Stand O) (e : PlainEvent) (place : Option ℕ) (r : List Touched) → reach l.has e (live l s) ≡ Ok r →
    IsRising 0 (length s.threads) (map number_of (stepped l s e place r).entries)
stepped_rising l s e place r h = rw (entry_number l s e r) (reach_rising l.has e (live l s) r 0 (length s.threads) h (live_rising l s))

-- ---- each b-thread by itself

passed_at : (m i : ℕ) (x : Touched) (r : List Touched) → number_in x ≡ m → (m ≡ i → ⊥) → touch_at i (x ∷ r) ≡ touch_at i r
passed_at m i x r h k = let f : nat_eq (number_in x) i ≡ false = ne_eqb (number_in x) i (λ e. k (sym h ∙ e)) in rw f refl

found_at : (i : ℕ) (x : Touched) (r : List Touched) → number_in x ≡ i → touch_at i (x ∷ r) ≡ Some x
found_at i x r h = let f : nat_eq (number_in x) i ≡ true = eq-eqb (number_in x) i h in rw f refl

untouched : (i low high : ℕ) (r : List Touched) → i < low → IsRising low high (map number_in r) → touch_at i r ≡ None
untouched i low high [] h k = refl
untouched i low high (x ∷ r) h k =
    let a = k.0 in
    passed_at (number_in x) i x r refl (λ e. omega (arith, a, e)) ∙ untouched i (number_in x + 1) high r (omega (arith, a)) k.2

here : (n high : ℕ) (o : Option Touched) (r : List Touched) → IsOf n o → IsRising (n + 1) high (map number_in r) → touch_at n (cons_option o r) ≡ o
here n high None r h k = untouched n (n + 1) high r (omega arith) k
here n high (Some x) r h k = found_at n x r h

further : (n i : ℕ) (o : Option Touched) (r : List Touched) → IsOf n o → n < i → touch_at i (cons_option o r) ≡ touch_at i r
further n i None r h k = refl
further n i (Some x) r h k = passed_at n i x r h (λ e. omega (arith, e, k))

-- the first one by itself, and the rest
record Split {O S : Type 0} (l : Code O S) (e : PlainEvent) (n : ℕ) (t : Thread O) (ts : List (Thread O)) (r : List Touched) : Type 0 where
  pub one : Option Touched
  pub rest : List Touched
  pub one_is : touch_of l.has e (stated l n t) ≡ Ok one
  pub rest_is : reach l.has e (live_from l (suc n) ts) ≡ Ok rest
  pub all_is : r ≡ cons_option one rest
  pub of : IsOf n one

split_at : {O S : Type 0} (l : Code O S) (e : PlainEvent) (n : ℕ) (s : Option (Live S)) (more : List (Live S)) (r : List Touched) → ((t : Live S) → s ≡ Some t → t.number ≡ n) →
    reach l.has e (cons_option s more) ≡ Ok r →
    (one : Option Touched) × (rest : List Touched) × (touch_of l.has e s ≡ Ok one) × (reach l.has e more ≡ Ok rest) × (r ≡ cons_option one rest) × IsOf n one
unfolding reach
split_at l e n None more r h k = (None, r, refl, k, refl, tt)
split_at l e n (Some t) more r h k =
    let b = both_ok cons_option (touched l.has e t) (reach l.has e more) r k in
    (b.0, b.1, b.2, b.3, b.4, subst (λ (m : ℕ). IsOf m b.0) (h t refl) (touched_of l.has e t b.0 b.2))

stop_is_of : {S : Type 0} (n : ℕ) (x : Outcome S) (t : Live S) → at_stop n x ≡ Some t → t.number ≡ n
stop_is_of n (Stopped s) t h = let e : record { number = n; statement = s } ≡ t = cc in ap (λ (u : Live _). u.number) (sym e)
stop_is_of n Ended t h = absurd (cc)
stop_is_of n (Broken f l) t h = absurd (cc)
stop_is_of n (Violated m) t h = absurd (cc)
stop_is_of n Spent t h = absurd (cc)

stated_is_of : {S : Type 0} (n : ℕ) (b : Bool) (x : Outcome S) (t : Live S) → (if b then None else at_stop n x) ≡ Some t → t.number ≡ n
stated_is_of n true x t h = absurd (cc)
stated_is_of n false x t h = stop_is_of n x t h

split : {O S : Type 0} (l : Code O S) (e : PlainEvent) (n : ℕ) (t : Thread O) (ts : List (Thread O)) (r : List Touched) → reach l.has e (live_from l n (t ∷ ts)) ≡ Ok r → Split l e n t ts r
split l e n t ts r h =
    let b = split_at l e n (stated l n t) (live_from l (suc n) ts) r (λ u k. stated_is_of n t.ended (l.after t.origin t.replies).outcome u k) h in
    record { one = b.0; rest = b.1; one_is = b.2; rest_is = b.3; all_is = b.4; of = b.5 }

reach_each_from : {O S : Type 0} (l : Code O S) (e : PlainEvent) (n i m : ℕ) (ts : List (Thread O)) (r : List Touched) (t : Thread O) → reach l.has e (live_from l n ts) ≡ Ok r →
    slice_get ts i ≡ Some t → m ≡ n + i → touch_of l.has e (stated l m t) ≡ Ok (touch_at m r)
reach_each_from l e n i m [] r t h k q = absurd (cc)
reach_each_from l e n zero m (u ∷ ts) r t h k q =
    let b = split l e n u ts r h in
    let s : u ≡ t = cc in
    let m_is : n ≡ m = omega (arith, q) in
    let up = reach_rising l.has e (live_from l (suc n) ts) b.rest (suc n) (suc n + length ts) b.rest_is (rising_from l (suc n) ts (suc n + length ts) (omega arith)) in
    let up' : IsRising (n + 1) (suc n + length ts) (map number_in b.rest) = subst (λ (k : ℕ). IsRising k (suc n + length ts) (map number_in b.rest)) (omega arith) up in
    subst (λ (k : ℕ). touch_of l.has e (stated l k t) ≡ Ok (touch_at k r)) m_is
    (subst (λ (v : Thread _). touch_of l.has e (stated l n v) ≡ Ok (touch_at n r)) s
    (b.one_is ∙ ap (λ (o : Option Touched). Ok o) (sym (here n (suc n + length ts) b.one b.rest b.of up')) ∙ ap (λ (x : List Touched). Ok (touch_at n x)) (sym b.all_is)))
reach_each_from l e n (suc i) m (u ∷ ts) r t h k q =
    let b = split l e n u ts r h in
    reach_each_from l e (suc n) i m ts b.rest t b.rest_is k (omega (arith, q))
    ∙ ap (λ (o : Option Touched). Ok o) (sym (further n m b.one b.rest b.of (omega (arith, q))))
    ∙ ap (λ (x : List Touched). Ok (touch_at m x)) (sym b.all_is)

-- an event does to each b-thread what its own statement says
pub reach_each : {O S : Type 0} (l : Code O S) (s : Stand O) (e : PlainEvent) (r : List Touched) (i : ℕ) (t : Thread O) → reach l.has e (live l s) ≡ Ok r →
    slice_get s.threads i ≡ Some t → touch_of l.has e (stated l i t) ≡ Ok (touch_at i r)
reach_each l s e r i t h k = reach_each_from l e 0 i i s.threads r t h k (omega arith)

changed_here : {A : Type 0} (f : A → A) (i : ℕ) (xs : List A) → slice_get (change f i xs) i ≡ option_map f (slice_get xs i)
changed_here f i [] = refl
changed_here f zero (x ∷ xs) = refl
changed_here f (suc i) (x ∷ xs) = changed_here f i xs

pub changed_elsewhere : {A : Type 0} (f : A → A) (n i : ℕ) (xs : List A) → (n ≡ i → ⊥) → slice_get (change f n xs) i ≡ slice_get xs i
changed_elsewhere f n i [] h = refl
changed_elsewhere f zero zero (x ∷ xs) h = absurd (h refl)
changed_elsewhere f zero (suc i) (x ∷ xs) h = refl
changed_elsewhere f (suc n) zero (x ∷ xs) h = refl
changed_elsewhere f (suc n) (suc i) (x ∷ xs) h = changed_elsewhere f n i xs (λ e. h (ap (λ (k : ℕ). suc k) e))

touched_here : {O : Type 0} (e : PlainEvent) (x : Touched) (ts : List (Thread O)) → slice_get (touch e x ts) (number_in x) ≡ option_map (after_touch e (Some x)) (slice_get ts (number_in x))
touched_here e (Moves n) ts = changed_here (λ t. record t { replies = t.replies ++ e ∷ [] }) n ts
touched_here e (Interrupts n) ts = changed_here (λ t. record t { ended = true }) n ts

touched_elsewhere : {O : Type 0} (e : PlainEvent) (x : Touched) (i : ℕ) (ts : List (Thread O)) → (number_in x ≡ i → ⊥) → slice_get (touch e x ts) i ≡ slice_get ts i
touched_elsewhere e (Moves n) i ts h = changed_elsewhere (λ t. record t { replies = t.replies ++ e ∷ [] }) n i ts h
touched_elsewhere e (Interrupts n) i ts h = changed_elsewhere (λ t. record t { ended = true }) n i ts h

same_after : {O : Type 0} (e : PlainEvent) (o : Option Touched) (x : Option (Thread O)) → o ≡ None → option_map (after_touch e o) x ≡ x
same_after e o x h = rw h (option_map_id x)

touched_one : {O : Type 0} (e : PlainEvent) (i low high : ℕ) (x : Touched) (r : List Touched) (ts : List (Thread O)) (b : Bool) → nat_eq (number_in x) i ≡ b → IsRising low high (map number_in (x ∷ r)) →
    slice_get (touch_all e r (touch e x ts)) i ≡ option_map (after_touch e (touch_at i r)) (slice_get (touch e x ts) i) →
    slice_get (touch_all e r (touch e x ts)) i ≡ option_map (after_touch e (touch_at i (x ∷ r))) (slice_get ts i)
touched_one e i low high x r ts true h k ih =
    let n : number_in x ≡ i = eqb-true (number_in x) i h in
    let free : touch_at i r ≡ None = untouched i (number_in x + 1) high r (omega (arith, n)) k.2 in
    ih ∙ same_after e (touch_at i r) (slice_get (touch e x ts) i) free
    ∙ subst (λ (m : ℕ). slice_get (touch e x ts) m ≡ option_map (after_touch e (Some x)) (slice_get ts m)) n (touched_here e x ts)
    ∙ ap (λ (o : Option Touched). option_map (after_touch e o) (slice_get ts i)) (sym (found_at i x r n))
touched_one e i low high x r ts false h k ih =
    let n : (number_in x ≡ i) → ⊥ = λ q. (let t : nat_eq (number_in x) i ≡ true = eq-eqb (number_in x) i q in cc) in
    ih ∙ ap (λ (y : Option (Thread _)). option_map (after_touch e (touch_at i r)) y) (touched_elsewhere e x i ts n)
    ∙ ap (λ (o : Option Touched). option_map (after_touch e o) (slice_get ts i)) (sym (passed_at (number_in x) i x r refl n))

-- and all that is not touched stays
pub touch_each : {O : Type 0} (e : PlainEvent) (r : List Touched) (low high i : ℕ) (ts : List (Thread O)) → IsRising low high (map number_in r) →
    slice_get (touch_all e r ts) i ≡ option_map (after_touch e (touch_at i r)) (slice_get ts i)
touch_each e [] low high i ts h = sym (option_map_id (slice_get ts i))
touch_each e (x ∷ r) low high i ts h =
    touched_one e i low high x r ts (nat_eq (number_in x) i) refl h (touch_each e r (number_in x + 1) high i (touch e x ts) h.2)

length-touch : {O : Type 0} (e : PlainEvent) (x : Touched) (ts : List (Thread O)) → length (touch e x ts) ≡ length ts
length-touch e (Moves n) ts = length-change (λ t. record t { replies = t.replies ++ e ∷ [] }) n ts
length-touch e (Interrupts n) ts = length-change (λ t. record t { ended = true }) n ts

pub length-touch_all : {O : Type 0} (e : PlainEvent) (r : List Touched) (ts : List (Thread O)) → length (touch_all e r ts) ≡ length ts
length-touch_all e [] ts = refl
length-touch_all e (x ∷ r) ts = length-touch_all e r (touch e x ts) ∙ length-touch e x ts
