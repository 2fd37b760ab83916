-- What an event leads to: whom it reaches, how much the run weighs then, and whose set is at fault.
use Rattle.std.proofs.Common.{◌≡◌, ℕ, ◌+◌, ◌*◌, ◌<◌, ◌≤◌, Bool, true, false, List, [], ◌∷◌, length, map, refl, sym, ap, ◌∙◌, arith, Option, Some, None, Result, Ok, Err, nat_lt, cond, count_by}
use Rattle.std.specs.List.{filter_map, cons_option}
use Rattle.std.proofs.lemmas.Bool.{lt-ltb, le-ltb}
use Rattle.std.proofs.lemmas.List.Recursion.{is_count_by}
use Rattle.js_data.specs.Event.{PlainEvent, event_weight}
use Rattle.bp_log.specs.declared.limits.TheConstants.{MOST_WEIGHT}
use Rattle.bp_log.specs.declared.verdict.Verdict.TheVariants as verdict
use Rattle.bp_sets.specs.declared.fault.SetFault as set
use Rattle.bp_sets.specs.declared.fault.SetFault.TheVariants as set_fault
use Rattle.bp_run.specs.Bodies.{Code, SetFault}
use Rattle.bp_run.specs.Configuration.{Stand}
use Rattle.bp_run.specs.Selecting.{Live, Has, Asked, live, by_number, both, without_fault, requests}
use Rattle.bp_run.specs.Choosing.{Touched, touched, reach, moves_if}
use Rattle.bp_run.specs.Choosing.Touched.{Moves, Interrupts}
use Rattle.bp_run.specs.Story.{weight_after, is_move}
use Rattle.bp_run.specs.Numbers.{number_in, IsRising}
use Rattle.bp_run.proofs.Numbers.{reach_rising, live_rising}
use Rattle.bp_select.specs.declared.answers.Reach.{Reach}
use Rattle.bp_select.specs.declared.answers.SelectFault.TheVariants as select_fault
use Rattle.bp_select.specs.Answers.{move_of, IsReach, FaultAs}
use Rattle.bp_floor.specs.Floors.{PlainFloor, code_on, stop_at_reach, stop_of}
use Rattle.bp_floor.specs.inner.Transition.{IsReached}

-- ---- how many are reached

rising_length : (low high : ℕ) (ns : List ℕ) → IsRising low high ns → low ≤ high → low + length ns ≤ high
rising_length low high [] h k = omega (arith, k)
rising_length low high (n ∷ ns) h k =
    let a = h.0 in
    let b = h.1 in
    let rest = rising_length (n + 1) high ns h.2 (omega (arith, b)) in
    omega (arith, a, rest)

moves_few : (xs : List Touched) → length (filter_map move_of xs) ≤ length (map number_in xs)
moves_few [] = omega arith
moves_few (Moves i ∷ xs) = let r = moves_few xs in omega (arith, r)
moves_few (Interrupts i ∷ xs) = let r = moves_few xs in omega (arith, r)

pub reached_few : {O S : Type 0} (l : Code O S) (s : Stand O) (e : PlainEvent) (xs : List Touched) (k : Reach) → reach l.has e (live l s) ≡ Ok xs → IsReach xs k → length k.moved.items ≤ length s.threads
reached_few l s e xs k h r =
    let rising = reach_rising l.has e (live l s) xs 0 (length s.threads) h (live_rising l s) in
    let few = rising_length 0 (length s.threads) (map number_in xs) rising (omega arith) in
    let less = moves_few xs in
    let same = ap (λ (ns : List ℕ). length ns) r.moved in
    omega (arith, few, less, same)

-- ---- what it weighs

count_step : (x : Touched) (xs : List Touched) → length (filter_map move_of (x ∷ xs)) ≡ cond (is_move x) (1 + length (filter_map move_of xs)) (length (filter_map move_of xs))
count_step (Moves i) xs = omega arith
count_step (Interrupts i) xs = refl

moves_counted : (xs : List Touched) → length (filter_map move_of xs) ≡ count_by is_move xs
moves_counted xs = is_count_by (λ (ys : List Touched). length (filter_map move_of ys)) is_move refl count_step xs

weighs : {O : Type 0} (s : Stand O) (e : PlainEvent) (xs : List Touched) (k : Reach) → IsReach xs k → s.weight + event_weight e * (1 + length k.moved.items) ≡ weight_after s e xs
weighs s e xs k r = ap (λ (n : ℕ). s.weight + event_weight e * (1 + n)) (ap (λ (ns : List ℕ). length ns) r.moved ∙ moves_counted xs)

pub looks_light : (f : PlainFloor) (e : PlainEvent) (xs : List Touched) (k : Reach) (weight : ℕ) → reach (code_on f).has e (live (code_on f) f.pair.stand) ≡ Ok xs → IsReach xs k →
    weight ≡ f.pair.stand.weight + event_weight e * (1 + length k.moved.items) → weight ≤ MOST_WEIGHT → IsReached f e k weight
looks_light f e xs k weight h r w light = record { reached = xs; reach_is = h; split = r; weight_is = w ∙ weighs f.pair.stand e xs k r; light = light }

pub looks_heavy : (f : PlainFloor) (e : PlainEvent) (xs : List Touched) (k : Reach) (weight : ℕ) → reach (code_on f).has e (live (code_on f) f.pair.stand) ≡ Ok xs → IsReach xs k →
    weight ≡ f.pair.stand.weight + event_weight e * (1 + length k.moved.items) → MOST_WEIGHT < weight → stop_of f e ≡ Some verdict.Weight
looks_heavy f e xs k weight h r w heavy =
    let same = w ∙ weighs f.pair.stand e xs k r in
    let more : nat_lt MOST_WEIGHT (weight_after f.pair.stand e xs) ≡ true = lt-ltb MOST_WEIGHT (weight_after f.pair.stand e xs) (omega (arith, same, heavy)) in
    ap (λ (a : Asked (List Touched)). stop_at_reach f.pair.stand e a) h ∙ rw more refl

pub looks_open : (f : PlainFloor) (e : PlainEvent) (k : Reach) (weight : ℕ) → IsReached f e k weight → stop_of f e ≡ None
looks_open f e k weight r =
    let same = r.weight_is in
    let light = r.light in
    let less : nat_lt MOST_WEIGHT (weight_after f.pair.stand e r.reached) ≡ false = le-ltb MOST_WEIGHT (weight_after f.pair.stand e r.reached) (omega (arith, same, light)) in
    ap (λ (a : Asked (List Touched)). stop_at_reach f.pair.stand e a) r.reach_is ∙ rw less refl

-- ---- whose set is at fault

touched_fault_at : (n : ℕ) (i : Result Bool SetFault) (r : Bool) (w : Result Bool SetFault) (x : ℕ × SetFault) →
    let a : Asked (Option Touched) = elim (by_number n i) [ Err y ↦ Err y | Ok b ↦ elim b [ true ↦ Ok (Some (Interrupts n)) | false ↦ elim r [ true ↦ Ok (Some (Moves n)) | false ↦ without_fault (moves_if n) (by_number n w) ] ] ] in
    a ≡ Err x → x.0 ≡ n
touched_fault_at n (Err f) r w x h = let g : (n, f) ≡ x = cc in ap (λ (y : ℕ × SetFault). y.0) (sym g)
touched_fault_at n (Ok true) r w x h = absurd (cc)
touched_fault_at n (Ok false) true w x h = absurd (cc)
touched_fault_at n (Ok false) false (Err f) x h = let g : (n, f) ≡ x = cc in ap (λ (y : ℕ × SetFault). y.0) (sym g)
touched_fault_at n (Ok false) false (Ok b) x h = absurd (cc)

touched_fault : {S : Type 0} (has : Has S) (e : PlainEvent) (t : Live S) (x : ℕ × SetFault) → touched has e t ≡ Err x → x.0 ≡ t.number
touched_fault has e t x h = touched_fault_at t.number (has t.statement.interrupt e) (requests e t) (has t.statement.wait_for e) x h

either_fault : (a : Asked (Option Touched)) (b : Asked (List Touched)) (n high : ℕ) (x : ℕ × SetFault) → both cons_option a b ≡ Err x → n < high → (a ≡ Err x → x.0 ≡ n) → (b ≡ Err x → x.0 < high) → x.0 < high
either_fault (Err y) b n high x h low p q =
    let g : y ≡ x = cc in
    let e = p (ap (λ (z : ℕ × SetFault). let c : Asked (Option Touched) = Err z in c) g) in
    omega (arith, low, e)
either_fault (Ok a) (Err y) n high x h low p q = q h
either_fault (Ok a) (Ok b) n high x h low p q = absurd (cc)

reach_fault : {S : Type 0} (has : Has S) (e : PlainEvent) (ts : List (Live S)) (x : ℕ × SetFault) (low high : ℕ) → reach has e ts ≡ Err x → IsRising low high (map (λ (t : Live S). t.number) ts) → x.0 < high
unfolding reach
reach_fault has e [] x low high h k = absurd (cc)
reach_fault has e (t ∷ ts) x low high h k =
    either_fault (touched has e t) (reach has e ts) t.number high x h k.1 (λ w. touched_fault has e t x w) (λ w. reach_fault has e ts x (t.number + 1) high w k.2)

pub faulty_below : {O S : Type 0} (l : Code O S) (s : Stand O) (e : PlainEvent) (n : ℕ) (f : set.SetFault) → FaultAs (reach l.has e (live l s)) (select_fault.Set n f) → n < length s.threads
faulty_below l s e n (set_fault.Broken fault line) h = reach_fault l.has e (live l s) (n, SetFault.Broken fault line) 0 (length s.threads) h (live_rising l s)
faulty_below l s e n set_fault.Spent h = reach_fault l.has e (live l s) (n, SetFault.Spent) 0 (length s.threads) h (live_rising l s)
faulty_below l s e n (set_fault.NotTruth line) h = reach_fault l.has e (live l s) (n, SetFault.NotTruth line) 0 (length s.threads) h (live_rising l s)
faulty_below l s e n set_fault.Memory h = absurd h
