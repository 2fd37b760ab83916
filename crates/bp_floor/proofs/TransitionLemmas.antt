-- An event that is looked at, and its transition.
use Rattle.std.proofs.Common.{◌≡◌, ℕ, ◌<◌, ◌≤◌, ◌++◌, false, List, [], ◌∷◌, length, map, refl, sym, ap, ◌∙◌, subst, arith, Option, Some, None, Result, Ok, Err, MatchOption, HoldsAt, option_map, slice_get}
use Rattle.std.proofs.lemmas.Option.{slice_get_past, slice_get-get_or}
use Rattle.std.proofs.lemmas.List.{map-append, length-map}
use Rattle.js_data.specs.Event.{PlainEvent}
use Rattle.js_value.specs.Value.{PlainSet}
use Rattle.js_meaning.specs.State.{Ground}
use Rattle.js_meaning.specs.Bodies.{Origin, the_top}
use Rattle.bp_log.specs.Options.{PlainOptions}
use Rattle.bp_log.specs.declared.limits.TheConstants.{MOST_THREADS}
use Rattle.bp_log.specs.declared.verdict.Verdict.{Verdict}
use Rattle.bp_sets.specs.declared.fault.SetFault as set
use Rattle.bp_sets.specs.declared.fault.SetFault.TheVariants as set_fault
use Rattle.bp_run.specs.Bodies.{SetFault}
use Rattle.bp_run.specs.Configuration.{Stand}
use Rattle.bp_run.specs.Settling.{Entry, Pair}
use Rattle.bp_run.specs.Selecting.{Has, Live, Asked, live}
use Rattle.bp_run.specs.Choosing.{Touched, reach}
use Rattle.bp_run.specs.Numbers.{number_in}
use Rattle.bp_run.specs.Story.{entry_of, fault_verdict}
use Rattle.bp_meaning.specs.Membership.{member}
use Rattle.bp_select.specs.declared.answers.Reach.{Reach}
use Rattle.bp_select.specs.declared.answers.SelectFault.{SelectFault}
use Rattle.bp_select.specs.declared.answers.SelectFault.TheVariants as select_fault
use Rattle.bp_select.specs.Answers.{AnswersReach, FaultAs, IsReach}
use Rattle.bp_floor.specs.declared.board.Board.{Board}
use Rattle.bp_floor.specs.declared.touching.Touch.{Touch}
use Rattle.bp_code.specs.Code.{sealed_code_of as code_of}
use Rattle.bp_floor.specs.inner.Seats.{seated, AreOwn}
use Rattle.bp_floor.specs.inner.Boards.{stand_of, pair_of}
use Rattle.bp_floor.specs.Forgetting.{forgotten}
use Rattle.bp_floor.specs.inner.Kept.{Running, IsKept, Rises, runs_in}
use Rattle.bp_floor.specs.inner.Reached.{CanTouch, moves_in, moved_pair, touch_seen}
use Rattle.bp_floor.specs.Floors.{PlainFloor, IsMoved, phase_of, stop_at_reach, told_verdict}
use Rattle.bp_floor.specs.inner.Transition.{IsSoundOn, IsResting, IsReached, floor_on, first_touch}
use Rattle.bp_floor.proofs.Asking.{has_at_rest, live_at_rest}
use Rattle.bp_floor.proofs.Gone.{can_touch, moves_run, gone}
use Rattle.bp_floor.proofs.Looking.{reached_few, faulty_below}
use Rattle.bp_floor.proofs.Weaving.{Weaves}

-- ---- looking

-- what the bench answers is what the definitions say of the board
pub reach_at_rest : (base : Ground) (o : PlainOptions) (b : Board) (budget : ℕ) (e : PlainEvent) (result : Result Reach SelectFault) → IsResting base o b → budget ≡ o.budget →
    AnswersReach (reach (member base budget) e b.desk.bench.live) result → AnswersReach (reach (code_of base.program o).has e (live (code_of base.program o) (stand_of b))) result
reach_at_rest base o b budget e result s h a =
    subst (λ (ts : List (Live PlainSet)). AnswersReach (reach (code_of base.program o).has e ts) result) (live_at_rest base o b s)
    (subst (λ (has : Has PlainSet). AnswersReach (reach has e b.desk.bench.live) result) (has_at_rest base o b budget s h) a)

pub few_at_rest : (base : Ground) (o : PlainOptions) (b : Board) (e : PlainEvent) (k : Reach) → IsResting base o b →
    AnswersReach (reach (code_of base.program o).has e (live (code_of base.program o) (stand_of b))) (Ok k) → length k.moved.items ≤ MOST_THREADS
few_at_rest base o b e k s a =
    let few = reached_few (code_of base.program o) (stand_of b) e a.0 k a.1 a.2 in
    let len = length-map b.seats seated in
    let most = s.few in
    omega (arith, few, len, most)

pub faulty_at_rest : (base : Ground) (o : PlainOptions) (b : Board) (e : PlainEvent) (n : ℕ) (f : set.SetFault) →
    FaultAs (reach (code_of base.program o).has e (live (code_of base.program o) (stand_of b))) (select_fault.Set n f) → n < length b.seats
faulty_at_rest base o b e n f h =
    let low = faulty_below (code_of base.program o) (stand_of b) e n f h in
    let len = length-map b.seats seated in
    omega (arith, low, len)

-- an event stops the run at a fault with the verdict that is told
pub stops_at_fault : (s : Stand Origin) (e : PlainEvent) (asked : Asked (List Touched)) (n : ℕ) (f : set.SetFault) (v : Verdict) → FaultAs asked (select_fault.Set n f) → told_verdict s n f ≡ Some v → stop_at_reach s e asked ≡ Some v
stops_at_fault s e asked n (set_fault.Broken fault line) v h w = ap (stop_at_reach s e) h ∙ w
stops_at_fault s e asked n set_fault.Spent v h w = ap (stop_at_reach s e) h ∙ w
stops_at_fault s e asked n (set_fault.NotTruth line) v h w = ap (stop_at_reach s e) h ∙ w
stops_at_fault s e asked n set_fault.Memory v h w = absurd h

-- the same fault, in the parts of an answer
pub verdict_told : (s : Stand Origin) (v : Verdict) (m n : ℕ) (x y : set.SetFault) → m ≡ n → x ≡ y → told_verdict s m x ≡ Some v → told_verdict s n y ≡ Some v
verdict_told s v m n x y h k w = subst (λ (i : ℕ). told_verdict s i y ≡ Some v) h (subst (λ (u : set.SetFault). told_verdict s m u ≡ Some v) k w)

-- it is that of the fault
pub verdict_for : (s : Stand Origin) (n : ℕ) (f : set.SetFault) (v : Verdict) → told_verdict s n f ≡ Some v → (y : ℕ × SetFault) → FaultAs {A = List Touched} (Err y) (select_fault.Set n f) → v ≡ fault_verdict s y
verdict_for s n (set_fault.Broken fault line) v w y h =
    let e : y ≡ (n, SetFault.Broken fault line) = cc in
    let k : fault_verdict s (n, SetFault.Broken fault line) ≡ v = cc in sym k ∙ ap (fault_verdict s) (sym e)
verdict_for s n set_fault.Spent v w y h =
    let e : y ≡ (n, SetFault.Spent) = cc in
    let k : fault_verdict s (n, SetFault.Spent) ≡ v = cc in sym k ∙ ap (fault_verdict s) (sym e)
verdict_for s n (set_fault.NotTruth line) v w y h =
    let e : y ≡ (n, SetFault.NotTruth line) = cc in
    let k : fault_verdict s (n, SetFault.NotTruth line) ≡ v = cc in sym k ∙ ap (fault_verdict s) (sym e)
verdict_for s n set_fault.Memory v w y h = absurd h

-- ---- going

module _ (base : Ground) (o : PlainOptions) (b mid : Board) (e : PlainEvent) (ts : List Touched) (k : Reach) (weight : ℕ) (resting : IsResting base o mid) (same : pair_of mid ≡ pair_of b)
    (q : IsReached (floor_on base o b) e k weight) (woven : (xs : List Touched) → IsReach xs k → Rises (map number_in xs) → ts ≡ xs) where
  abbrev r : Running
  r = record { program = base.program; options = o }

  abbrev floor_of : Pair Origin → PlainFloor
  floor_of p = record { base = base; options = o; pair = p; phase = phase_of p; broken = false }

  looked : IsReached (floor_on base o mid) e k weight
  looked = subst (λ (p : Pair Origin). IsReached (floor_of p) e k weight) (sym same) q

  touchable : CanTouch r looked.reached mid
  touchable = can_touch base o mid e looked.reached resting looked.reach_is

  woven_is : ts ≡ looked.reached
  woven_is = woven looked.reached looked.split touchable.rises

  pub can : CanTouch r ts mid
  can = subst (λ (xs : List Touched). CanTouch r xs mid) (sym woven_is) touchable

  pub moved : (new : Board) (place : Option ℕ) (wave : List (Entry Origin)) →
      ((run : Running) (s : Stand Origin) → AreOwn run.program run.options 0 mid.seats → s.threads ≡ map seated mid.seats → wave ≡ map (entry_of (code_of run.program run.options) s e) ts) →
      ((run : Running) → CanTouch run ts mid → pair_of new ≡ forgotten the_top (moved_pair (stand_of mid) e place ts weight wave)) →
      ((run : Running) → CanTouch run ts mid → moves_in ts ≡ runs_in wave → IsKept run 0 new) →
      IsMoved (floor_on base o b) e place (floor_on base o new) × IsSoundOn base o new (phase_of (pair_of new))
  moved new place wave w p kept =
      let l = code_of base.program o in
      let entries : wave ≡ map (entry_of l (stand_of mid) e) ts = w r (stand_of mid) resting.own refl in
      let g = gone base o mid new e place k weight wave resting looked (entries ∙ ap (map (entry_of l (stand_of mid) e)) woven_is)
      (p r can ∙ ap (λ (xs : List Touched). forgotten the_top (moved_pair (stand_of mid) e place xs weight wave)) woven_is)
      (kept r can (moves_run l (stand_of mid) e ts ∙ ap (λ (ns : List (Entry Origin)). runs_in ns) (sym entries))) in
      (subst (λ (x : Pair Origin). IsMoved (floor_of x) e place (floor_on base o new)) same g.0, g.1)

-- ---- weaving, in the parts of a loop

pub first_is : (x : Option Touched) (a b c d : Option ℕ) → a ≡ c → b ≡ d → x ≡ first_touch a b → first_touch c d ≡ x
first_is x a b c d h k e = sym (e ∙ ap (λ (o : Option ℕ). first_touch o b) h ∙ ap (λ (o : Option ℕ). first_touch c o) k)

pub weaves_same : (reach : Reach) (m n i j t u : ℕ) (xs ys : List Touched) → m ≡ n → i ≡ j → t ≡ u → xs ≡ ys → Weaves reach n j u ys → Weaves reach m i t xs
weaves_same reach m n i j t u xs ys h k l e w =
    subst (λ (z : ℕ). Weaves reach z i t xs) (sym h) (subst (λ (z : ℕ). Weaves reach n z t xs) (sym k)
    (subst (λ (z : ℕ). Weaves reach n j z xs) (sym l) (subst (λ (zs : List Touched). Weaves reach n j u zs) (sym e) w)))

pub pushed_seen : (ts us : List Touch) (x : Touch) (y : Touched) → us ≡ ts ++ x ∷ [] → touch_seen x ≡ y → map touch_seen us ≡ map touch_seen ts ++ y ∷ []
pushed_seen ts us x y h e = ap (map touch_seen) h ∙ map-append touch_seen ts (x ∷ []) ∙ ap (λ (z : Touched). map touch_seen ts ++ z ∷ []) e

-- what is found at a place of a list, as a value
pub looked_up : {B : Type 0} (f : B → ℕ) (r : Option B) (xs : List ℕ) (i : ℕ) →
    MatchOption r (length xs ≤ i) (λ (x : B). (i < length xs) × HoldsAt (λ (y : ℕ). f x ≡ y) xs i) → option_map f r ≡ slice_get xs i
looked_up f None xs i h = sym (slice_get_past xs i h)
looked_up f (Some x) xs i h = ap Some (h.1 (f x)) ∙ sym (slice_get-get_or xs i (f x) h.0)
