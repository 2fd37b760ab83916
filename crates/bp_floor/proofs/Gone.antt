-- After an event the board is as its definition says, and keeps what a floor keeps.
use Rattle.std.proofs.Common.{◌≡◌, ℕ, ◌+◌, ◌*◌, ◌^◌, ◌<◌, ◌≤◌, List, [], ◌∷◌, length, map, refl, sym, ap, ◌∙◌, subst, arith, Option, Some, None, Ok, IfSome}
use Rattle.std.proofs.Math.Nat.{one-le-mul}
use Rattle.std.proofs.lemmas.Option.{slice_get_within}
use Rattle.std.proofs.lemmas.List.{length-map}
use Rattle.js_data.specs.Event.{PlainEvent, event_weight}
use Rattle.js_meaning.specs.State.{Ground}
use Rattle.js_meaning.specs.Bodies.{Origin, the_top}
use Rattle.bp_log.specs.Options.{PlainOptions}
use Rattle.bp_log.specs.declared.verdict.Verdict.{Verdict}
use Rattle.bp_run.specs.Bodies.{Code}
use Rattle.bp_run.specs.Configuration.{Stand}
use Rattle.bp_run.specs.Settling.{Entry, Pair}
use Rattle.bp_run.specs.Selecting.{live}
use Rattle.bp_run.specs.Choosing.{Touched, reach}
use Rattle.bp_run.specs.Choosing.Touched.{Moves, Interrupts}
use Rattle.bp_run.specs.Story.{step, stepped, entry_of, touch_all}
use Rattle.bp_run.specs.Numbers.{number_in, number_of, IsRising}
use Rattle.bp_run.proofs.Numbers.{reach_rising, live_rising, length-touch_all, entry_number}
use Rattle.bp_select.specs.declared.answers.Reach.{Reach}
use Rattle.bp_floor.specs.declared.board.Board.{Board}
use Rattle.bp_code.specs.Code.{sealed_code_of as code_of}
use Rattle.bp_floor.specs.inner.Seats.{seated}
use Rattle.bp_floor.specs.inner.Boards.{stand_of, pair_of}
use Rattle.bp_floor.specs.Forgetting.{forgotten, forget}
use Rattle.bp_floor.specs.inner.Kept.{Running, IsKept, AreBelow, Rises, runs_in}
use Rattle.bp_floor.specs.Returns.{AreLater, ground_at}
use Rattle.bp_floor.specs.inner.Reached.{CanTouch, moves_in, moved_pair}
use Rattle.bp_floor.specs.Floors.{PlainFloor, IsMoved, CanGo, phase_at, phase_of, not_lent, ready_in}
use Rattle.bp_floor.specs.inner.Transition.{IsSoundOn, IsResting, IsReached, floor_on}
use Rattle.bp_floor.proofs.Rests.{reached_stand, rising_rises}
use Rattle.bp_floor.proofs.ReturnLemmas.{later_alone, later_ground}
use Rattle.bp_floor.proofs.Sound.{rest_nobody}
use Rattle.bp_floor.proofs.Looking.{looks_open}

-- ---- before it

-- those that an event reaches at rest can be touched
pub can_touch : (base : Ground) (o : PlainOptions) (b : Board) (e : PlainEvent) (xs : List Touched) → IsResting base o b →
    reach (code_of base.program o).has e (live (code_of base.program o) (stand_of b)) ≡ Ok xs → CanTouch (record { program = base.program; options = o }) xs b
can_touch base o b e xs s h =
    let r : Running = record { program = base.program; options = o } in
    let nobody = rest_nobody r base b s in
    let none = ap (λ (ns : List (Entry Origin)). runs_in ns) nobody in
    let stand = reached_stand r b.seats (stand_of b) e xs refl s.own (s.waiting ∙ none) h in
    record {
      own = s.own;
      waiting = s.waiting ∙ none;
      ready = s.ready ∙ none;
      mirror = s.mirror;
      fits = s.fits;
      few = s.few;
      room = s.room;
      standing = stand.0;
      rises = stand.1;
    }

among_there : (f : PlainFloor) (e : PlainEvent) (place : Option ℕ) → CanGo f e place → IfSome place (λ i. i < length f.pair.stand.queue)
among_there f e None c = tt
among_there f e (Some i) c = slice_get_within f.pair.stand.queue i e c.among.1

pub place_there : (base : Ground) (o : PlainOptions) (b : Board) (e : PlainEvent) (place : Option ℕ) → CanGo (floor_on base o b) e place → IfSome place (λ i. i < length b.desk.queue)
place_there base o b e place c = among_there (floor_on base o b) e place c

-- transitions weigh something, so they are few
pub few_transitions : (base : Ground) (o : PlainOptions) (b : Board) → IsResting base o b → b.transitions + 1 < 2 ^ 32
few_transitions base o b s = let light = s.light in let counted = s.counted in omega (arith, light, counted)

-- ---- after it

pub moves_run : {S : Type 0} (l : Code Origin S) (s : Stand Origin) (e : PlainEvent) (xs : List Touched) → moves_in xs ≡ runs_in (map (entry_of l s e) xs)
moves_run l s e [] = refl
moves_run l s e (Moves i ∷ xs) = ap (λ (ns : List ℕ). i ∷ ns) (moves_run l s e xs)
moves_run l s e (Interrupts i ∷ xs) = moves_run l s e xs

later_touched : {S : Type 0} (l : Code Origin S) (s : Stand Origin) (e : PlainEvent) (xs : List Touched) → AreLater (map (entry_of l s e) xs)
later_touched l s e [] = tt
later_touched l s e (Moves i ∷ xs) = later_touched l s e xs
later_touched l s e (Interrupts i ∷ xs) = later_touched l s e xs

below_touched : {S : Type 0} (l : Code Origin S) (s : Stand Origin) (e : PlainEvent) (low high : ℕ) (xs : List Touched) → IsRising low high (map number_in xs) → AreBelow high (map (entry_of l s e) xs)
below_touched l s e low high [] h = tt
below_touched l s e low high (Moves i ∷ xs) h = (h.1, below_touched l s e (i + 1) high xs h.2)
below_touched l s e low high (Interrupts i ∷ xs) h = (h.1, below_touched l s e (i + 1) high xs h.2)

-- nothing is lent in a phase that a pair asks for
pub ready_phase : (v : Option Verdict) (ns : List (Entry Origin)) → ready_in (phase_at v ns) ns ≡ runs_in ns
ready_phase None [] = refl
ready_phase None (n ∷ ns) = refl
ready_phase (Some v) ns = refl

pub lent_phase : (v : Option Verdict) (ns : List (Entry Origin)) → not_lent (phase_at v ns) ≡ phase_at v ns
lent_phase None [] = refl
lent_phase None (n ∷ ns) = refl
lent_phase (Some v) ns = refl

heavier : (t w e n x : ℕ) → t ≤ w → x ≡ w + e * (1 + n) → 1 ≤ e → t + 1 ≤ x
heavier t w e n x h k p = let m : 1 ≤ e * (1 + n) = one-le-mul p (omega arith) in omega (arith, h, k, m)

event_weighs : (e : PlainEvent) → 1 ≤ event_weight e
event_weighs e = omega arith

moved_is_stepped : {S : Type 0} (l : Code Origin S) (s : Stand Origin) (e : PlainEvent) (place : Option ℕ) (xs : List Touched) (weight : ℕ) (wave : List (Entry Origin)) → weight ≡ (step s e place xs).weight → wave ≡ map (entry_of l s e) xs →
    moved_pair s e place xs weight wave ≡ stepped l s e place xs
unfolding step
moved_is_stepped l s e place xs weight wave h k = rw (h, k) refl

-- the transition of an event
pub gone : (base : Ground) (o : PlainOptions) (b new : Board) (e : PlainEvent) (place : Option ℕ) (k : Reach) (weight : ℕ) (wave : List (Entry Origin)) → IsResting base o b → (q : IsReached (floor_on base o b) e k weight) →
    wave ≡ map (entry_of (code_of base.program o) (stand_of b) e) q.reached → pair_of new ≡ forgotten the_top (moved_pair (stand_of b) e place q.reached weight wave) → IsKept (record { program = base.program; options = o }) 0 new →
    IsMoved (floor_on base o b) e place (floor_on base o new) × IsSoundOn base o new (phase_of (pair_of new))
unfolding step
gone base o b new e place k weight wave s q w p kept =
    let l = code_of base.program o in
    let xs = q.reached in
    let later : AreLater new.wave = subst (λ (ns : List (Entry Origin)). AreLater ns) (sym (ap (λ (x : Pair Origin). x.entries) p ∙ w)) (later_touched l (stand_of b) e xs) in
    let rising = reach_rising l.has e (live l (stand_of b)) xs 0 (length (map seated b.seats)) q.reach_is (live_rising l (stand_of b)) in
    let len : length new.seats ≡ length (map seated b.seats) =
    sym (length-map new.seats seated) ∙ ap (λ (x : Pair Origin). length x.stand.threads) p ∙ length-map (touch_all e xs (map seated b.seats)) (forget the_top) ∙ length-touch_all e xs (map seated b.seats) in
    let below : AreBelow (length new.seats) new.wave =
    subst (λ (ns : List (Entry Origin)). AreBelow (length new.seats) ns) (sym (ap (λ (x : Pair Origin). x.entries) p ∙ w))
    (subst (λ (n : ℕ). AreBelow n (map (entry_of l (stand_of b) e) xs)) (sym len) (below_touched l (stand_of b) e 0 (length (map seated b.seats)) xs rising)) in
    let numbered : map number_of new.wave ≡ map number_in xs = ap (λ (ns : List (Entry Origin)). map number_of ns) (ap (λ (x : Pair Origin). x.entries) p ∙ w) ∙ entry_number l (stand_of b) e xs in
    let light : new.weight ≡ weight = ap (λ (x : Pair Origin). x.stand.weight) p in
    let more : new.transitions ≡ b.transitions + 1 = ap (λ (x : Pair Origin). x.stand.transitions) p in
    let counted = heavier b.transitions b.weight (event_weight e) _ weight s.counted q.weight_is (event_weighs e) in
    let small = q.light in (
      record {
        reached = xs;
        reach_is = q.reach_is;
        stop_is = looks_open (floor_on base o b) e k weight q;
        pair_is = p ∙ ap (λ (x : Pair Origin). forgotten the_top x) (moved_is_stepped l (stand_of b) e place xs weight wave q.weight_is w);
        phase_is = refl;
      },
      record {
        own = kept.own;
        waiting = kept.waiting;
        ready = kept.ready ∙ sym (ready_phase new.verdict new.wave);
        mirror = kept.mirror;
        fits = kept.fits;
        few = kept.few;
        room = kept.room;
        alone = later_alone new.wave later;
        below = below;
        rises = subst (λ (ns : List ℕ). Rises ns) (sym numbered) (rising_rises 0 (length (map seated b.seats)) (map number_in xs) rising);
        program_is = refl;
        ground_is = s.ground_is ∙ ap (λ (ns : List (Entry Origin)). ground_at base.program o.budget ns) (rest_nobody _ base b s) ∙ sym (later_ground base.program o.budget new.wave later);
        at_phase = lent_phase new.verdict new.wave;
        light = omega (arith, light, small);
        counted = omega (arith, light, more, counted);
      },
    )
