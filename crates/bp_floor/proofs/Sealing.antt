-- Jobs leave a floor and come back to it.
use Rattle.std.proofs.Common.{◌≡◌, ℕ, ◌+◌, List, [], ◌∷◌, length, map, refl, sym, ap, ◌∙◌, subst, arith, Bool, Option, Some, None}
use Rattle.std.proofs.lemmas.List.{length-map}
use Rattle.js_meaning.specs.State.{Ground}
use Rattle.js_meaning.specs.Bodies.{Origin, the_top}
use Rattle.bp_log.specs.Options.{PlainOptions}
use Rattle.bp_log.specs.declared.trace.Line.{Line}
use Rattle.bp_log.specs.declared.verdict.Verdict.{Verdict}
use Rattle.bp_run.specs.Configuration.{Thread}
use Rattle.bp_run.specs.Settling.{Entry, Pair, turn, before}
use Rattle.bp_run.specs.Settling.Entry.{The_top, Runs, Stops}
use Rattle.bp_run.specs.Numbers.{number_of, numbers_from, IsRising}
use Rattle.bp_run.proofs.Growing.{grown_turn}
use Rattle.bp_run.proofs.Numbers.{turn_entries, turn_rising}
use Rattle.bp_thread.specs.declared.job.Job.{Job}
use Rattle.bp_floor.specs.declared.board.Board.{Board}
use Rattle.bp_floor.specs.declared.phase.Phase.{Phase}
use Rattle.bp_floor.specs.declared.phase.Phase.TheVariants.{Ready, Lent}
use Rattle.bp_code.specs.Code.{sealed_code_of as code_of}
use Rattle.bp_floor.specs.inner.Seats.{PlainSeat, seated}
use Rattle.bp_floor.specs.inner.Boards.{stand_of, pair_of}
use Rattle.bp_floor.specs.Forgetting.{forgotten, AreGoing, forget}
use Rattle.bp_floor.specs.inner.Kept.{Running, IsKept, IsOn, AreBelow, Rises}
use Rattle.bp_floor.specs.Loans.{AreDone, filled, filled_pair, standing}
use Rattle.bp_floor.specs.Returns.{AreLater, IsBack, ground_at}
use Rattle.bp_floor.specs.inner.TakenOut.{CanLend, AreOut, IsGroundOf}
use Rattle.js_program.specs.PlainProgram.{PlainProgram}
use Rattle.bp_floor.specs.Floors.{PlainFloor, AreBack, IsSound, StandsFor, StandsWith, phase_at, phase_of, code_on}
use Rattle.bp_floor.proofs.Unended.{seats_going, filled_going, turn_of_standing}
use Rattle.bp_floor.proofs.Gone.{ready_phase, lent_phase}
use Rattle.bp_floor.proofs.Rests.{rising_rises}
use Rattle.bp_floor.proofs.ReturnLemmas.{later_alone, later_ground}

-- ---- lending

ground_first : (r : Running) (base : Ground) (ns : List (Entry Origin)) → base ≡ ground_at r.program r.options.budget ns → IsGroundOf r base ns
ground_first r base [] h = tt
ground_first r base (n ∷ ns) h = h

pub can_lend : (r : Running) (base : Ground) (b : Board) → IsSound r base b Ready → CanLend r base r.options b.wave b.seats
can_lend r base b s = record {
  own = s.own;
  ready = s.ready;
  alone = s.alone;
  below = s.below;
  program_is = s.program_is;
  ground_is = ground_first r base b.wave s.ground_is;
  options_are = refl;
}

pub lent_sound : (r : Running) (base : Ground) (b : Board) (ss : List PlainSeat) (js : List Job) → IsSound r base b Ready → AreOut r b.wave js b.seats ss → IsSound r base (record b { seats = ss }) Lent
lent_sound r base b ss js s a =
    let few = s.few in
    let count = a.count in
    record {
      own = a.own;
      waiting = a.waiting ∙ s.waiting;
      ready = a.ready;
      mirror = s.mirror ∙ sym a.stated;
      fits = s.fits;
      few = omega (arith, few, count);
      room = s.room;
      alone = s.alone;
      below = subst (λ (n : ℕ). AreBelow n b.wave) (sym count) s.below;
      rises = s.rises;
      program_is = s.program_is;
      ground_is = s.ground_is;
      at_phase = s.at_phase;
      light = s.light;
      counted = s.counted;
    }

pub lent_filled : (r : Running) (b : Board) (ss : List PlainSeat) (js : List Job) → AreOut r b.wave js b.seats ss → filled_pair js (pair_of (record b { seats = ss })) ≡ pair_of b
lent_filled r b ss js a = ap (λ (ts : List (Thread Origin)). let p : Pair Origin = record (pair_of b) { stand = record (stand_of b) { threads = ts } } in p) a.full

pub lent_stands : (f g : PlainFloor) (js : List Job) → filled_pair js g.pair ≡ f.pair → (taken : List Line) (p : Pair Origin) → StandsFor f taken p → StandsWith g js taken p
lent_stands f g js h taken p s = s ∙ ap (λ (q : Pair Origin). before taken q) (sym h)

-- ---- sealing

none_over : (v : Option Verdict) (ns : List (Entry Origin)) → Ready ≡ phase_at v ns → v ≡ None
none_over None ns h = refl
none_over (Some v) ns h = absurd (cc)

-- there is no verdict while jobs are lent
pub lent_open : (r : Running) (base : Ground) (b : Board) → IsSound r base b Lent → b.verdict ≡ None
lent_open r base b s = none_over b.verdict b.wave s.at_phase

pub jobs_back : (r : Running) (base : Ground) (b : Board) (js : List Job) → IsSound r base b Lent → AreDone r.program r.options (standing (filled b.wave js (map seated b.seats))) b.wave js → IsBack r base b.wave js b
jobs_back r base b js s d = record {
  done = d;
  alone = s.alone;
  below = s.below;
  own = s.own;
  waiting = s.waiting;
  ready = s.ready;
  mirror = s.mirror;
  fits = s.fits;
  few = s.few;
  room = s.room;
  program_is = s.program_is;
  ground_is = s.ground_is;
}

later_runs : (ns : List ℕ) → let run : ℕ → Entry Origin = λ n. Runs n in AreLater (map run ns)
later_runs [] = tt
later_runs (n ∷ ns) = later_runs ns

below_numbered : (low high : ℕ) (ns : List (Entry Origin)) → IsRising low high (map number_of ns) → AreBelow high ns
below_numbered low high [] h = tt
below_numbered low high (The_top ∷ ns) h = (tt, below_numbered (0 + 1) high ns h.2)
below_numbered low high (Runs i ∷ ns) h = (h.1, below_numbered (i + 1) high ns h.2)
below_numbered low high (Stops i b ∷ ns) h = (h.1, below_numbered (i + 1) high ns h.2)

pub sealed_sound : (r : Running) (left : Ground) (base : Ground) (b new : Board) (js : List Job) → IsSound r base b Lent → pair_of new ≡ forgotten the_top (turn (code_of r.program r.options) (filled_pair js (pair_of b))) →
    IsKept r 0 new → IsOn r left r.options → IsSound r left new (phase_of (pair_of new))
sealed_sound r left base b new js s p kept on =
    let l = code_of r.program r.options in
    let q = filled_pair js (pair_of b) in
    let t = turn l q in
    let grown = grown_turn l q in
    let light : new.weight ≡ b.weight = ap (λ (x : Pair Origin). x.stand.weight) p ∙ grown.weight in
    let same : new.transitions ≡ b.transitions = ap (λ (x : Pair Origin). x.stand.transitions) p ∙ grown.transitions in
    let wave : new.wave ≡ t.entries = ap (λ (x : Pair Origin). x.entries) p in
    let entries = turn_entries l q in
    let later : AreLater new.wave = subst (λ (ns : List (Entry Origin)). AreLater ns) (sym (wave ∙ entries.1)) (later_runs (numbers_from (length q.stand.threads) entries.0)) in
    let len : length new.seats ≡ length t.stand.threads = sym (length-map new.seats seated) ∙ ap (λ (x : Pair Origin). length x.stand.threads) p ∙ length-map t.stand.threads (forget the_top) in
    let was = s.light in
    let counted = s.counted in
    record {
      own = kept.own;
      waiting = kept.waiting;
      ready = kept.ready ∙ sym (ready_phase new.verdict new.wave);
      mirror = kept.mirror;
      fits = kept.fits;
      few = kept.few;
      room = kept.room;
      alone = later_alone new.wave later;
      below = subst (λ (ns : List (Entry Origin)). AreBelow (length new.seats) ns) (sym wave)
          (subst (λ (n : ℕ). AreBelow n t.entries) (sym len) (below_numbered (length q.stand.threads) (length t.stand.threads) t.entries (turn_rising l q)));
      rises = subst (λ (ns : List (Entry Origin)). Rises (map number_of ns)) (sym wave) (rising_rises (length q.stand.threads) (length t.stand.threads) (map number_of t.entries) (turn_rising l q));
      program_is = on.program_is;
      ground_is = on.ground_is ∙ sym (later_ground r.program r.options.budget new.wave later);
      at_phase = lent_phase new.verdict new.wave;
      light = omega (arith, light, was);
      counted = omega (arith, light, same, counted);
    }

pub sealed_stands : (f g : PlainFloor) (r : Running) (base : Ground) (b : Board) (js : List Job) → IsSound r base b Lent → f.pair ≡ pair_of b → g.pair ≡ forgotten the_top (turn (code_on f) (filled_pair js f.pair)) →
    (taken : List Line) (p : Pair Origin) → StandsWith f js taken p → StandsFor g taken (turn (code_on f) p)
sealed_stands f g r base b js s e h taken p w =
    let going = filled_going b.wave js (map seated b.seats) b.wave (seats_going b.seats b.wave s.waiting) in
    turn_of_standing (code_on f) taken p (filled_pair js f.pair) w
    (subst (λ (x : Pair Origin). AreGoing (filled_pair js x).stand.threads (filled_pair js x).entries) (sym e) going)
    ∙ ap (λ (q : Pair Origin). before taken q) (sym h)

-- ---- the same of a floor

-- the floor of a board
abbrev pub floor_of : Ground → PlainOptions → Board → Phase → Bool → PlainFloor
floor_of base o b phase broken = record { base = base; options = o; pair = pair_of b; phase = phase; broken = broken }

abbrev pub run_on : Ground → PlainOptions → Running
run_on base o = record { program = base.program; options = o }

pub lent_now : (base : Ground) (o : PlainOptions) (b : Board) (phase : Phase) (broken : Bool) (f : PlainFloor) → floor_of base o b phase broken ≡ f → f.phase ≡ Lent → IsSound (run_on base o) base b phase → IsSound (run_on base o) base b Lent
lent_now base o b phase broken f v h s = subst (λ (x : Phase). IsSound (run_on base o) base b x) (ap (λ (x : PlainFloor). x.phase) v ∙ h) s

pub ready_now : (base : Ground) (o : PlainOptions) (b : Board) (phase : Phase) (broken : Bool) (f : PlainFloor) → floor_of base o b phase broken ≡ f → f.phase ≡ Ready → IsSound (run_on base o) base b phase → IsSound (run_on base o) base b Ready
ready_now base o b phase broken f v h s = subst (λ (x : Phase). IsSound (run_on base o) base b x) (ap (λ (x : PlainFloor). x.phase) v ∙ h) s

pub floor_back : (base : Ground) (o : PlainOptions) (b : Board) (phase : Phase) (broken : Bool) (f : PlainFloor) (js : List Job) → floor_of base o b phase broken ≡ f → IsSound (run_on base o) base b Lent → AreBack f js →
    IsBack (run_on base o) base b.wave js b
floor_back base o b phase broken f js v s a = jobs_back (run_on base o) base b js s (subst (λ (x : PlainFloor). AreBack x js) (sym v) a)

pub floor_sound : (base left : Ground) (o : PlainOptions) (b new : Board) (phase : Phase) (js : List Job) → IsSound (run_on base o) base b Lent →
    pair_of new ≡ forgotten the_top (turn (code_of base.program o) (filled_pair js (pair_of b))) → IsKept (run_on base o) 0 new × IsOn (run_on base o) left o → left.program ≡ base.program → phase ≡ phase_of (pair_of new) →
    IsSound (run_on left o) left new phase
floor_sound base left o b new phase js s p k e h =
    subst (λ (x : Phase). IsSound (run_on left o) left new x) (sym h)
    (subst (λ (x : PlainProgram). IsSound (record { program = x; options = o }) left new (phase_of (pair_of new))) (sym e) (sealed_sound (run_on base o) left base b new js s p k.0 k.1))

pub floor_turned : (base : Ground) (o : PlainOptions) (b new : Board) (phase : Phase) (broken : Bool) (f : PlainFloor) (js : List Job) → floor_of base o b phase broken ≡ f →
    pair_of new ≡ forgotten the_top (turn (code_of base.program o) (filled_pair js (pair_of b))) → pair_of new ≡ forgotten the_top (turn (code_on f) (filled_pair js f.pair))
floor_turned base o b new phase broken f js v p = p ∙ ap (λ (x : PlainFloor). forgotten the_top (turn (code_on x) (filled_pair js x.pair))) v

pub floor_stands : (base : Ground) (o : PlainOptions) (b new : Board) (phase : Phase) (broken : Bool) (f : PlainFloor) (js : List Job) → floor_of base o b phase broken ≡ f → IsSound (run_on base o) base b Lent →
    pair_of new ≡ forgotten the_top (turn (code_of base.program o) (filled_pair js (pair_of b))) → (taken : List Line) (p : Pair Origin) → StandsWith f js taken p → forgotten the_top (turn (code_on f) p) ≡ before taken (pair_of new)
floor_stands base o b new phase broken f js v s h taken p w =
    sealed_stands f (record f { pair = pair_of new }) (run_on base o) base b js s (ap (λ (x : PlainFloor). x.pair) (sym v)) (floor_turned base o b new phase broken f js v h) taken p w
