-- What a floor keeps.
use Rattle.std.proofs.Common.{◌≡◌, ◌≤◌, ◌<◌, ℕ, List, [], ◌∷◌, ◌++◌, length, map, length-append, refl, sym, ap, ◌∙◌, subst, arith, Bool, Option, Some, None, Result, Ok, Err, OnOk, OnErr}
use Rattle.std.proofs.lemmas.List.{length-map}
use Rattle.js_data.specs.Event.{PlainEvent}
use Rattle.js_program.specs.PlainProgram.{PlainProgram}
use Rattle.js_meaning.specs.State.{Ground}
use Rattle.js_meaning.specs.Bodies.{Origin, bare, ground_of}
use Rattle.bp_log.specs.Options.{PlainOptions}
use Rattle.bp_log.specs.declared.limits.TheConstants.{MOST_WAITING, MOST_THREADS}
use Rattle.bp_log.specs.declared.verdict.Verdict.{Verdict}
use Rattle.bp_run.specs.Settling.{Entry, Pair}
use Rattle.bp_run.specs.Settling.Entry.{The_top}
use Rattle.bp_run.specs.Selecting.{live}
use Rattle.bp_run.specs.Numbers.{number_of}
use Rattle.bp_meaning.specs.Membership.{member}
use Rattle.bp_select.specs.Benches.{PlainBench}
use Rattle.bp_floor.specs.inner.Desks.{PlainDesk, Fits}
use Rattle.bp_floor.specs.declared.board.Board.{Board}
use Rattle.bp_floor.specs.declared.phase.Phase.{Phase}
use Rattle.bp_floor.specs.declared.phase.Phase.TheVariants.{Ready, Rest}
use Rattle.bp_code.specs.Code.{sealed_code_of as code_of}
use Rattle.bp_floor.specs.inner.Seats.{PlainSeat, seated, stated_from, AreOwn}
use Rattle.bp_floor.specs.inner.Boards.{stand_of, pair_of}
use Rattle.bp_floor.specs.inner.Kept.{Running, AreBelow, Rises, runs_in}
use Rattle.bp_floor.specs.Returns.{RunsAlone, ground_at}
use Rattle.bp_floor.specs.Floors.{PlainFloor, IsSound, IsPhased, phase_at}
use Rattle.bp_floor.proofs.Unended.{seats_going}
use Rattle.bp_floor.proofs.Rests.{stated_live}

-- one more event waits
pub sound_queued : (r : Running) (base : Ground) (b : Board) (phase : Phase) (desk : PlainDesk) (e : PlainEvent) → IsSound r base b phase → length b.desk.queue < MOST_WAITING → desk.queue ≡ b.desk.queue ++ e ∷ [] → desk.bench ≡ b.desk.bench →
    ((base : Ground) (budget : ℕ) → Fits b.desk base budget → Fits desk base budget) → IsSound r base (record b { desk = desk }) phase
sound_queued r base b phase desk e s low h bench fits =
    let len = length-append b.desk.queue (e ∷ []) in
    record {
      own = s.own;
      waiting = s.waiting;
      ready = s.ready;
      mirror = ap (λ (x : PlainBench). x.live) bench ∙ s.mirror;
      fits = fits (ground_of r.program r.options.budget) r.options.budget s.fits;
      few = s.few;
      room = subst (λ (q : List PlainEvent). length q ≤ MOST_WAITING) (sym h) (omega (arith, low, len));
      alone = s.alone;
      below = s.below;
      rises = s.rises;
      program_is = s.program_is;
      ground_is = s.ground_is;
      at_phase = s.at_phase;
      light = s.light;
      counted = s.counted;
    }

-- where it found room
pub sound_pushed : {A E : Type 0} (r : Running) (base : Ground) (b : Board) (phase : Phase) (desk : PlainDesk) (e : PlainEvent) (res : Result A E) → IsSound r base b phase → length b.desk.queue < MOST_WAITING →
    OnOk res (desk.queue ≡ b.desk.queue ++ e ∷ []) → OnErr res (desk ≡ b.desk) → desk.bench ≡ b.desk.bench → ((base : Ground) (budget : ℕ) → Fits b.desk base budget → Fits desk base budget) → IsSound r base (record b { desk = desk }) phase
sound_pushed r base b phase desk e (Ok x) s low h k bench fits = sound_queued r base b phase desk e s low h bench fits
sound_pushed r base b phase desk e (Err y) s low h k bench fits = subst (λ (d : PlainDesk). IsSound r base (record b { desk = d }) phase) (sym k) s

rest_entries : (v : Option Verdict) (ns : List (Entry Origin)) → Rest ≡ phase_at v ns → ns ≡ []
rest_entries None [] h = refl
rest_entries None (n ∷ ns) h = absurd (cc)
rest_entries (Some v) ns h = absurd (cc)

-- at rest nobody is to be run
pub rest_nobody : (r : Running) (base : Ground) (b : Board) → IsSound r base b Rest → b.wave ≡ []
rest_nobody r base b s = rest_entries b.verdict b.wave s.at_phase

-- at rest the bench has what the live b-threads state
pub bench_live : (r : Running) (base : Ground) (b : Board) → IsSound r base b Rest → b.desk.bench.live ≡ live (code_of r.program r.options) (stand_of b)
bench_live r base b s =
    s.mirror ∙ stated_live r 0 b.seats s.own (s.waiting ∙ ap (λ (ns : List (Entry Origin)). runs_in ns) (rest_nobody r base b s))

pub rest_ground : (r : Running) (base : Ground) (b : Board) → IsSound r base b Rest → base ≡ ground_of r.program r.options.budget
rest_ground r base b s = s.ground_is ∙ ap (λ (ns : List (Entry Origin)). ground_at r.program r.options.budget ns) (rest_nobody r base b s)

pub has_is : (p : PlainProgram) (o : PlainOptions) → (code_of p o).has ≡ member (ground_of p o.budget) o.budget
unfolding code_of
has_is p o = refl

-- before anything has run
pub sound_opened : (r : Running) (base : Ground) (b : Board) → base.program ≡ r.program → base ≡ bare r.program → b.seats ≡ [] → b.desk.bench.live ≡ [] → b.desk.queue ≡ [] → b.transitions ≡ 0 → b.weight ≡ 0 → b.verdict ≡ None → b.wave ≡ The_top ∷ [] →
    Fits b.desk (ground_of r.program r.options.budget) r.options.budget → IsSound r base b Ready
sound_opened r base b p g s n q t w v a f =
    record {
      own = subst (λ (ss : List PlainSeat). AreOwn r.program r.options 0 ss) (sym s) tt;
      waiting = rw (s, a) refl;
      ready = rw (s, a) refl;
      mirror = n ∙ ap (λ (ss : List PlainSeat). stated_from 0 ss) (sym s);
      fits = f;
      few = rw s (omega arith);
      room = rw q (omega arith);
      alone = subst (λ (ns : List (Entry Origin)). RunsAlone ns) (sym a) refl;
      below = subst (λ (ns : List (Entry Origin)). AreBelow (length b.seats) ns) (sym a) (tt, tt);
      rises = subst (λ (ns : List (Entry Origin)). Rises (map number_of ns)) (sym a) (tt, tt);
      program_is = p;
      ground_is = g ∙ ap (λ (ns : List (Entry Origin)). ground_at r.program r.options.budget ns) (sym a);
      at_phase = ap (λ (ns : List (Entry Origin)). phase_at None ns) (sym a) ∙ ap (λ (x : Option Verdict). phase_at x b.wave) (sym v);
      light = rw w (omega arith);
      counted = rw (t, w) (omega arith);
    }

-- what the pair of a floor keeps
pub phased : (f : PlainFloor) (b : Board) → f.pair ≡ pair_of b → IsSound (record { program = f.base.program; options = f.options }) f.base b f.phase → IsPhased f
phased f b e s =
    let few = s.few in
    let len = length-map b.seats seated in
    let small : length (map seated b.seats) ≤ MOST_THREADS = omega (arith, few, len) in
    let q : Pair Origin = pair_of b in
    subst (λ (p : Pair Origin). IsPhased (record f { pair = p })) (sym e) (record {
      at_phase = s.at_phase;
      grounded = s.ground_is;
      alone = s.alone;
      going = seats_going b.seats b.wave s.waiting;
      few = small;
      room = s.room;
      light = s.light;
      counted = s.counted;
    })

-- a floor at rest
pub rests_now : (base : Ground) (o : PlainOptions) (b : Board) (phase : Phase) (broken : Bool) (f : PlainFloor) → record { base = base; options = o; pair = pair_of b; phase = phase; broken = broken } ≡ f → f.phase ≡ Rest →
    IsSound (record { program = base.program; options = o }) base b phase → IsSound (record { program = base.program; options = o }) base b Rest
rests_now base o b phase broken f v h s = subst (λ (x : Phase). IsSound (record { program = base.program; options = o }) base b x) (ap (λ (x : PlainFloor). x.phase) v ∙ h) s
