-- A turn, put together from its parts.
use Rattle.std.proofs.Common.{◌≡◌, ℕ, List, [], ◌∷◌, length, map, refl, sym, ap, ◌∙◌, subst, arith}
use Rattle.std.proofs.lemmas.List.{length-map}
use Rattle.js_meaning.specs.Bodies.{Origin, the_top}
use Rattle.js_meaning.specs.State.{Ground}
use Rattle.bp_log.specs.Options.{PlainOptions}
use Rattle.bp_log.specs.declared.trace.Line.{Line}
use Rattle.bp_run.specs.Configuration.{Stand, Thread}
use Rattle.bp_run.specs.Settling.{Entry, Pair, Ran, turn, merged, ran, before}
use Rattle.bp_run.specs.Settling.Entry.{The_top, Runs, Stops}
use Rattle.bp_run.proofs.Before.{turn_apart}
use Rattle.bp_floor.specs.declared.board.Board.{Board}
use Rattle.bp_code.specs.Code.{sealed_code_of as code_of}
use Rattle.bp_floor.specs.inner.Seats.{seated, swept}
use Rattle.bp_floor.specs.inner.Parts.{unstated_ran}
use Rattle.bp_floor.specs.inner.Boards.{stand_of, pair_of}
use Rattle.bp_floor.specs.Forgetting.{forgotten}
use Rattle.bp_floor.specs.inner.Kept.{Running, IsOn, IsKept, AreBelow, AreFrom, runs_in}
use Rattle.bp_floor.specs.Loans.{filled, filled_pair}
use Rattle.bp_thread.specs.declared.job.Job.{Job}
use Rattle.bp_floor.specs.Returns.{IsBack, IsSameBut, AreAllBack, ran_in, entry_in, turned_apart}
use Rattle.bp_floor.proofs.ReturnLemmas.{filled_length}
use Rattle.bp_floor.proofs.Widening.{merged_unstated}
use Rattle.bp_floor.proofs.Places.{waits_swept, ready_swept, stated_swept, own_swept, forgets_swept}

-- a body finds its b-thread wherever the rest stands
ran_standing : (r : Running) (s : Stand Origin) (n : Entry Origin) → ran_in r s.threads n ≡ unstated_ran (ran (code_of r.program r.options) s n)
ran_standing r s The_top = refl
ran_standing r s (Runs i) = refl
ran_standing r s (Stops i b) = refl

rans_standing : (r : Running) (s : Stand Origin) (ns : List (Entry Origin)) → map (ran_in r s.threads) ns ≡ map unstated_ran (map (ran (code_of r.program r.options) s) ns)
rans_standing r s [] = refl
rans_standing r s (n ∷ ns) =
    ap (λ (x : Ran _ _). x ∷ map (ran_in r s.threads) ns) (ran_standing r s n)
    ∙ ap (λ (xs : List (Ran _ _)). unstated_ran (ran (code_of r.program r.options) s n) ∷ xs) (rans_standing r s ns)

-- a turn whose lines are kept apart
pub turn_of_apart : (r : Running) (s : Stand Origin) (ts : List (Thread Origin)) (ns : List (Entry Origin)) →
    before s.lines (turned_apart r ns ts (record s { lines = [] })) ≡ forgotten the_top (turn (code_of r.program r.options) (record { stand = record s { threads = ts }; entries = ns }))
turn_of_apart r s ts ns =
    let l = code_of r.program r.options in
    let bare : Stand Origin = record s { threads = ts; lines = [] } in
    let p : Pair Origin = record { stand = bare; entries = [] } in
    let rans : merged (map (ran_in r ts) ns) p ≡ merged (map (ran l bare) ns) p =
    ap (λ (xs : List (Ran _ _)). merged xs p) (rans_standing r bare ns) ∙ merged_unstated (map (ran l bare) ns) p in
    ap (λ (q : Pair Origin). before s.lines (forgotten the_top q)) rans
    ∙ ap (λ (q : Pair Origin). forgotten the_top q) (turn_apart l (record s { threads = ts }) ns)

pub turn_joined : (r : Running) (s : Stand Origin) (ts : List (Thread Origin)) (ns ms : List (Entry Origin)) (pending fresh : List Line) (q : Pair Origin) → pending ≡ s.lines → fresh ≡ [] → ms ≡ ns →
    q ≡ turned_apart r ms ts (record s { lines = fresh }) →
    before pending q ≡ forgotten the_top (turn (code_of r.program r.options) (record { stand = record s { threads = ts }; entries = ns }))
turn_joined r s ts ns ms pending fresh q h f m e =
    ap (λ (x : Pair Origin). before pending x) e
    ∙ ap (λ (x : List (Entry Origin)). before pending (turned_apart r x ts (record s { lines = fresh }))) m
    ∙ ap (λ (x : List Line). before pending (turned_apart r ns ts (record s { lines = x }))) f
    ∙ ap (λ (x : List Line). before x (turned_apart r ns ts (record s { lines = [] }))) h
    ∙ turn_of_apart r s ts ns

-- ---- what is kept

pub kept_back : (r : Running) (left : Ground) (b : Board) → IsBack r left [] [] b → b.wave ≡ [] → IsKept r (length b.seats) b
kept_back r left b m w =
    record {
      own = m.own;
      waiting = m.waiting ∙ ap (λ (ns : List (Entry Origin)). runs_in ns) (sym w);
      ready = m.ready ∙ ap (λ (ns : List (Entry Origin)). runs_in ns) (sym w);
      mirror = m.mirror;
      fits = m.fits;
      fresh = rw w tt;
      older = omega arith;
      few = m.few;
      room = m.room;
    }

pub on_back : (r : Running) (left : Ground) (o : PlainOptions) (b : Board) → IsBack r left [] [] b → o ≡ r.options → IsOn r left o
on_back r left o b m h = record { program_is = m.program_is; ground_is = m.ground_is; options_are = h }

pub from_zero : (ns : List ℕ) → AreFrom 0 ns
from_zero [] = tt
from_zero (n ∷ ns) = (omega arith, from_zero ns)

pub kept_swept : (r : Running) (first : ℕ) (b new : Board) → IsKept r first b → new ≡ record b { seats = map swept b.seats } → IsKept r 0 new
kept_swept r first b new k h =
    let few = k.few in
    let len = length-map b.seats swept in
    subst (λ (x : Board). IsKept r 0 x) (sym h) (record {
      own = own_swept r.program r.options 0 b.seats k.own;
      waiting = waits_swept 0 b.seats ∙ k.waiting;
      ready = ready_swept 0 b.seats ∙ k.ready;
      mirror = k.mirror ∙ sym (stated_swept 0 b.seats);
      fits = k.fits;
      fresh = from_zero (runs_in b.wave);
      older = omega arith;
      few = omega (arith, few, len);
      room = k.room;
    })

pub pair_swept : (b new : Board) → new ≡ record b { seats = map swept b.seats } → pair_of new ≡ forgotten the_top (pair_of b)
pair_swept b new h =
    ap (λ (x : Board). pair_of x) h ∙ ap (λ (ts : List (Thread Origin)). record (pair_of b) { stand = record (stand_of b) { threads = ts } }) (forgets_swept b.seats)

entries_in : (r : Running) (ts : List (Thread Origin)) (ns : List (Entry Origin)) → map entry_in (map (ran_in r ts) ns) ≡ ns
entries_in r ts [] = refl
entries_in r ts (n ∷ ns) = ap (λ (xs : List (Entry Origin)). n ∷ xs) (entries_in r ts ns)

pub below_back : (r : Running) (ns : List (Entry Origin)) (ts : List (Thread Origin)) (left : Ground) (b : Board) (rans : List (Ran Origin (Unit {0}))) (most : ℕ) → AreAllBack r ns ts left b rans →
    AreBelow most ns → AreBelow most (map entry_in rans)
below_back r ns ts left b rans most a h =
    subst (λ (xs : List (Ran Origin (Unit {0}))). AreBelow most (map entry_in xs)) (sym a.rans_are)
    (subst (λ (xs : List (Entry Origin)). AreBelow most xs) (sym (entries_in r ts ns)) h)

-- the entries of a turn are registered when its jobs are back
pub back_within : (r : Running) (base left : Ground) (ns : List (Entry Origin)) (js : List Job) (old new : Board) (rans : List (Ran Origin (Unit {0}))) → IsBack r base ns js old → AreAllBack r ns (filled ns js (map seated old.seats)) left new rans →
    AreBelow (length new.seats) (map entry_in rans)
back_within r base left ns js old new rans m a =
    let len : length new.seats ≡ length old.seats =
    sym (length-map new.seats seated) ∙ ap (λ (ts : List (Thread Origin)). length ts) a.threads ∙ filled_length ns js (map seated old.seats) ∙ length-map old.seats seated in
    below_back r ns (filled ns js (map seated old.seats)) left new rans (length new.seats) a (subst (λ (n : ℕ). AreBelow n ns) (sym len) m.below)

-- a turn of a board that has neither lines nor entries
pub turned_is : (r : Running) (ns : List (Entry Origin)) (ts : List (Thread Origin)) (left : Ground) (old back merged_board new : Board) (rans : List (Ran Origin (Unit {0}))) → old.wave ≡ [] → IsSameBut old back → AreAllBack r ns ts left back rans →
    pair_of merged_board ≡ merged rans (pair_of back) → new ≡ record merged_board { seats = map swept merged_board.seats } → pair_of new ≡ turned_apart r ns ts (stand_of old)
turned_is r ns ts left old back merged_board new rans w same a m h =
    let p : pair_of back ≡ record { stand = record (stand_of old) { threads = ts }; entries = [] } =
    rw (a.threads, same.queue, same.transitions, same.weight, same.lines, same.verdict, same.wave, w) refl in
    pair_swept merged_board new h
    ∙ ap (λ (q : Pair Origin). forgotten the_top q) (m ∙ ap (λ (q : Pair Origin). merged rans q) p ∙ ap (λ (xs : List (Ran Origin (Unit {0}))). merged xs (record { stand = record (stand_of old) { threads = ts }; entries = [] })) a.rans_are)

-- and what it keeps
pub turn_keeps : (r : Running) (base left : Ground) (o : PlainOptions) (ns : List (Entry Origin)) (js : List Job) (old back merged_board new : Board) (rans : List (Ran Origin (Unit {0}))) → o ≡ r.options → IsBack r base ns js old →
    old.wave ≡ [] → IsSameBut old back → AreAllBack r ns (filled ns js (map seated old.seats)) left back rans →
    ((s : Running) (first : ℕ) → IsOn s left o → AreBelow first (map entry_in rans) → IsKept s first back → IsKept s first merged_board) → new ≡ record merged_board { seats = map swept merged_board.seats } →
    IsKept r 0 new × IsOn r left o
turn_keeps r base left o ns js old back merged_board new rans e m w same a k h =
    let on = on_back r left o back a.back e in
    (kept_swept r (length back.seats) merged_board new (k r (length back.seats) on (back_within r base left ns js old back rans m a) (kept_back r left back a.back (same.wave ∙ w))) h, on)

-- the board of a turn has neither lines nor entries
pub apart_back : (r : Running) (base : Ground) (b : Board) (lines : List Line) (wave : List (Entry Origin)) (jobs js : List Job) (ms : List (Entry Origin)) → ms ≡ b.wave → js ≡ jobs → IsBack r base b.wave jobs b →
    IsBack r base ms js (record b { lines = lines; wave = wave })
apart_back r base b lines wave jobs js ms h k m =
    subst (λ (xs : List (Entry Origin)). IsBack r base xs js (record b { lines = lines; wave = wave })) (sym h)
    (subst (λ (ys : List Job). IsBack r base b.wave ys (record b { lines = lines; wave = wave })) (sym k) (record {
      done = m.done;
      alone = m.alone;
      below = m.below;
      own = m.own;
      waiting = m.waiting;
      ready = m.ready;
      mirror = m.mirror;
      fits = m.fits;
      few = m.few;
      room = m.room;
      program_is = m.program_is;
      ground_is = m.ground_is;
    }))

pub apart_joined : (r : Running) (b : Board) (jobs js : List Job) (ms : List (Entry Origin)) (pending fresh : List Line) (wave : List (Entry Origin)) (new : Board) → pending ≡ b.lines → fresh ≡ [] → ms ≡ b.wave → js ≡ jobs →
    pair_of new ≡ turned_apart r ms (filled ms js (map seated b.seats)) (stand_of (record b { lines = fresh; wave = wave })) →
    before pending (pair_of new) ≡ forgotten the_top (turn (code_of r.program r.options) (filled_pair jobs (pair_of b)))
apart_joined r b jobs js ms pending fresh wave new p f h k e =
    let ts : filled ms js (map seated b.seats) ≡ filled b.wave jobs (map seated b.seats) =
    ap (λ (ns : List (Entry Origin)). filled ns js (map seated b.seats)) h ∙ ap (λ (xs : List Job). filled b.wave xs (map seated b.seats)) k in
    turn_joined r (stand_of b) (filled b.wave jobs (map seated b.seats)) b.wave ms pending fresh (pair_of new) p f h
    (e ∙ ap (λ (us : List (Thread Origin)). turned_apart r ms us (record (stand_of b) { lines = fresh })) ts)
