-- What holds of a floor holds of each pair that it stands for.
use Rattle.std.proofs.Common.{◌≡◌, ℕ, List, [], ◌∷◌, ◌++◌, refl, sym, ap, ◌∙◌, Option, Some, Ok, Err, slice_get}
use Rattle.js_data.specs.Event.{PlainEvent}
use Rattle.js_value.specs.Value.{PlainSet}
use Rattle.js_meaning.specs.Bodies.{Origin, the_top}
use Rattle.bp_log.specs.declared.trace.Line.{Line}
use Rattle.bp_run.specs.Bodies.{Code}
use Rattle.bp_run.specs.Configuration.{Stand, name_in, not_ended}
use Rattle.bp_run.specs.Settling.{Pair, before, queued}
use Rattle.bp_run.specs.Selecting.{Live, Asked, live}
use Rattle.bp_run.specs.Choosing.{Touched, reach}
use Rattle.bp_run.specs.Story.{set_verdict}
use Rattle.bp_floor.specs.declared.went.Went.{Went}
use Rattle.bp_floor.specs.declared.went.Went.TheVariants.{Moved, Stopped}
use Rattle.bp_floor.specs.Forgetting.{forgotten_in, forgotten}
use Rattle.bp_floor.specs.Floors.{PlainFloor, StandsFor, GoesAs, ShowsOf, GoesFrom, code_on, has_on, stop_of, stop_at_reach}
use Rattle.bp_floor.proofs.Forgetting.{name_forgotten, live_count}
use Rattle.bp_floor.proofs.Stepping.{live_stands, stepped_stands}

-- ---- what it shows

-- the verdict reads names and the weight alone
stop_forgotten : (s : Stand Origin) (e : PlainEvent) (a : Asked (List Touched)) → stop_at_reach (forgotten_in the_top s) e a ≡ stop_at_reach s e a
stop_forgotten s e (Err x) = ap (λ (name : List ℕ). Some (set_verdict name x.1)) (name_forgotten the_top s.threads x.0)
stop_forgotten s e (Ok xs) = refl

same_stop : (s : Stand Origin) (lines : List Line) (e : PlainEvent) (a : Asked (List Touched)) → stop_at_reach (record s { lines = lines }) e a ≡ stop_at_reach s e a
same_stop s lines e (Err x) = refl
same_stop s lines e (Ok xs) = refl

-- and so it is that of each pair that the floor stands for
stop_stands : (f : PlainFloor) (taken : List Line) (p : Pair Origin) (e : PlainEvent) → StandsFor f taken p → stop_of f e ≡ stop_at_reach p.stand e (reach (has_on f) e (live (code_on f) p.stand))
stop_stands f taken p e h =
    let a : Asked (List Touched) = reach (has_on f) e (live (code_on f) p.stand) in
    ap (λ (ts : List (Live PlainSet)). stop_at_reach f.pair.stand e (reach (has_on f) e ts)) (live_stands (code_on f) the_top taken p f.pair h)
    ∙ sym (same_stop f.pair.stand (taken ++ f.pair.stand.lines) e a) ∙ ap (λ (x : Pair Origin). stop_at_reach x.stand e a) (sym h) ∙ stop_forgotten p.stand e a

pub shown : (f : PlainFloor) (taken : List Line) (p : Pair Origin) → StandsFor f taken p → ShowsOf f p
shown f taken p h = record {
  stops = λ e. stop_stands f taken p e h;
  live = live_stands (code_on f) the_top taken p f.pair h;
  threads = ap (λ (x : Pair Origin). x.stand.threads) (sym h);
  names = λ i. ap (λ (x : Pair Origin). name_in (slice_get x.stand.threads i)) (sym h) ∙ name_forgotten the_top p.stand.threads i;
  going = ap (λ (x : Pair Origin). not_ended x.stand) (sym h) ∙ live_count the_top p.stand.threads;
  queue = ap (λ (x : Pair Origin). x.stand.queue) (sym h);
  transitions = ap (λ (x : Pair Origin). x.stand.transitions) (sym h);
  weight = ap (λ (x : Pair Origin). x.stand.weight) (sym h);
  verdict = ap (λ (x : Pair Origin). x.stand.verdict) (sym h);
  entries = ap (λ (x : Pair Origin). x.entries) (sym h);
}

-- ---- an event

pub goes_from : (f : PlainFloor) (e : PlainEvent) (place : Option ℕ) (w : Went) (g : PlainFloor) (taken : List Line) (p : Pair Origin) → GoesAs f e place w g → StandsFor f taken p → GoesFrom (code_on f) taken p e place w g
goes_from f e place Moved g taken p m h =
    let l = code_on f in
    let q : Pair Origin = f.pair in (
      m.reached,
      ap (λ (ts : List (Live PlainSet)). reach l.has e ts) (sym (live_stands l the_top taken p q h)) ∙ m.reach_is,
      stepped_stands l the_top taken p q e place m.reached h m.reach_is ∙ ap (λ (x : Pair Origin). before taken x) (sym m.pair_is),
    )
goes_from f e place (Stopped v) g taken p m h = (sym (stop_stands f taken p e h) ∙ m.0, h ∙ ap (λ (x : PlainFloor). before taken x.pair) (sym m.1))

-- it is read off the pair alone
pub goes_like : (l : Code Origin PlainSet) (taken : List Line) (p : Pair Origin) (e : PlainEvent) (place : Option ℕ) (w : Went) (g h : PlainFloor) → g.pair ≡ h.pair → GoesFrom l taken p e place w g → GoesFrom l taken p e place w h
goes_like l taken p e place Moved g h k m = (m.0, m.1, m.2 ∙ ap (λ (x : Pair Origin). before taken x) k)
goes_like l taken p e place (Stopped v) g h k m = (m.0, m.1 ∙ ap (λ (x : Pair Origin). before taken x) k)

-- ---- one more event waits

pub queued_stands : (taken : List Line) (p q : Pair Origin) (e : PlainEvent) (queue : List PlainEvent) → forgotten the_top p ≡ before taken q → queue ≡ q.stand.queue ++ e ∷ [] →
    forgotten the_top (record p { stand = queued e p.stand }) ≡ before taken (record q { stand = record q.stand { queue = queue } })
queued_stands taken p q e queue h k =
    ap (λ (x : Pair Origin). let y : Pair Origin = record x { stand = queued e x.stand } in y) h
    ∙ ap (λ (es : List PlainEvent). let y : Pair Origin = record q { stand = record q.stand { queue = es } } in before taken y) (sym k)
