-- A turn goes on with the story.
use Rattle.std.proofs.Common.{◌≡◌, ◌≤◌, ◌<◌, ◌+◌, ℕ, zero, suc, true, false, List, [], ◌∷◌, ◌++◌, length, map, refl, sym, ap, ◌∙◌, subst, arith, Option, Some, None, append_assoc, append-nil, length-append, is_some}
use Rattle.std.proofs.lemmas.List.{length-map}
use Rattle.js_value.specs.Value.{PlainSet}
use Rattle.js_meaning.specs.Bodies.{Origin, the_top}
use Rattle.bp_log.specs.Records.{is_complete}
use Rattle.bp_log.specs.declared.limits.TheConstants.{MOST_THREADS}
use Rattle.bp_log.specs.declared.record.Record.{Record}
use Rattle.bp_log.specs.declared.record.Record.TheVariants.{End}
use Rattle.bp_log.specs.declared.trace.Line.{Line}
use Rattle.bp_log.specs.declared.verdict.Verdict.{Verdict}
use Rattle.bp_run.specs.Bodies.{Code}
use Rattle.bp_run.specs.Configuration.{Configuration, Stand, Thread}
use Rattle.bp_run.specs.Settling.{Entry, Pair, before, settle, turn}
use Rattle.bp_run.specs.Settling.Entry.{Runs}
use Rattle.bp_run.specs.Numbers.{numbers_from}
use Rattle.bp_run.specs.Story.{over, over_with}
use Rattle.bp_run.specs.Story.Next.{Ends}
use Rattle.bp_run.proofs.Growing.{grown_settle}
use Rattle.bp_run.proofs.Numbers.{turn_entries}
use Rattle.bp_run.proofs.Stories.{verdict_next as run_ends_next}
use Rattle.bp_run.proofs.Turns.{settle-turn, settle_over}
use Rattle.bp_thread.specs.declared.job.Job.{Job}
use Rattle.bp_floor.specs.declared.phase.Phase.{Phase}
use Rattle.bp_floor.specs.declared.phase.Phase.TheVariants.{Ready, Lent, Rest, Over}
use Rattle.bp_floor.specs.Forgetting.{forget, forgotten}
use Rattle.bp_floor.specs.Loans.{filled_pair}
use Rattle.bp_floor.specs.Floors.{PlainFloor, IsPhased, IsSealed, StandsWith, StandsFor as FloorStands, code_on, is_idle, phase_at, phase_of}
use Rattle.bp_floor.proofs.ReturnLemmas.{filled_length}
use Rattle.bp_arbiter.specs.declared.run.Run.{Run}
use Rattle.bp_arbiter.specs.Arbiters.{PlainArbiter, StandsFor, Tells, Recounts, coming, code_in, options_in, stand_in, IsDrawn, is_over}
use Rattle.bp_arbiter.specs.Runs.{seen, IsBeside, ended_floor}
use Rattle.bp_arbiter.specs.Seal.{ending, ended_with, after_turn, turned_in, Turns, IsTurned}
use Rattle.bp_arbiter.proofs.Calls.{calls_turned}
use Rattle.bp_arbiter.proofs.PickLemmas.{on, unfilled, drawn_at, line_stands}
use Rattle.bp_arbiter.proofs.Told.{same_told, same_code, same_story, at_rest_busy}

-- ---- how many b-threads there are

numbers_length : (first n : ℕ) → length (numbers_from first n) ≡ n
numbers_length first zero = refl
numbers_length first (suc n) = length-append (numbers_from first n) ((first + n) ∷ []) ∙ (let e = numbers_length first n in omega (arith, e))

-- as many b-threads as on the floor
pub as_many : (f : PlainFloor) (jobs : List Job) (taken : List Line) (p : Pair Origin) → StandsWith f jobs taken p → length p.stand.threads ≡ length f.pair.stand.threads
as_many f jobs taken p h =
    sym (length-map p.stand.threads (forget the_top)) ∙ ap (λ (x : Pair Origin). length x.stand.threads) h ∙ filled_length f.pair.entries jobs f.pair.stand.threads

-- ---- the verdict

ended_stands : (taken : List Line) (v w : Option Verdict) (p q : Pair Origin) → v ≡ w → forgotten the_top p ≡ before taken q → forgotten the_top (ended_with v p) ≡ before taken (ended_with w q)
ended_stands taken None None p q e h = h
ended_stands taken (Some v) (Some w) p q e h = line_stands taken p q v h ∙ ap (λ (x : Verdict). before taken (record q { stand = over q.stand x })) (let f : v ≡ w = cc in f)
ended_stands taken None (Some w) p q e h = absurd (cc)
ended_stands taken (Some v) None p q e h = absurd (cc)

-- a verdict comes next
pub verdict_comes : (a : PlainArbiter) (c : Configuration Origin) (v : Verdict) → c.stand.verdict ≡ Some v → coming a c ≡ Ends v
verdict_comes a c v h = run_ends_next (code_in a) (options_in a) c v h

ready_entries : (v : Option Verdict) (ns : List (Entry Origin)) → phase_at v ns ≡ Ready → (v ≡ None) × (0 < length ns)
ready_entries None [] h = absurd (cc)
ready_entries None (n ∷ ns) h = (refl, omega arith)
ready_entries (Some v) ns h = absurd (cc)

pub over_verdict : (v : Option Verdict) (ns : List (Entry Origin)) → is_over (phase_at v ns) ≡ is_some v
over_verdict None [] = refl
over_verdict None (n ∷ ns) = refl
over_verdict (Some v) ns = refl

-- a turn with a verdict, which got its line and its record
pub turned_ended : (r new : Run) (jobs : List Job) (g : PlainFloor) (rs : List Record) (v : Verdict) → IsSealed r.floor jobs g →
    ((taken : List Line) (p : Pair Origin) → StandsWith r.floor jobs taken p → FloorStands g taken (turn (code_on r.floor) p)) → g.pair.stand.verdict ≡ Some v → g.broken ≡ false → new.floor ≡ ended_floor g v →
    rs ≡ r.records.items → new.records.items ≡ rs ++ End v ∷ [] → new.draw.drawn ≡ r.draw.drawn → IsTurned r jobs new
turned_ended r new jobs g rs v s h e w f same k d =
    let q = turned_in r jobs in
    let ended : q.stand.verdict ≡ Some v = ap (λ (x : Pair Origin). x.stand.verdict) (sym s.pair_is) ∙ e in
    record {
      turns = record { stands = λ taken p k. h taken p k ∙ ap (λ (x : Pair Origin). before taken x) s.pair_is };
      pair_is = ap (λ (x : PlainFloor). x.pair) f ∙ ap (λ (x : Pair Origin). ended_with (Some v) x) s.pair_is ∙ ap (λ (o : Option Verdict). ended_with o q) (sym ended);
      phase_is = ap (λ (x : PlainFloor). x.phase) f ∙ sym (ap (λ (x : PlainFloor). phase_of x.pair) f);
      whole = ap (λ (x : PlainFloor). x.broken) f ∙ w;
      records = k ∙ ap (λ (xs : List Record). xs ++ End v ∷ []) same ∙ ap (λ (o : Option Verdict). r.records.items ++ ending o) (sym ended);
      drawn = d;
    }

drawn_over : (f : Phase) (drawn told : ℕ) → is_over f ≡ true → drawn ≡ told → IsDrawn f drawn told
drawn_over Ready drawn told h k = absurd (cc)
drawn_over Lent drawn told h k = absurd (cc)
drawn_over Rest drawn told h k = absurd (cc)
drawn_over Over drawn told h k = omega (arith, k)

pub ended_verdict : (q : Pair Origin) (v : Option Verdict) → q.stand.verdict ≡ v → (ended_with v q).stand.verdict ≡ v
ended_verdict q None h = h
ended_verdict q (Some v) h = refl

ended_threads : (q : Pair Origin) (v : Option Verdict) → (ended_with v q).stand.threads ≡ q.stand.threads
ended_threads q None = refl
ended_threads q (Some v) = refl

ended_entries : (q : Pair Origin) (v : Option Verdict) → (ended_with v q).entries ≡ q.entries
ended_entries q None = refl
ended_entries q (Some v) = refl

-- the verdict of a turn stays on the floor
pub verdict_kept : (r r' : Run) (jobs : List Job) → IsTurned r jobs r' → r'.floor.pair.stand.verdict ≡ (turned_in r jobs).stand.verdict
verdict_kept r r' jobs t = ap (λ (q : Pair Origin). q.stand.verdict) t.pair_is ∙ ended_verdict (turned_in r jobs) (turned_in r jobs).stand.verdict refl

-- where somebody is to be run, more b-threads are there
pub has_grown : (r r' : Run) (jobs : List Job) → IsTurned r jobs r' → r'.floor.phase ≡ Ready → length r.floor.pair.stand.threads < length r'.floor.pair.stand.threads
has_grown r r' jobs t h =
    let q = turned_in r jobs in
    let p = filled_pair jobs r.floor.pair in
    let w = turn_entries (code_on r.floor) p in
    let some = (ready_entries r'.floor.pair.stand.verdict r'.floor.pair.entries (sym t.phase_is ∙ h)).1 in
    let entries : r'.floor.pair.entries ≡ map Runs (numbers_from (length p.stand.threads) w.0) = ap (λ (x : Pair Origin). x.entries) t.pair_is ∙ ended_entries q q.stand.verdict ∙ w.1 in
    let count : length r'.floor.pair.entries ≡ w.0 = ap (λ (ns : List (Entry Origin)). length ns) entries ∙ length-map (numbers_from (length p.stand.threads) w.0) Runs ∙ numbers_length (length p.stand.threads) w.0 in
    let new : length r'.floor.pair.stand.threads ≡ length p.stand.threads + w.0 = ap (λ (x : Pair Origin). length x.stand.threads) t.pair_is ∙ ap (λ (ts : List (Thread Origin)). length ts) (ended_threads q q.stand.verdict)
    ∙ length-map (turn (code_on r.floor) p).stand.threads (forget the_top) ∙ w.2 in
    let old = filled_length r.floor.pair.entries jobs r.floor.pair.stand.threads in
    omega (arith, some, count, new, old)

module _ (r : Run) (jobs : List Job) (taken : List Line) (p : Pair Origin) (s : StandsFor (seen r Lent false) jobs taken p) (k : IsPhased r.floor) (i : r.floor.phase ≡ Lent) where
  abbrev a : PlainArbiter
  a = seen r Lent false

  abbrev l : Code Origin PlainSet
  l = code_on r.floor

  few : length p.stand.threads ≤ MOST_THREADS
  few = subst (λ (n : ℕ). n ≤ MOST_THREADS) (sym (as_many r.floor jobs taken p s.floor)) k.few

  -- the story is that of the turn
  told_turned : s.told.stand ≡ settle l (turn l p)
  told_turned = s.settles ∙ sym (settle-turn l p few (at_rest_busy r.floor jobs taken p k s.floor (ap is_idle i)))

  module _ (turns : Turns r jobs) where
    turn_stands : forgotten the_top (turn l p) ≡ before taken (turned_in r jobs)
    turn_stands = turns.stands taken p s.floor

    same_verdict : (turn l p).stand.verdict ≡ (turned_in r jobs).stand.verdict
    same_verdict = ap (λ (x : Pair Origin). x.stand.verdict) turn_stands

    -- where the turn has a verdict, the story has it
    told_verdict : (v : Verdict) → (turn l p).stand.verdict ≡ Some v → s.told.stand ≡ (turn l p).stand
    told_verdict v h = told_turned ∙ settle_over l (turn l p) (ap is_some h)

    pub verdict_next : (v : Verdict) (c : Configuration Origin) → Recounts a c → (turned_in r jobs).stand.verdict ≡ Some v → coming a c ≡ Ends v
    verdict_next v c h e =
        verdict_comes a c v
        (ap (λ (x : Configuration Origin). x.stand.verdict) (same_told a c s.told h s.story)
        ∙ ap (λ (x : Stand Origin). x.verdict) (told_verdict v (same_verdict ∙ e)) ∙ same_verdict ∙ e)

    -- the lines of the turn are among those of the story
    pub tells_turned : (b : PlainArbiter) → b.floor.base.program ≡ r.floor.base.program → options_in b ≡ r.floor.options → b.records ≡ r.records.items →
        (stand_in b).lines ≡ (turned_in r jobs).stand.lines → Tells b taken
    tells_turned b h o rs ls =
        let g = grown_settle l (turn l p) in
        record {
          told = s.told;
          story = same_story a b s.told h o rs s.story;
          rest = g.more;
          lines = ap (λ (x : Stand Origin). x.lines) told_turned ∙ g.lines
              ∙ ap (λ (x : Pair Origin). x.stand.lines ++ g.more) turn_stands
              ∙ append_assoc taken (turned_in r jobs).stand.lines g.more
              ∙ ap (λ (xs : List Line). taken ++ (xs ++ g.more)) (sym ls);
        }

    module _ (r' : Run) (b : IsBeside r r') (t : IsTurned r jobs r') (going : is_complete r.records.items ≡ false) where
      floor_stands : forgotten the_top (after_turn l p) ≡ before taken r'.floor.pair
      floor_stands =
          ended_stands taken (turn l p).stand.verdict (turned_in r jobs).stand.verdict (turn l p) (turned_in r jobs) same_verdict turn_stands
          ∙ ap (λ (q : Pair Origin). before taken q) (sym t.pair_is)

      abbrev code_same : code_on r'.floor ≡ l
      code_same = same_code r.floor.base.program r'.floor.base.program r.floor.options r'.floor.options b.program b.options

      stands_at : (v : Option Verdict) (f : Phase) → (turn l p).stand.verdict ≡ v → is_over f ≡ is_some v → StandsFor (seen r' f false) [] taken (ended_with v (turn l p))
      stands_at None f e o =
          record {
            whole = refl;
            told = s.told;
            story = same_story a (seen r' f false) s.told b.program b.options
                (t.records ∙ ap (λ (v : Option Verdict). r.records.items ++ ending v) (sym same_verdict ∙ e) ∙ append-nil r.records.items) s.story;
            settles = told_turned ∙ ap (λ (x : Code Origin PlainSet). settle x (turn l p)) (sym code_same);
            reading = s.reading ∙ sym b.reading;
            bad = s.bad ∙ sym b.bad;
            drawn = drawn_at f r'.draw.drawn s.told.drawn o (t.drawn ∙ s.drawn);
            floor = ap (λ (v : Option Verdict). forgotten the_top (ended_with v (turn l p))) (sym e) ∙ floor_stands ∙ ap (λ (q : Pair Origin). before taken q) (sym (unfilled r'.floor.pair));
            calls = calls_turned r.floor.base.program r.floor.options p s.calls;
          }
      stands_at (Some v) f e o =
          let c = calls_turned r.floor.base.program r.floor.options p s.calls in
          record {
            whole = refl;
            told = over_with s.told v;
            story = same_story (record a { records = r.records.items ++ End v ∷ [] }) (seen r' f false) (over_with s.told v) b.program b.options
                (t.records ∙ ap (λ (v : Option Verdict). r.records.items ++ ending v) (sym same_verdict ∙ e))
                (on a s.told (Ends v) s.story going (verdict_next v s.told s.story (sym same_verdict ∙ e)));
            settles = ap (λ (x : Stand Origin). over x v) (told_verdict v e)
                ∙ sym (settle_over (code_on r'.floor) (record (turn l p) { stand = over (turn l p).stand v }) refl);
            reading = s.reading ∙ sym b.reading;
            bad = s.bad ∙ sym b.bad;
            drawn = drawn_over f r'.draw.drawn s.told.drawn o (t.drawn ∙ s.drawn);
            floor = ap (λ (v : Option Verdict). forgotten the_top (ended_with v (turn l p))) (sym e) ∙ floor_stands ∙ ap (λ (q : Pair Origin). before taken q) (sym (unfilled r'.floor.pair));
            calls = record { threads = c.threads; handlers = c.handlers };
          }

      -- where the arbiter stands after the turn
      pub stands_sealed : StandsFor (seen r' r'.floor.phase false) [] taken (after_turn l p)
      stands_sealed =
          stands_at (turn l p).stand.verdict r'.floor.phase refl
          (ap is_over t.phase_is ∙ over_verdict r'.floor.pair.stand.verdict r'.floor.pair.entries ∙ ap is_some (verdict_kept r r' jobs t ∙ sym same_verdict))
