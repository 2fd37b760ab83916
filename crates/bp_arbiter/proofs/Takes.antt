-- Lines are taken.
use Rattle.std.proofs.Common.{◌≡◌, ◌≤◌, ℕ, true, false, List, [], ◌++◌, map, refl, sym, ap, ◌∙◌, subst, append_assoc}
use Rattle.js_value.specs.Value.{PlainSet}
use Rattle.js_meaning.specs.State.{Ground}
use Rattle.js_meaning.specs.Bodies.{Origin, the_top}
use Rattle.bp_log.specs.Options.{PlainOptions}
use Rattle.bp_log.specs.declared.trace.Line.{Line}
use Rattle.bp_run.specs.Bodies.{Code}
use Rattle.bp_run.specs.Configuration.{Configuration, Stand, not_ended}
use Rattle.bp_run.specs.Settling.{Pair, before, settle}
use Rattle.bp_thread.specs.declared.job.Job.{Job}
use Rattle.bp_floor.specs.declared.phase.Phase.{Phase}
use Rattle.bp_floor.specs.declared.phase.Phase.TheVariants.{Ready, Lent, Rest, Over}
use Rattle.bp_floor.specs.Forgetting.{forget, forgotten}
use Rattle.bp_floor.specs.Loans.{filled_pair}
use Rattle.bp_floor.specs.Floors.{PlainFloor, IsPhased, is_idle}
use Rattle.bp_floor.proofs.Forgetting.{live_count}
use Rattle.bp_arbiter.specs.Arbiters.{PlainArbiter, StandsFor, StandsSomewhere, Tells, Keeps, Recounts, stand_in, Shows, is_lent}
use Rattle.bp_arbiter.specs.Sound.{IsSound, IsStanding}
use Rattle.bp_arbiter.proofs.PickLemmas.{unfilled}
use Rattle.bp_arbiter.proofs.Told.{same_code, same_story, same_told, told_lines, settled_idle}

-- the same floor, without these lines
record IsTaken (f g : PlainFloor) (ls : List Line) : Type 0 where
  pub pair : f.pair ≡ before ls g.pair
  pub phase : g.phase ≡ f.phase
  pub broken : g.broken ≡ f.broken
  pub base : g.base ≡ f.base
  pub options : g.options ≡ f.options

module _ (a : PlainArbiter) (g : PlainFloor) (ls : List Line) (t : IsTaken a.floor g ls) where
  abbrev b : PlainArbiter
  b = record a { floor = g }

  story_kept : (c : Configuration Origin) → Recounts a c → Recounts b c
  story_kept c h = same_story a b c (ap (λ (x : Ground). x.program) t.base) t.options refl h

  taken_stands : (jobs : List Job) (taken : List Line) (p : Pair Origin) → StandsFor a jobs taken p → StandsFor b jobs (taken ++ ls) p
  taken_stands jobs taken p s =
      record {
        whole = s.whole;
        told = s.told;
        story = story_kept s.told s.story;
        settles = s.settles
            ∙ ap (λ (l : Code Origin PlainSet). settle l p) (sym (same_code a.floor.base.program g.base.program a.floor.options g.options (ap (λ (x : Ground). x.program) t.base) t.options));
        reading = s.reading;
        bad = s.bad;
        drawn = s.drawn;
        floor = s.floor ∙ ap (λ (q : Pair Origin). before taken (filled_pair jobs q)) t.pair
            ∙ ap (λ (xs : List Line). let q = filled_pair jobs g.pair in record q { stand = record q.stand { lines = xs } }) (sym (append_assoc taken ls g.pair.stand.lines));
        calls = s.calls;
      }

  taken_tells : (taken : List Line) → Tells a taken → Tells b (taken ++ ls)
  taken_tells taken h =
      record {
        told = h.told;
        story = story_kept h.told h.story;
        rest = h.rest;
        lines = h.lines ∙ ap (λ (q : Pair Origin). taken ++ (q.stand.lines ++ h.rest)) t.pair
            ∙ ap (λ (xs : List Line). taken ++ xs) (append_assoc ls g.pair.stand.lines h.rest) ∙ sym (append_assoc taken ls (g.pair.stand.lines ++ h.rest));
      }

  taken_keeps : Keeps a → Keeps b
  taken_keeps k =
      let n : g.pair.stand.transitions ≡ (stand_in a).transitions = ap (λ (q : Pair Origin). q.stand.transitions) (sym t.pair) in
      record {
        steps = subst (λ (m : ℕ). m ≤ g.options.steps) (sym n) (subst (λ (o : PlainOptions). (stand_in a).transitions ≤ o.steps) (sym t.options) k.steps);
        drawn = λ o. subst (λ (m : ℕ). a.drawn ≤ m) (sym n) (k.drawn o);
        floor_phase = t.phase ∙ k.floor_phase;
        floor_whole = t.broken ∙ k.floor_whole;
      }

-- the arbiter after its lines were taken
pub taken_sound : (seed : ℕ) (a : PlainArbiter) (g : PlainFloor) (ls : List Line) → a.floor.pair ≡ before ls g.pair → g.phase ≡ a.floor.phase → g.broken ≡ a.floor.broken → g.base ≡ a.floor.base → g.options ≡ a.floor.options →
    IsSound seed a → IsSound seed (record a { floor = g })
taken_sound seed a g ls h1 h2 h3 h4 h5 s =
    let t : IsTaken a.floor g ls = record { pair = h1; phase = h2; broken = h3; base = h4; options = h5 } in
    record {
      seed_is = s.seed_is ∙ ap (λ (o : PlainOptions). o.seed) (sym h5);
      over = s.over;
      taken = s.taken ++ ls;
      tells = taken_tells a g ls t s.taken s.tells;
      standing = λ w.
          let k = s.standing w in
          record { jobs = k.jobs; taken = k.taken ++ ls; pair = k.pair; stands = taken_stands a g ls t k.jobs k.taken k.pair k.stands; unlent = k.unlent; keeps = taken_keeps a g ls t k.keeps };
    }

-- where it is idle, its lines are all that the story has
pub exact_now : (a : PlainArbiter) → (a.broken ≡ false → IsStanding a) → (a.floor.broken ≡ false → IsPhased a.floor) → (taken : List Line) (p : Pair Origin) → StandsFor a [] taken p → is_idle a.phase ≡ true →
    (c : Configuration Origin) → Recounts a c → c.stand.lines ≡ taken ++ (stand_in a).lines
exact_now a s k taken p h i c r =
    let q = (s h.whole).keeps in
    told_lines a [] taken p c h (k q.floor_whole) (ap is_idle q.floor_phase ∙ i) r

idle_unlent : (f : Phase) → is_idle f ≡ true → is_lent f ≡ false
idle_unlent Ready h = refl
idle_unlent Lent h = absurd (cc)
idle_unlent Rest h = refl
idle_unlent Over h = refl

-- and its floor shows where the story leads
pub shows_now : (a : PlainArbiter) → (a.broken ≡ false → IsStanding a) → (a.floor.broken ≡ false → IsPhased a.floor) → a.broken ≡ false → is_idle a.phase ≡ true → (c : Configuration Origin) → Recounts a c → Shows (stand_in a) c.stand
shows_now a s k w i c r =
    let q = s w in
    let kept = q.keeps in
    let p = q.pair in
    let h = subst (λ (js : List Job). StandsFor a js q.taken p) (q.unlent (idle_unlent a.phase i)) q.stands in
    let stand : c.stand ≡ p.stand = ap (λ (x : Configuration Origin). x.stand) (same_told a c h.told r h.story) ∙ h.settles
    ∙ settled_idle a [] q.taken p h (k kept.floor_whole) (ap is_idle kept.floor_phase ∙ i) in
    let e : before q.taken a.floor.pair ≡ forgotten the_top p = ap (λ (x : Pair Origin). before q.taken x) (sym (unfilled a.floor.pair)) ∙ sym h.floor in
    record {
      queue = ap (λ (x : Pair Origin). x.stand.queue) e ∙ ap (λ (x : Stand Origin). x.queue) (sym stand);
      transitions = ap (λ (x : Pair Origin). x.stand.transitions) e ∙ ap (λ (x : Stand Origin). x.transitions) (sym stand);
      verdict = ap (λ (x : Pair Origin). x.stand.verdict) e ∙ ap (λ (x : Stand Origin). x.verdict) (sym stand);
      threads = ap (λ (x : Pair Origin). x.stand.threads) e ∙ ap (λ (x : Stand Origin). map (forget the_top) x.threads) (sym stand);
      live = ap (λ (x : Pair Origin). not_ended x.stand) e ∙ live_count the_top p.stand.threads ∙ ap not_ended (sym stand);
    }

pub somewhere : (a : PlainArbiter) → (a.broken ≡ false → IsStanding a) → a.broken ≡ false → is_lent a.phase ≡ false → StandsSomewhere a
somewhere a s w u =
    let q = s w in
    record { taken = q.taken; pair = q.pair; stands = subst (λ (js : List Job). StandsFor a js q.taken q.pair) (q.unlent u) q.stands }
