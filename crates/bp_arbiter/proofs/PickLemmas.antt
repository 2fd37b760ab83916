-- A pick goes on with the story.
use Rattle.std.proofs.Common.{◌≡◌, ◌≤◌, ℕ, false, List, [], ◌∷◌, ◌++◌, refl, sym, ap, ◌∙◌, subst, Option, Some, None, append_assoc, append-nil, option_to_list}
use Rattle.js_value.specs.Value.{PlainSet}
use Rattle.js_meaning.specs.Bodies.{Origin, the_top}
use Rattle.bp_log.specs.Records.{is_complete}
use Rattle.bp_log.specs.declared.trace.Line.{Line}
use Rattle.bp_log.specs.declared.trace.Line.TheVariants as trace
use Rattle.bp_log.specs.declared.verdict.Verdict.{Verdict}
use Rattle.bp_run.specs.Bodies.{Code}
use Rattle.bp_run.specs.Configuration.{Configuration, Stand, Thread}
use Rattle.bp_run.specs.Settling.{Entry, Pair, before, settle}
use Rattle.bp_run.specs.Choosing.{Choice, Touched}
use Rattle.bp_run.specs.Story.{Next, story, record_of, after_next, over, over_with, move, step, stepped}
use Rattle.bp_run.specs.Story.Next.{Ends, Selects, Waits}
use Rattle.bp_run.proofs.Stories.{goes_on}
use Rattle.bp_run.proofs.Turns.{settle_over}
use Rattle.bp_floor.specs.declared.phase.Phase.{Phase}
use Rattle.bp_floor.specs.declared.phase.Phase.TheVariants.{Ready, Lent, Rest, Over}
use Rattle.bp_floor.specs.Forgetting.{forgotten}
use Rattle.bp_floor.specs.Loans.{filled_pair}
use Rattle.bp_floor.specs.Floors.{PlainFloor, IsPhased, code_on, is_idle, phase_at}
use Rattle.bp_arbiter.specs.declared.run.Run.{Run}
use Rattle.bp_arbiter.specs.Arbiters.{PlainArbiter, StandsFor, Recounts, coming, code_in, options_in, IsDrawn, is_over}
use Rattle.bp_arbiter.specs.Pick.{after_pick, picked_of, phase_after, moved_phase}
use Rattle.bp_arbiter.specs.Runs.{seen, configuration_of, next_in, HasCome, IsBeside, IsEnded, IsMoved, IsStill}
use Rattle.bp_arbiter.proofs.Calls.{calls_stepped}
use Rattle.bp_floor.proofs.Stepping.{stepped_stands}
use Rattle.bp_floor.proofs.ReturnLemmas.{filled_none}
use Rattle.bp_arbiter.proofs.Nexts.{next_stands}
use Rattle.bp_arbiter.proofs.Told.{same_told, same_code, same_story, settled_idle, no_verdict}

-- a configuration is its parts
parts : (c : Configuration Origin) (s : Stand Origin) (d : ℕ) (reading : List ℕ) (bad : Option (ℕ × ℕ)) → c.stand ≡ s → c.drawn ≡ d → c.reading ≡ reading → c.bad ≡ bad →
    c ≡ record { stand = s; drawn = d; reading = reading; bad = bad }
parts c s d reading bad h k l m =
    ap (λ (x : Stand Origin). record { stand = x; drawn = c.drawn; reading = c.reading; bad = c.bad }) h
    ∙ ap (λ (x : ℕ). record { stand = s; drawn = x; reading = c.reading; bad = c.bad }) k
    ∙ ap (λ (x : List ℕ). record { stand = s; drawn = d; reading = x; bad = c.bad }) l
    ∙ ap (λ (x : Option (ℕ × ℕ)). record { stand = s; drawn = d; reading = reading; bad = x }) m

-- without jobs a pair is what it is
pub unfilled : (q : Pair Origin) → filled_pair [] q ≡ q
unfilled q = ap (λ (ts : List (Thread Origin)). record q { stand = record q.stand { threads = ts } }) (filled_none q.entries q.stand.threads)

pub drawn_at : (f : Phase) (drawn told : ℕ) → is_over f ≡ false → drawn ≡ told → IsDrawn f drawn told
drawn_at Ready drawn told h k = k
drawn_at Lent drawn told h k = k
drawn_at Rest drawn told h k = k
drawn_at Over drawn told h k = absurd (cc)

verdict_line : Pair Origin → Verdict → Pair Origin
verdict_line q v = record q { stand = over q.stand v }

line_before : (taken : List Line) (q : Pair Origin) (v : Verdict) → verdict_line (before taken q) v ≡ before taken (verdict_line q v)
unfolding verdict_line
line_before taken q v = ap (λ (ls : List Line). record q { stand = record (over q.stand v) { lines = ls } }) (append_assoc taken q.stand.lines (trace.Verdict v ∷ []))

-- the line of a verdict, on a floor and where it stands
pub line_stands : (taken : List Line) (p q : Pair Origin) (v : Verdict) → forgotten the_top p ≡ before taken q →
    forgotten the_top (record p { stand = over p.stand v }) ≡ before taken (record q { stand = over q.stand v })
unfolding verdict_line
line_stands taken p q v h = ap (λ (x : Pair Origin). verdict_line x v) h ∙ line_before taken q v

-- the phase after a transition
moved_at : (v : Option Verdict) (ns : List (Entry Origin)) → v ≡ None → phase_at v ns ≡ moved_phase ns
moved_at None [] h = refl
moved_at None (n ∷ ns) h = refl
moved_at (Some v) ns h = absurd (cc)

pub moved_not_over : (ns : List (Entry Origin)) → is_over (moved_phase ns) ≡ false
moved_not_over [] = refl
moved_not_over (n ∷ ns) = refl

moved_verdict : (f : PlainFloor) (ch : Choice) (reached : List Touched) (g : PlainFloor) → f.pair.stand.verdict ≡ None →
    g.pair ≡ forgotten the_top (stepped (code_on f) f.pair.stand ch.event ch.place reached) → g.pair.stand.verdict ≡ None
unfolding step
moved_verdict f ch reached g h k = ap (λ (x : Pair Origin). x.stand.verdict) k ∙ h

-- the floor's phase after a pick
pub phase_come : (r r' : Run) (n : Next) → IsPhased r.floor → r.floor.phase ≡ Rest → HasCome r n r' → r'.floor.phase ≡ phase_after (picked_of n) r'.floor.pair.entries
phase_come r r' (Ends v) k i h = ap (λ (f : PlainFloor). f.phase) h.floor
phase_come r r' (Selects ch reached) k i h =
    h.phase_is ∙ moved_at r'.floor.pair.stand.verdict r'.floor.pair.entries (moved_verdict r.floor ch reached r'.floor (no_verdict r.floor k i) h.pair_is)
phase_come r r' Waits k i h = ap (λ (f : PlainFloor). f.phase) h.floor ∙ i

-- the story goes on with what comes next
pub on : (a : PlainArbiter) (c : Configuration Origin) (n : Next) → Recounts a c → is_complete a.records ≡ false → coming a c ≡ n →
    story (code_in a) (options_in a) (a.records ++ option_to_list (record_of n)) ≡ Some (after_next (code_in a) c n)
on a c n h k e =
    subst (λ (x : Next). story (code_in a) (options_in a) (a.records ++ option_to_list (record_of x)) ≡ Some (after_next (code_in a) c x)) e
    (goes_on (code_in a) (options_in a) a.records c h k)

module _ (r : Run) (taken : List Line) (p : Pair Origin) (s : StandsFor (seen r Rest false) [] taken p) (k : IsPhased r.floor) (i : r.floor.phase ≡ Rest) where
  abbrev a : PlainArbiter
  a = seen r Rest false

  -- the story leads to where the pair stands
  told_stand : s.told.stand ≡ p.stand
  told_stand = s.settles ∙ settled_idle a [] taken p s k (ap is_idle i)

  told_is : s.told ≡ record { stand = p.stand; drawn = r.draw.drawn; reading = r.reading; bad = r.bad }
  told_is = parts s.told p.stand r.draw.drawn r.reading r.bad told_stand (sym s.drawn) s.reading s.bad

  stands_bare : forgotten the_top p ≡ before taken r.floor.pair
  stands_bare = s.floor ∙ ap (λ (q : Pair Origin). before taken q) (unfilled r.floor.pair)

  -- what comes next by the story comes next by what the floor shows
  pub next_is : (c : Configuration Origin) → Recounts a c → coming a c ≡ next_in r
  next_is c h =
      ap (λ (x : Configuration Origin). coming a x) (same_told a c s.told h s.story ∙ told_is)
      ∙ next_stands (code_on r.floor) r.floor.options the_top taken p r.floor.pair (configuration_of r) stands_bare

  module _ (r' : Run) (b : IsBeside r r') (going : is_complete r.records.items ≡ false) where
    told_on : (n : Next) (f : Phase) → next_in r ≡ n → r'.records.items ≡ r.records.items ++ option_to_list (record_of n) →
        Recounts (seen r' f false) (after_next (code_on r.floor) s.told n)
    told_on n f e h =
        same_story (record a { records = r.records.items ++ option_to_list (record_of n) }) (seen r' f false) (after_next (code_on r.floor) s.told n) b.program b.options h
        (on a s.told n s.story going (next_is s.told s.story ∙ e))

    ends : (v : Verdict) (f : Phase) → next_in r ≡ Ends v → IsEnded r v r' → f ≡ Over → StandsFor (seen r' f false) [] taken (record p { stand = over p.stand v })
    ends v f e h o =
        record {
          whole = refl;
          told = over_with s.told v;
          story = told_on (Ends v) f e h.records;
          settles = ap (λ (x : Stand Origin). over x v) told_stand ∙ sym (settle_over (code_on r'.floor) (record p { stand = over p.stand v }) refl);
          reading = s.reading ∙ sym b.reading;
          bad = s.bad ∙ sym b.bad;
          drawn = subst (λ (x : Phase). IsDrawn x r'.draw.drawn s.told.drawn) (sym o) (subst (λ (d : ℕ). d ≤ r'.draw.drawn) s.drawn h.drawn);
          floor = line_stands taken p r.floor.pair v stands_bare
              ∙ ap (λ (g : PlainFloor). before taken g.pair) (sym h.floor)
              ∙ ap (λ (q : Pair Origin). before taken q) (sym (unfilled r'.floor.pair));
          calls = record { threads = (s.calls).threads; handlers = (s.calls).handlers };
        }

    moves : (ch : Choice) (reached : List Touched) (f : Phase) → next_in r ≡ Selects ch reached → IsMoved r ch reached r' → is_over f ≡ false →
        StandsFor (seen r' f false) [] taken (stepped (code_on r.floor) p.stand ch.event ch.place reached)
    moves ch reached f e h o =
        record {
          whole = refl;
          told = move (code_on r.floor) s.told ch reached;
          story = told_on (Selects ch reached) f e h.records;
          settles = ap (λ (x : Stand Origin). settle (code_on r.floor) (stepped (code_on r.floor) x ch.event ch.place reached)) told_stand
              ∙ ap (λ (l : Code Origin PlainSet). settle l (stepped (code_on r.floor) p.stand ch.event ch.place reached)) (sym (same_code r.floor.base.program r'.floor.base.program r.floor.options r'.floor.options b.program b.options));
          reading = s.reading ∙ sym b.reading;
          bad = s.bad ∙ sym b.bad;
          drawn = drawn_at f r'.draw.drawn ch.drawn o h.drawn;
          floor = stepped_stands (code_on r.floor) the_top taken p r.floor.pair ch.event ch.place reached stands_bare h.reach_is
              ∙ ap (λ (q : Pair Origin). before taken q) (sym h.pair_is)
              ∙ ap (λ (q : Pair Origin). before taken q) (sym (unfilled r'.floor.pair));
          calls = calls_stepped r.floor.base.program r.floor.options p ch.event ch.place reached s.calls;
        }

    waits : (f : Phase) → next_in r ≡ Waits → IsStill r r' → is_over f ≡ false → StandsFor (seen r' f false) [] taken p
    waits f e h o =
        record {
          whole = refl;
          told = s.told;
          story = told_on Waits f e (h.records ∙ sym (append-nil r.records.items));
          settles = s.settles ∙ ap (λ (l : Code Origin PlainSet). settle l p) (sym (same_code r.floor.base.program r'.floor.base.program r.floor.options r'.floor.options b.program b.options));
          reading = s.reading ∙ sym b.reading;
          bad = s.bad ∙ sym b.bad;
          drawn = drawn_at f r'.draw.drawn s.told.drawn o (h.drawn ∙ s.drawn);
          floor = s.floor ∙ ap (λ (g : PlainFloor). before taken (filled_pair [] g.pair)) (sym h.floor);
          calls = s.calls;
        }

    -- where the arbiter stands after what comes next
    pub stands_on : (n : Next) → next_in r ≡ n → HasCome r n r' → StandsFor (seen r' r'.floor.phase false) [] taken (after_pick (code_on r.floor) p n)
    stands_on (Ends v) e h = ends v r'.floor.phase e h (ap (λ (g : PlainFloor). g.phase) h.floor)
    stands_on (Selects ch reached) e h =
        moves ch reached r'.floor.phase e h (ap is_over (phase_come r r' (Selects ch reached) k i h) ∙ moved_not_over r'.floor.pair.entries)
    stands_on Waits e h = waits r'.floor.phase e h (ap (λ (g : PlainFloor). is_over g.phase) h.floor ∙ ap is_over i)
