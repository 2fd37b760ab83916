-- Each run without injectors is a free run, whatever its strategy chose.
use Rattle.std.proofs.Common.{◌≡◌, ◌⊎◌, inl, inr, ℕ, zero, suc, ◌+◌, ◌-◌, ◌<◌, ◌≤◌, ◌%◌, Bool, true, false, nat_lt, nat_eq, ◌==◌, List, [], ◌∷◌, ◌++◌, length, Option, Some, None, Result, Ok, Err, refl, sym, ap, ◌∙◌, subst, arith, append-nil, slice_get, option_map, if◌then◌else◌}
use Rattle.std.specs.List.{list_any}
use Rattle.std.proofs.lemmas.Bool.{false≢true}
use Rattle.std.proofs.lemmas.Bool.Decides.{nat_tests}
use Rattle.std.proofs.lemmas.Option.{same_Some, none-some}
use Rattle.js_data.specs.Event.{PlainEvent, same_event}
use Rattle.js_data.proofs.SameEvent.{same_event-self}
use Rattle.js_data.proofs.Shared.{mapped}
use Rattle.bp_log.specs.Options.{PlainOptions}
use Rattle.bp_log.specs.Records.{is_complete}
use Rattle.bp_log.specs.Texts.{lines_text, whole_line}
use Rattle.bp_log.specs.declared.limits.TheConstants.{MOST_WAITING, MOST_WEIGHT}
use Rattle.bp_log.specs.declared.options.Strategy.{Strategy}
use Rattle.bp_log.specs.declared.record.Record.{Record}
use Rattle.bp_log.specs.declared.record.Record.TheVariants.{Sel, End}
use Rattle.bp_log.specs.declared.trace.Line.{Line}
use Rattle.bp_log.specs.declared.trace.Line.TheVariants as trace
use Rattle.bp_log.specs.declared.verdict.Verdict.{Verdict}
use Rattle.bp_log.specs.declared.verdict.Verdict.TheVariants as verdict
use Rattle.bp_run.specs.Bodies.{Code, SetFault}
use Rattle.bp_run.specs.Configuration.{Configuration, Stand}
use Rattle.bp_run.specs.Settling.{settle, opening, initial}
use Rattle.bp_run.specs.Selecting.{Live, Has, Asked, Enabled, live, selectable, unblocked, candidates, blocked, requested, without_fault}
use Rattle.bp_run.specs.Choosing.{Choice, Touched, drawn_of, queued_at, remaining, chosen, choice, reach}
use Rattle.bp_run.specs.Chosen.{Stands, IsChosen, AllBlocked}
use Rattle.bp_run.specs.Story.{Next, next, next_unless, next_choice, next_chosen, next_idle, waits_for_none, over_with, move, story_from, story, alone_from, alone, weight_after, fault_verdict}
use Rattle.bp_run.specs.Story.Next.{Ends, Selects, Waits}
use Rattle.bp_run.specs.Text.{text}
use Rattle.bp_run.proofs.Chosen.{among, among_candidates, unblocked_free, choice_is_chosen, nothing_chosen}
use Rattle.bp_run.proofs.Stories.{selects, selects_steps, move_transitions, waits_not, nobody_waited, alone_next, alone_on, story_sel, story_end, only_alone, initial_transitions, initial_reading}
use Rattle.bp_free.specs.Due as after
use Rattle.bp_free.specs.Due.{Due, due, due_unless, due_asked, due_among, due_open, idle_verdict}
use Rattle.bp_free.specs.Free.{place_among, place_in, stop_at_reach, stop_of, further, free_from, free, StopsAt, EndsBy, IsFreeEnd}
use Rattle.bp_free.specs.Traces.{IsTrace}
use Rattle.bp_free.proofs.Further.{Comes, goes_on}
use Rattle.bp_free.proofs.Open.{queued_there, placed_outer}
use Rattle.bp_free.proofs.Blockers.{inner_at}
use Rattle.bp_free.proofs.Reading.{lines_append}

ok_of : {A E : Type 0} → (a b : A) → ◌≡◌ {A = Result A E} (Ok a) (Ok b) → a ≡ b
ok_of {A} {E} a b h = ap (λ (r : Result A E). elim r [ Ok x ↦ x | Err e ↦ a ]) h

-- ---- what a strategy chooses can be selected

module _ {S : Type 0} (has : Has S) (word : ℕ → ℕ) (s : Strategy) (ts : List (Live S)) (queue : List PlainEvent) (d : ℕ) where
  pub record Picks (ch : Choice) : Type 0 where
    pub enabled : Enabled
    pub asked : selectable has ts queue ≡ Ok enabled
    pub placed : place_in enabled queue ch.event ≡ Some ch.place

  no_place_at : (n : ℕ) (x : Option PlainEvent) (ch : Choice) → option_map (λ e. record { event = e; place = None; drawn = n }) x ≡ Some ch → ch.place ≡ None
  no_place_at n None ch h = absurd (cc)
  no_place_at n (Some e) ch h = let f : record { event = e; place = None; drawn = n } ≡ ch = cc in ap (λ (x : Choice). x.place) (sym f)

  no_place : (xs : List PlainEvent) (ch : Choice) → drawn_of word d xs ≡ Some ch → ch.place ≡ None
  no_place [] ch h = absurd (cc)
  no_place (e ∷ []) ch h = let f : record { event = e; place = None; drawn = d } ≡ ch = cc in ap (λ (x : Choice). x.place) (sym f)
  no_place (e ∷ f ∷ rest) ch h = no_place_at (d + 1) (slice_get (e ∷ f ∷ rest) (word d % length (e ∷ f ∷ rest))) ch h

  kept : (e : PlainEvent) (xs : List PlainEvent) → (blocked has ts e ≡ Ok true) ⊎ (among e xs ≡ true) → blocked has ts e ≡ Ok false → among e xs ≡ true
  kept e xs (inl h) k = absurd (let f : Ok true ≡ blocked has ts e = sym h in cc)
  kept e xs (inr h) k = h

  is_requested : (e : PlainEvent) (place : Option ℕ) → place ≡ None → Stands ts queue e place → requested ts e ≡ true
  is_requested e None h k = k
  is_requested e (Some i) h k = absurd (cc)

  -- what can be selected is what is left of the candidates
  kept_inner : (x : Enabled) → selectable has ts queue ≡ Ok x → unblocked has ts (candidates ts) ≡ Ok x.inner
  unfolding selectable
  kept_inner x h = inner_at has ts queue x (unblocked has ts (candidates ts)) h

  placed_first : (c : PlainEvent) (cs : List PlainEvent) (outer : Option ℕ) (ch : Choice) → list_any (same_event ch.event) (c ∷ cs) ≡ true → ch.place ≡ None →
      place_among (c ∷ cs) outer queue ch.event ≡ Some ch.place
  placed_first c cs outer ch h n = rw h (ap (λ (p : Option ℕ). Some p) (sym n))

  queued_pick : (i : ℕ) (q : Option PlainEvent) (ch : Choice) → slice_get queue i ≡ q → option_map (λ e. record { event = e; place = Some i; drawn = d }) q ≡ Some ch → place_among [] (Some i) queue ch.event ≡ Some ch.place
  queued_pick i None ch h k = absurd (cc)
  queued_pick i (Some e) ch h k =
      let f : record { event = e; place = Some i; drawn = d } ≡ ch = cc in
      subst (λ (x : Choice). place_among [] (Some i) queue x.event ≡ Some x.place) f (placed_outer i queue e h)

  picked : (inner : List PlainEvent) (outer : Option ℕ) (ch : Choice) → selectable has ts queue ≡ Ok (record { inner = inner; outer = outer }) → IsChosen has ts queue ch →
      chosen word s ts queue d inner outer ≡ Some ch → place_among inner outer queue ch.event ≡ Some ch.place
  picked [] None ch a c h = absurd (cc)
  picked [] (Some i) ch a c h = queued_pick i (slice_get queue i) ch refl h
  picked (e ∷ es) outer ch a c h =
      let n = no_place (remaining s ts (e ∷ es)) ch h in
      let f = unblocked_free has ts (candidates ts) (e ∷ es) (kept_inner (record { inner = e ∷ es; outer = outer }) a) in
      let r = is_requested ch.event ch.place n c.stands in
      placed_first e es outer ch (kept ch.event (e ∷ es) (f.all ch.event (among_candidates ch.event ts ∙ r)) c.free) n

  picks_at : (x : Asked Enabled) (ch : Choice) → selectable has ts queue ≡ x → IsChosen has ts queue ch → without_fault (λ y. chosen word s ts queue d y.inner y.outer) x ≡ Ok (Some ch) → Picks ch
  picks_at (Err f) ch a c h = absurd (cc)
  picks_at (Ok y) ch a c h =
      record { enabled = y; asked = a; placed = picked y.inner y.outer ch a c (ok_of _ _ h) }

  pub picks : (ch : Choice) → choice has word s ts queue d ≡ Ok (Some ch) → Picks ch
  unfolding choice
  picks ch h = picks_at (selectable has ts queue) ch refl (choice_is_chosen has word s ts queue d ch h) h

  -- ---- nothing is chosen only where nothing can be selected

  none_inner : (e : PlainEvent) (es : List PlainEvent) (outer : Option ℕ) → selectable has ts queue ≡ Ok (record { inner = e ∷ es; outer = outer }) → AllBlocked has ts queue → ⊥
  none_inner e es outer a b =
      let f = unblocked_free has ts (candidates ts) (e ∷ es) (kept_inner (record { inner = e ∷ es; outer = outer }) a) in
      let here : among e (e ∷ es) ≡ true = rw (same_event-self e) refl in
      let free = f.free e here in
      let stands : requested ts e ≡ true = sym (among_candidates e ts) ∙ f.some e here in
      let held = b e None stands in
      false≢true (ok_of false true (sym free ∙ held))

  none_queued : (i : ℕ) → selectable has ts queue ≡ Ok (record { inner = []; outer = Some i }) → queued_at d queue (Some i) ≡ None → ⊥
  none_queued i a h =
      let q = queued_there has ts queue i a in
      let p : queued_at d queue (Some i) ≡ Some (record { event = q.0; place = Some i; drawn = d }) = rw q.1 refl in
      none-some _ (sym h ∙ p)

  pub record PicksNone : Type 0 where
    pub enabled : Enabled
    pub asked : selectable has ts queue ≡ Ok enabled
    pub inner : enabled.inner ≡ []
    pub outer : enabled.outer ≡ None

  none_at : (inner : List PlainEvent) (outer : Option ℕ) → selectable has ts queue ≡ Ok (record { inner = inner; outer = outer }) → AllBlocked has ts queue → chosen word s ts queue d inner outer ≡ None → PicksNone
  none_at [] None a b h = record { enabled = record { inner = []; outer = None }; asked = a; inner = refl; outer = refl }
  none_at [] (Some i) a b h = absurd (none_queued i a h)
  none_at (e ∷ es) outer a b h = absurd (none_inner e es outer a b)

  none_asked : (x : Asked Enabled) → selectable has ts queue ≡ x → AllBlocked has ts queue → without_fault (λ y. chosen word s ts queue d y.inner y.outer) x ≡ Ok None → PicksNone
  none_asked (Err f) a b h = absurd (cc)
  none_asked (Ok y) a b h = none_at y.inner y.outer a b (ok_of _ _ h)

  pub picks_none : choice has word s ts queue d ≡ Ok None → PicksNone
  unfolding choice
  picks_none h = none_asked (selectable has ts queue) refl (nothing_chosen has word s ts queue d h) h

  fault_at : (x : Asked Enabled) (f : ℕ × SetFault) → without_fault (λ y. chosen word s ts queue d y.inner y.outer) x ≡ Err f → x ≡ Err f
  fault_at (Err g) f h = let e : g ≡ f = cc in ap (λ y. Err y) e
  fault_at (Ok y) f h = absurd (cc)

  -- a fault of the choice is one of what can be selected
  pub fault_asked : (f : ℕ × SetFault) → choice has word s ts queue d ≡ Err f → selectable has ts queue ≡ Err f
  unfolding choice
  fault_asked f h = fault_at (selectable has ts queue) f h

-- ---- what may come where the run has its next

module _ {O S : Type 0} (l : Code O S) (o : PlainOptions) where
  ends_at : (s : Stand O) (v : Verdict) (d : Due) → due l o s ≡ d → EndsBy l s v d → IsFreeEnd l o s v
  ends_at s v d h e = subst (EndsBy l s v) (sym h) e

  due_over : (s : Stand O) (v : Verdict) → s.verdict ≡ Some v → due l o s ≡ after.Ends v
  unfolding due
  due_over s v h = ap (due_unless o s (selectable l.has (live l s) s.queue)) h

  due_going : (s : Stand O) (x : Asked Enabled) → s.verdict ≡ None → selectable l.has (live l s) s.queue ≡ x → due l o s ≡ due_asked o s x
  unfolding due
  due_going s x h k = ap (due_unless o s (selectable l.has (live l s) s.queue)) h ∙ ap (due_asked o s) k

  due_idle : (s : Stand O) (inner : List PlainEvent) (outer : Option ℕ) → inner ≡ [] → outer ≡ None → due_among o s inner outer ≡ after.Idles (idle_verdict s)
  due_idle s inner outer h k = ap (λ (i : List PlainEvent). due_among o s i outer) h ∙ ap (due_among o s []) k

  due_placed : (s : Stand O) (inner : List PlainEvent) (outer place : Option ℕ) (e : PlainEvent) → place_among inner outer s.queue e ≡ Some place →
      due_among o s inner outer ≡ due_open o s (record { inner = inner; outer = outer })
  due_placed s [] None place e h = absurd (none-some _ h)
  due_placed s [] (Some i) place e h = refl
  due_placed s (c ∷ cs) outer place e h = refl

  -- an event was chosen
  due_picked : (s : Stand O) (x : Enabled) (place : Option ℕ) (e : PlainEvent) → s.verdict ≡ None → selectable l.has (live l s) s.queue ≡ Ok x → place_in x s.queue e ≡ Some place → due l o s ≡ due_open o s x
  due_picked s x place e h k p = due_going s (Ok x) h k ∙ due_placed s x.inner x.outer place e p

  full_or_quiet : (s : Stand O) (v : Verdict) (b : Bool) → (length s.queue == MOST_WAITING) ≡ b → (if b then Ends verdict.Queue else Ends (verdict.Quiet s.transitions)) ≡ Ends v → v ≡ idle_verdict s
  full_or_quiet s v true h k = rw h (cc)
  full_or_quiet s v false h k = rw h (cc)

  ends_idle : (c : Configuration O) (v : Verdict) → c.bad ≡ None → waits_for_none o c ≡ true → next_idle o c c.bad ≡ Ends v → v ≡ idle_verdict c.stand
  ends_idle c v b w h =
      let here : next_idle o c None ≡ Ends v = sym (ap (next_idle o c) b) ∙ h in
      full_or_quiet c.stand v (length c.stand.queue == MOST_WAITING) refl
      (sym (ap (λ (t : Bool). if length c.stand.queue == MOST_WAITING then Ends verdict.Queue else if t then Ends (verdict.Quiet c.stand.transitions) else Waits) w) ∙ here)

  stops_weight : (s : Stand O) (ch : Choice) (xs : List Touched) (v : Verdict) (b : Bool) → nat_lt MOST_WEIGHT (weight_after s ch.event xs) ≡ b →
      (if b then Ends verdict.Weight else Selects ch xs) ≡ Ends v → stop_at_reach s ch.event (Ok xs) ≡ Some v
  stops_weight s ch xs v true h k = rw h (cc)
  stops_weight s ch xs v false h k = absurd (cc)

  stops_chosen : (s : Stand O) (ch : Choice) (x : Asked (List Touched)) (v : Verdict) → next_chosen s ch x ≡ Ends v → stop_at_reach s ch.event x ≡ Some v
  stops_chosen s ch (Err f) v h = cc
  stops_chosen s ch (Ok xs) v h = stops_weight s ch xs v (nat_lt MOST_WEIGHT (weight_after s ch.event xs)) refl h

  ends_steps : (s : Stand O) (ch : Choice) (x : Enabled) (v : Verdict) (b : Bool) → (s.transitions == o.steps) ≡ b → due l o s ≡ due_open o s x → place_in x s.queue ch.event ≡ Some ch.place →
      (if b then Ends (verdict.Steps o.steps) else next_chosen s ch (reach l.has ch.event (live l s))) ≡ Ends v → IsFreeEnd l o s v
  ends_steps s ch x v true t g p h = ends_at s v (after.Ends (verdict.Steps o.steps)) (g ∙ rw t refl) (cc)
  ends_steps s ch x v false t g p h =
      ends_at s v (after.Goes x) (g ∙ rw t refl)
      (record { event = ch.event; place = ch.place; placed = p; stops = stops_chosen s ch (reach l.has ch.event (live l s)) v h })

  ends_choice : (c : Configuration O) (v : Verdict) (x : Asked (Option Choice)) → c.stand.verdict ≡ None → c.bad ≡ None → waits_for_none o c ≡ true →
      choice l.has l.word o.strategy (live l c.stand) c.stand.queue c.drawn ≡ x → next_choice l o c x ≡ Ends v → IsFreeEnd l o c.stand v
  ends_choice c v (Err f) g b w q h =
      ends_at c.stand v (after.Ends (fault_verdict c.stand f)) (due_going c.stand (Err f) g (fault_asked l.has l.word o.strategy (live l c.stand) c.stand.queue c.drawn f q)) (cc)
  ends_choice c v (Ok None) g b w q h =
      let n = picks_none l.has l.word o.strategy (live l c.stand) c.stand.queue c.drawn q in
      ends_at c.stand v (after.Idles (idle_verdict c.stand)) (due_going c.stand (Ok n.enabled) g n.asked ∙ due_idle c.stand n.enabled.inner n.enabled.outer n.inner n.outer) (ends_idle c v b w h)
  ends_choice c v (Ok (Some ch)) g b w q h =
      let p = picks l.has l.word o.strategy (live l c.stand) c.stand.queue c.drawn ch q in
      ends_steps c.stand ch p.enabled v (c.stand.transitions == o.steps) refl (due_picked c.stand p.enabled ch.place ch.event g p.asked p.placed) p.placed h

  ends_unless : (c : Configuration O) (v : Verdict) (u : Option Verdict) → c.stand.verdict ≡ u → c.bad ≡ None → waits_for_none o c ≡ true → next_unless l o c u ≡ Ends v → IsFreeEnd l o c.stand v
  ends_unless c v (Some u) g b w h = ends_at c.stand v (after.Ends u) (due_over c.stand u g) (cc)
  ends_unless c v None g b w h = ends_choice c v (choice l.has l.word o.strategy (live l c.stand) c.stand.queue c.drawn) g b w refl h

  -- where a run ends, a free run may end so
  pub ends_free : (c : Configuration O) (v : Verdict) → c.bad ≡ None → waits_for_none o c ≡ true → next l o c ≡ Ends v → IsFreeEnd l o c.stand v
  unfolding next
  ends_free c v b w h = ends_unless c v c.stand.verdict refl b w h

  not_above : (a b : ℕ) → b ≤ a → nat_lt a b ≡ false
  not_above a b h = grind (arith, nat_tests)

  -- what a run selects may come
  pub selects_free : (c : Configuration O) (ch : Choice) (r : List Touched) → next l o c ≡ Selects ch r → Comes l o ch.event c.stand (move l c ch r).stand
  selects_free c ch r h =
      let k = selects l o c ch r h in
      let p = picks l.has l.word o.strategy (live l c.stand) c.stand.queue c.drawn ch k.choice_is in
      let steps : (c.stand.transitions == o.steps) ≡ false = k.steps in
      record {
        enabled = p.enabled;
        goes = due_picked c.stand p.enabled ch.place ch.event k.going p.asked p.placed ∙ rw steps refl;
        place = ch.place;
        placed = p.placed;
        reached = r;
        reach_is = k.reach_is;
        light = not_above MOST_WEIGHT (weight_after c.stand ch.event r) k.light;
        leads = refl;
      }

  -- ---- the run is free

  -- what the records from c on tell
  record Tells (records : List Record) (c d : Configuration O) : Type 0 where
    pub events : List PlainEvent
    pub stand : Stand O
    pub verdict : Verdict
    pub leads : free_from l o events c.stand ≡ Some stand
    pub ends : IsFreeEnd l o stand verdict
    pub lines : d.stand.lines ≡ stand.lines ++ trace.Verdict verdict ∷ []
    pub many : length records ≡ length events + 1

  tells_end : (c d : Configuration O) (v : Verdict) → IsFreeEnd l o c.stand v → over_with c v ≡ d → Tells (End v ∷ []) c d
  unfolding free_from
  tells_end c d v e h = record {
    events = [];
    stand = c.stand;
    verdict = v;
    leads = refl;
    ends = e;
    lines = ap (λ (x : Configuration O). x.stand.lines) (sym h);
    many = omega arith;
  }

  tells_on : (c d : Configuration O) (ch : Choice) (r : List Touched) (records : List Record) → Comes l o ch.event c.stand (move l c ch r).stand → Tells records (move l c ch r) d → Tells (Sel ch.event ∷ records) c d
  unfolding free_from
  tells_on c d ch r records k t = record {
    events = ch.event ∷ t.events;
    stand = t.stand;
    verdict = t.verdict;
    leads = rw (goes_on l o ch.event c.stand (move l c ch r).stand k) t.leads;
    ends = t.ends;
    lines = t.lines;
    many = let n = t.many in omega (arith, n);
  }

  tells_next : (n : ℕ) (c d : Configuration O) (x : Next) → next l o c ≡ x → c.reading ≡ [] → c.bad ≡ None → story_from l o (alone_next l o n c x) c ≡ Some d →
      ((ch : Choice) (r : List Touched) → x ≡ Selects ch r → story_from l o (alone_from l o n (move l c ch r)) (move l c ch r) ≡ Some d → Tells (alone_from l o n (move l c ch r)) (move l c ch r) d) →
      Tells (alone_next l o n c x) c d
  tells_next n c d (Ends v) q i b h ih =
      tells_end c d v (ends_free c v b (nobody_waited o c i) q) (same_Some _ _ (sym (story_end l o c v q) ∙ h))
  tells_next n c d Waits q i b h ih = absurd (waits_not l o c (nobody_waited o c i) q)
  tells_next n c d (Selects ch r) q i b h ih =
      tells_on c d ch r (alone_from l o n (move l c ch r)) (selects_free c ch r q) (ih ch r refl (sym (story_sel l o c ch r (alone_from l o n (move l c ch r)) q) ∙ h))

  tells_from : (n : ℕ) (c d : Configuration O) → c.reading ≡ [] → c.bad ≡ None → c.stand.transitions ≤ o.steps → o.steps < n + c.stand.transitions → story_from l o (alone_from l o n c) c ≡ Some d →
      Tells (alone_from l o n c) c d
  tells_from zero c d i b t f h = absurd (omega arith)
  tells_from (suc n) c d i b t f h =
      let same = alone_on l o n c (next l o c) refl in
      subst (λ (rs : List Record). Tells rs c d) (sym same)
      (tells_next n c d (next l o c) refl i b (sym (ap (λ (rs : List Record). story_from l o rs c) same) ∙ h)
      (λ ch r x k.
      let less = selects_steps l o c ch r x t in
      let more = move_transitions l c ch r in
      tells_from n (move l c ch r) d i b (omega (arith, less, more)) (omega (arith, less, more)) k))

  initial_bad : (n : ℕ) → (initial l n).bad ≡ None
  unfolding initial
  initial_bad n = refl

  initial_stand : (n : ℕ) → (initial l n).stand ≡ settle l opening
  unfolding initial
  initial_stand n = refl

  told_alone : (d : Configuration O) → o.injectors ≡ 0 → story l o (alone l o) ≡ Some d → Tells (alone l o) (initial l o.injectors) d
  unfolding story alone
  told_alone d i h =
      let z = initial_transitions l o.injectors in
      tells_from (o.steps + 1) (initial l o.injectors) d (ap (λ (n : ℕ). (initial l n).reading) i ∙ initial_reading l) (initial_bad o.injectors) (omega (arith, z)) (omega (arith, z)) h

  last_line : (ls : List Line) (d : Line) → lines_text (ls ++ d ∷ []) ≡ lines_text ls ++ whole_line d
  unfolding lines_text
  last_line ls d = lines_append ls (d ∷ []) ∙ ap (λ (x : List ℕ). lines_text ls ++ x) (append-nil (whole_line d))

  trace_of : (records : List Record) (d : Configuration O) (n : ℕ) → Tells records (initial l o.injectors) d → length records ≡ n + 1 → IsTrace l o (lines_text d.stand.lines) n
  unfolding free
  trace_of records d n t h = record {
    run = record {
      events = t.events;
      stand = t.stand;
      verdict = t.verdict;
      leads = ap (free_from l o t.events) (sym (initial_stand o.injectors)) ∙ t.leads;
      ends = t.ends;
    };
    text = ap lines_text t.lines ∙ last_line t.stand.lines (trace.Verdict t.verdict);
    many = let m = t.many in omega (arith, m, h);
  }

  -- what is printed of a run without injectors is a trace
  pub run_is_trace : (records : List Record) (bytes : List ℕ) (n : ℕ) → o.injectors ≡ 0 → is_complete records ≡ true → length records ≡ n + 1 → text l o records ≡ Some bytes → IsTrace l o bytes n
  unfolding text
  run_is_trace records bytes n i k m h =
      let p = mapped (λ c. lines_text c.stand.lines) (story l o records) bytes h in
      let same = only_alone l o records p.0 i p.1 k in
      let t = told_alone p.0 i (sym (ap (story l o) same) ∙ p.1) in
      subst (λ (x : List ℕ). IsTrace l o x n) p.2
      (trace_of (alone l o) p.0 n t (ap (λ (rs : List Record). length rs) (sym same) ∙ m))
