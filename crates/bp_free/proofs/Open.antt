-- Where something can be selected, and that each free run can be ended.
use Rattle.std.proofs.Common.{◌≡◌, ℕ, zero, suc, ◌+◌, ◌-◌, ◌≤◌, Bool, true, false, nat_lt, ◌==◌, List, [], ◌∷◌, ◌++◌, Option, Some, None, Result, Ok, Err, refl, sym, ap, ◌∙◌, subst, arith, slice_get, if◌then◌else◌}
use Rattle.std.proofs.lemmas.Bool.{eq-eqb, false≢true}
use Rattle.js_data.specs.Event.{PlainEvent}
use Rattle.js_data.proofs.SameEvent.{same_event-self}
use Rattle.bp_log.specs.Options.{PlainOptions}
use Rattle.bp_log.specs.declared.limits.TheConstants.{MOST_WEIGHT}
use Rattle.bp_log.specs.declared.verdict.Verdict.{Verdict}
use Rattle.bp_log.specs.declared.verdict.Verdict.TheVariants as verdict
use Rattle.bp_run.specs.Bodies.{Code}
use Rattle.bp_run.specs.Configuration.{Stand}
use Rattle.bp_run.specs.Settling.{settle, opening}
use Rattle.bp_run.specs.Selecting.{Live, Has, Asked, Enabled, live, selectable, unblocked, first_unblocked, candidates, or_queued, without_fault}
use Rattle.bp_run.specs.Choosing.{Touched, reach}
use Rattle.bp_run.specs.Story.{stepped, weight_after, fault_verdict}
use Rattle.bp_run.proofs.Growing.{grown_settle}
use Rattle.bp_run.proofs.Chosen.{first_is}
use Rattle.bp_free.specs.Due.{Due, Ends, Goes, Idles, due, due_among, due_asked, due_open, due_unless}
use Rattle.bp_free.specs.Free.{IsFreeEnd, StopsAt, free, free_from, further, place_among, place_in}
use Rattle.bp_free.specs.Traces.{FreeRun}
use Rattle.bp_free.proofs.Further.{Comes, goes_on, adds, free_more, first_of, none_of}

-- ---- where something can be selected

pub record Open {O S : Type 0} (l : Code O S) (o : PlainOptions) (s : Stand O) (x : Enabled) : Type 0 where
  pub asked : selectable l.has (live l s) s.queue ≡ Ok x
  pub going : (s.transitions == o.steps) ≡ false
  pub some : x.inner ≡ [] → x.outer ≡ None → ⊥

open_if : {O : Type 0} (o : PlainOptions) (s : Stand O) (x y : Enabled) (b : Bool) → (s.transitions == o.steps) ≡ b → (if b then Ends (verdict.Steps o.steps) else Goes y) ≡ Goes x → (x ≡ y) × (b ≡ false)
open_if o s x y true w h = absurd (cc)
open_if o s x y false w h = (cc, refl)

module _ {O S : Type 0} (l : Code O S) (o : PlainOptions) (s : Stand O) (x : Enabled) where
  opened : (inner : List PlainEvent) (outer : Option ℕ) → selectable l.has (live l s) s.queue ≡ Ok (record { inner = inner; outer = outer }) →
      (inner ≡ [] → outer ≡ None → ⊥) → due_open o s (record { inner = inner; outer = outer }) ≡ Goes x → Open l o s x
  opened inner outer a n h =
      let p = open_if o s x (record { inner = inner; outer = outer }) (s.transitions == o.steps) refl h in
      record {
        asked = a ∙ ap (λ (y : Enabled). Ok y) (sym p.0);
        going = p.1;
        some = subst (λ (y : Enabled). y.inner ≡ [] → y.outer ≡ None → ⊥) (sym p.0) n;
      }

  open_among : (inner : List PlainEvent) (outer : Option ℕ) → selectable l.has (live l s) s.queue ≡ Ok (record { inner = inner; outer = outer }) → due_among o s inner outer ≡ Goes x → Open l o s x
  open_among [] None a h = absurd (cc)
  open_among [] (Some place) a h = opened [] (Some place) a (λ n k. absurd (cc)) h
  open_among (e ∷ es) outer a h = opened (e ∷ es) outer a (λ n k. absurd (cc)) h

  open_asked : (y : Asked Enabled) → selectable l.has (live l s) s.queue ≡ y → due_asked o s y ≡ Goes x → Open l o s x
  open_asked (Err f) a h = absurd (cc)
  open_asked (Ok y) a h = open_among y.inner y.outer a h

  open_unless : (v : Option Verdict) → due_unless o s (selectable l.has (live l s) s.queue) v ≡ Goes x → Open l o s x
  open_unless (Some v) h = absurd (cc)
  open_unless None h = open_asked (selectable l.has (live l s) s.queue) refl h

  pub is_open : due l o s ≡ Goes x → Open l o s x
  unfolding due
  is_open h = open_unless s.verdict h

-- ---- some event can be selected there

pub record Placed (x : Enabled) (queue : List PlainEvent) : Type 0 where
  pub event : PlainEvent
  pub place : Option ℕ
  pub placed : place_in x queue event ≡ Some place

outer_of : {F : Type 0} {o p : Option ℕ} → ◌≡◌ {A = Result Enabled F} (Ok (record { inner = []; outer = o })) (Ok (record { inner = []; outer = p })) → o ≡ p
outer_of {F} {o} {p} h = ap (λ (r : Result Enabled F). elim r [ Ok x ↦ x.outer | Err f ↦ o ]) h

pub inner_of : {F : Type 0} {es fs : List PlainEvent} {o p : Option ℕ} → ◌≡◌ {A = Result Enabled F} (Ok (record { inner = es; outer = o })) (Ok (record { inner = fs; outer = p })) → es ≡ fs
inner_of {F} {es} {fs} {o} {p} h = ap (λ (r : Result Enabled F). elim r [ Ok x ↦ x.inner | Err f ↦ es ]) h

queued_by : {S : Type 0} (has : Has S) (ts : List (Live S)) (queue : List PlainEvent) (i : ℕ) (y : Asked (Option ℕ)) → first_unblocked has ts 0 queue ≡ y →
    without_fault {B = Enabled} (λ place. record { inner = []; outer = place }) y ≡ Ok (record { inner = []; outer = Some i }) → (e : PlainEvent) × (slice_get queue i ≡ Some e)
queued_by has ts queue i (Err f) q h = absurd (cc)
queued_by has ts queue i (Ok o) q h =
    let e : o ≡ Some i = outer_of h in
    let f = first_is has ts 0 queue (Some i) (q ∙ ap (λ (p : Option ℕ). Ok p) e) in
    let k : f.0 ≡ i = let p = f.2 in omega (arith, p) in
    (f.1, subst (λ (n : ℕ). slice_get queue n ≡ Some f.1) k f.3)

queued_at : {S : Type 0} (has : Has S) (ts : List (Live S)) (queue : List PlainEvent) (i : ℕ) (y : Asked (List PlainEvent)) → or_queued has ts queue y ≡ Ok (record { inner = []; outer = Some i }) →
    (e : PlainEvent) × (slice_get queue i ≡ Some e)
queued_at has ts queue i (Err f) h = absurd (cc)
queued_at has ts queue i (Ok (e ∷ es)) h = let q : e ∷ es ≡ [] = inner_of h in absurd (cc)
queued_at has ts queue i (Ok []) h = queued_by has ts queue i (first_unblocked has ts 0 queue) refl h

pub queued_there : {S : Type 0} (has : Has S) (ts : List (Live S)) (queue : List PlainEvent) (i : ℕ) → selectable has ts queue ≡ Ok (record { inner = []; outer = Some i }) → (e : PlainEvent) × (slice_get queue i ≡ Some e)
unfolding selectable
queued_there has ts queue i h = queued_at has ts queue i (unblocked has ts (candidates ts)) h

-- the candidate itself, or the event at the place
pub placed_inner : (c : PlainEvent) (cs : List PlainEvent) (outer : Option ℕ) (queue : List PlainEvent) → place_among (c ∷ cs) outer queue c ≡ Some None
placed_inner c cs outer queue = rw (same_event-self c) refl

pub placed_outer : (i : ℕ) (queue : List PlainEvent) (e : PlainEvent) → slice_get queue i ≡ Some e → place_among [] (Some i) queue e ≡ Some (Some i)
placed_outer i queue e h = rw (h, same_event-self e) refl

module _ {S : Type 0} (has : Has S) (ts : List (Live S)) (queue : List PlainEvent) where
  some_placed : (inner : List PlainEvent) (outer : Option ℕ) → selectable has ts queue ≡ Ok (record { inner = inner; outer = outer }) → (inner ≡ [] → outer ≡ None → ⊥) →
      Placed (record { inner = inner; outer = outer }) queue
  some_placed (c ∷ cs) outer h n = record { event = c; place = None; placed = placed_inner c cs outer queue }
  some_placed [] None h n = absurd (n refl refl)
  some_placed [] (Some i) h n = let q = queued_there has ts queue i h in record { event = q.0; place = Some i; placed = placed_outer i queue q.0 q.1 }

pub some_event : {O S : Type 0} (l : Code O S) (o : PlainOptions) (s : Stand O) (x : Enabled) → Open l o s x → Placed x s.queue
some_event l o s x p = some_placed l.has (live l s) s.queue x.inner x.outer p.asked p.some

-- ---- each free run can be ended

pub record Ending {O S : Type 0} (l : Code O S) (o : PlainOptions) (s : Stand O) : Type 0 where
  pub events : List PlainEvent
  pub stand : Stand O
  pub verdict : Verdict
  pub leads : free_from l o events s ≡ Some stand
  pub ends : IsFreeEnd l o stand verdict

module _ {O S : Type 0} (l : Code O S) (o : PlainOptions) where
  here : (s : Stand O) (v : Verdict) → IsFreeEnd l o s v → Ending l o s
  unfolding free_from
  here s v h = record { events = []; stand = s; verdict = v; leads = refl; ends = h }

  after : (e : PlainEvent) (s u : Stand O) → further l o e s ≡ Some u → Ending l o u → Ending l o s
  unfolding free_from
  after e s u h k = record { events = e ∷ k.events; stand = k.stand; verdict = k.verdict; leads = rw h k.leads; ends = k.ends }

  stops : (s : Stand O) (x : Enabled) (v : Verdict) → due l o s ≡ Goes x → StopsAt l s x v → IsFreeEnd l o s v
  stops s x v g h = rw g h

  end_light : (s : Stand O) (x : Enabled) (e : PlainEvent) (place : Option ℕ) (xs : List Touched) (b : Bool) → due l o s ≡ Goes x → place_in x s.queue e ≡ Some place → reach l.has e (live l s) ≡ Ok xs →
      nat_lt MOST_WEIGHT (weight_after s e xs) ≡ b → ((u : Stand O) → u.transitions ≡ s.transitions + 1 → Ending l o u) → Ending l o s
  end_light s x e place xs true g p r w ih = here s verdict.Weight (stops s x verdict.Weight g (record { event = e; place = place; placed = p; stops = rw (r, w) refl }))
  end_light s x e place xs false g p r w ih =
      let u = settle l (stepped l s e place xs) in
      let c : Comes l o e s u = record { enabled = x; goes = g; place = place; placed = p; reached = xs; reach_is = r; light = w; leads = refl } in
      after e s u (goes_on l o e s u c) (ih u (adds l o e s u c).transitions)

  end_reached : (s : Stand O) (x : Enabled) (e : PlainEvent) (place : Option ℕ) (r : Asked (List Touched)) → due l o s ≡ Goes x → place_in x s.queue e ≡ Some place → reach l.has e (live l s) ≡ r →
      ((u : Stand O) → u.transitions ≡ s.transitions + 1 → Ending l o u) → Ending l o s
  end_reached s x e place (Err y) g p r ih = here s (fault_verdict s y) (stops s x (fault_verdict s y) g (record { event = e; place = place; placed = p; stops = rw r refl }))
  end_reached s x e place (Ok xs) g p r ih = end_light s x e place xs (nat_lt MOST_WEIGHT (weight_after s e xs)) g p r refl ih

  end_at : (s : Stand O) (d : Due) → due l o s ≡ d → ((x : Enabled) → Open l o s x → (u : Stand O) → u.transitions ≡ s.transitions + 1 → Ending l o u) → Ending l o s
  end_at s (Ends v) g ih = here s v (rw g refl)
  end_at s (Idles v) g ih = here s v (rw g refl)
  end_at s (Goes x) g ih =
      let p = is_open l o s x g in
      let e = some_event l o s x p in
      end_reached s x e.event e.place (reach l.has e.event (live l s)) g e.placed refl (ih x p)

  going_on : (s : Stand O) → (s.transitions == o.steps) ≡ false → s.transitions ≡ o.steps → ⊥
  going_on s h k = false≢true (sym h ∙ eq-eqb s.transitions o.steps k)

  end_in : (n : ℕ) (s : Stand O) → s.transitions + n ≡ o.steps → Ending l o s
  end_in zero s h = end_at s (due l o s) refl (λ x p u k. absurd (going_on s p.going (omega (arith, h))))
  end_in (suc n) s h = end_at s (due l o s) refl (λ x p u k. end_in n u (omega (arith, h, k)))

  pub within : (es : List PlainEvent) (s t : Stand O) → free_from l o es s ≡ Some t → s.transitions ≤ o.steps → t.transitions ≤ o.steps
  within [] s t h w = subst (λ (u : Stand O). u.transitions ≤ o.steps) (none_of l o s t h) w
  within (e ∷ es) s t h w =
      let f = first_of l o e es s t h in
      let a = (adds l o e s f.next f.comes).transitions in
      let p = going_on s (is_open l o s f.comes.enabled f.comes.goes).going in
      within es f.next t f.later (omega (arith, a, w, p))

  started : (settle l opening).transitions ≡ 0
  started = (grown_settle l opening).transitions

  pub can_end : (es : List PlainEvent) (s : Stand O) → free l o es ≡ Some s → Ending l o s
  unfolding free
  can_end es s h =
      let w = within es (settle l opening) s h (let z = started in omega (arith, z)) in
      end_in (o.steps - s.transitions) s (omega (arith, w))

  -- the free run with its end, which comes after these events
  pub record Finished (known : List PlainEvent) (s : Stand O) : Type 0 where
    pub run : FreeRun l o
    pub events : List PlainEvent
    pub all : run.events ≡ known ++ events
    pub leads : free_from l o events s ≡ Some run.stand

  pub finished : (es : List PlainEvent) (s : Stand O) → free l o es ≡ Some s → Finished es s
  finished es s h =
      let e = can_end es s h in
      record {
        run = record { events = es ++ e.events; stand = e.stand; verdict = e.verdict; leads = free_more l o es e.events s h ∙ e.leads; ends = e.ends };
        events = e.events;
        all = refl;
        leads = e.leads;
      }
