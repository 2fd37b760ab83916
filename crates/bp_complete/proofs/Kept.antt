-- What holds of every configuration of a run, and what comes where a run waits.
use Rattle.std.proofs.Common.{◌≡◌, ℕ, ◌+◌, ◌<◌, ◌≤◌, Bool, true, false, not, ◌&&◌, ◌==◌, nat_eq, nat_lt, List, [], ◌∷◌, length, refl, sym, subst, ◌∙◌, Option, Some, None, Ok, Err, if◌then◌else◌, arith, length-append}
use Rattle.std.specs.Prelude.{slice_get}
use Rattle.std.specs.List.{list_any}
use Rattle.std.proofs.lemmas.Option.{same_Some, slice_get_within}
use Rattle.std.proofs.lemmas.List.Edits.{length-remove}
use Rattle.std.proofs.lemmas.Bool.{ltb-true, and_parts}
use Rattle.js_data.specs.Event.{PlainEvent}
use Rattle.bp_log.specs.Options.{PlainOptions}
use Rattle.bp_log.specs.declared.limits.TheConstants.{MOST_WAITING, MOST_WEIGHT}
use Rattle.bp_log.specs.declared.record.Record.{Record}
use Rattle.bp_log.specs.declared.record.Record.TheVariants.{In, Bad, Eof, Sel, End}
use Rattle.bp_log.specs.declared.verdict.Verdict.{Verdict}
use Rattle.bp_log.specs.declared.verdict.Verdict.TheVariants as verdict
use Rattle.bp_run.specs.Bodies.{Code}
use Rattle.bp_run.specs.Configuration.{Configuration, Stand}
use Rattle.bp_run.specs.Settling.{initial, opening, queued}
use Rattle.bp_run.specs.Selecting.{Asked, live}
use Rattle.bp_run.specs.Chosen.{Stands}
use Rattle.bp_run.specs.Choosing.{Choice, choice, Touched, reach}
use Rattle.bp_run.specs.Story.{Next, next, next_unless, next_choice, next_chosen, next_idle, waits_for_none, weight_after, without, step, stepped, move, may_come, has_room, read_out, first_bad, after_record, story_from, story}
use Rattle.bp_run.specs.Story.Next.{Ends, Selects, Waits}
use Rattle.bp_run.proofs.Growing.{grown_settle}
use Rattle.bp_run.proofs.Injectors.{below_any, any_without}
use Rattle.bp_run.proofs.Selected.{selected_is_chosen}
use Rattle.bp_run.proofs.Stories.{leads_if, selected_moves, ended_with, selects_steps, move_transitions, initial_transitions, story_first}

-- few events wait, few were selected, and who is read is an injector
pub record IsWithin {O : Type 0} (o : PlainOptions) (c : Configuration O) : Type 0 where
  pub room : length c.stand.queue ≤ MOST_WAITING
  pub steps : c.stand.transitions ≤ o.steps
  pub known : (j : ℕ) → list_any (nat_eq j) c.reading ≡ true → j < o.injectors

-- ---- an event that is selected

-- the queue loses one event at most
pub record Loses (old new : List PlainEvent) : Type 0 where
  pub most : length new ≤ length old
  pub least : length old ≤ length new + 1

loses_chosen : (place : Option ℕ) (queue : List PlainEvent) → ((n : ℕ) → place ≡ Some n → n < length queue) → Loses queue (without queue place)
loses_chosen None queue h = record { most = omega arith; least = omega arith }
loses_chosen (Some n) queue h =
    let l = length-remove queue n (h n refl) in
    record { most = omega (arith, l); least = omega (arith, l) }

place_within : {O S : Type 0} (l : Code O S) (o : PlainOptions) (c : Configuration O) (ch : Choice) (r : List Touched) → next l o c ≡ Selects ch r → (place : Option ℕ) → ch.place ≡ place →
    (n : ℕ) → place ≡ Some n → n < length c.stand.queue
place_within l o c ch r h None e n k = absurd (cc)
place_within l o c ch r h (Some m) e n k =
    let chosen = selected_is_chosen l o c ch r h in
    let at : slice_get c.stand.queue m ≡ Some ch.event = subst (λ (p : Option ℕ). Stands (live l c.stand) c.stand.queue ch.event p) e chosen.stands in
    let same : m ≡ n = same_Some m n k in
    subst (λ (x : ℕ). x < length c.stand.queue) same (slice_get_within c.stand.queue m ch.event at)

-- what a selected event does to the queue: it leaves it, and then events may come
pub move_queue : {O S : Type 0} (l : Code O S) (o : PlainOptions) (c : Configuration O) (ch : Choice) (r : List Touched) → next l o c ≡ Selects ch r →
    (length c.stand.queue ≤ length (move l c ch r).stand.queue + 1) × (length c.stand.queue ≤ MOST_WAITING → length (move l c ch r).stand.queue ≤ MOST_WAITING)
unfolding step
move_queue l o c ch r h =
    let loses = loses_chosen ch.place c.stand.queue (place_within l o c ch r h ch.place refl) in
    let grown = grown_settle l (stepped l c.stand ch.event ch.place r) in
    let most = loses.most in
    let least = loses.least in
    let longer = grown.longer in
    (omega (arith, least, longer), λ room. grown.room (omega (arith, most, room)))

-- ---- what every record keeps

left_of : (a b : Bool) → (a && b) ≡ true → a ≡ true
left_of a b h = (and_parts a b h).0

within_read : {O : Type 0} (o : PlainOptions) (c : Configuration O) (j : ℕ) (bad : Option (ℕ × ℕ)) → IsWithin o c → IsWithin o (record (read_out c j) { bad = bad })
within_read o c j bad w = record {
  room = w.room;
  steps = w.steps;
  known = λ k h. w.known k (left_of (list_any (nat_eq k) c.reading) (not (nat_eq k j)) (sym (any_without k j c.reading) ∙ h));
}

within_after : {O S : Type 0} (l : Code O S) (o : PlainOptions) (c m : Configuration O) (r : Record) → IsWithin o c → after_record l o c r ≡ Some m → IsWithin o m
unfolding after_record
within_after l o c m (In j e) w h =
    let p = leads_if (may_come c j && has_room c.stand) (record c { stand = queued e c.stand }) m h in
    let space = ltb-true (length c.stand.queue) MOST_WAITING (and_parts (may_come c j) (has_room c.stand) p.0).1 in
    let more = length-append c.stand.queue (e ∷ []) in
    subst (λ (x : Configuration _). IsWithin o x) p.1 (record { room = omega (arith, space, more); steps = w.steps; known = w.known })
within_after l o c m (Bad j n) w h =
    subst (λ (x : Configuration _). IsWithin o x) (leads_if (may_come c j) (record (read_out c j) { bad = first_bad c.bad j n }) m h).1 (within_read o c j (first_bad c.bad j n) w)
within_after l o c m (Eof j) w h =
    subst (λ (x : Configuration _). IsWithin o x) (leads_if (may_come c j) (read_out c j) m h).1 (within_read o c j c.bad w)
within_after l o c m (Sel e) w h =
    let p = selected_moves l c m e (next l o c) h in
    let less = selects_steps l o c p.choice p.reached p.comes w.steps in
    let more = move_transitions l c p.choice p.reached in
    subst (λ (x : Configuration _). IsWithin o x) p.leads (record { room = (move_queue l o c p.choice p.reached p.comes).1 w.room; steps = omega (arith, less, more); known = w.known })
within_after l o c m (End v) w h =
    subst (λ (x : Configuration _). IsWithin o x) (ended_with c m v (next l o c) h).1 (record { room = w.room; steps = w.steps; known = w.known })

within_from : {O S : Type 0} (l : Code O S) (o : PlainOptions) (rs : List Record) (c d : Configuration O) → IsWithin o c → story_from l o rs c ≡ Some d → IsWithin o d
unfolding story_from
within_from l o [] c d w h = subst (λ (x : Configuration _). IsWithin o x) (same_Some c d h) w
within_from l o (r ∷ rs) c d w h =
    let f = story_first l o r rs c d h in
    within_from l o rs f.0 d (within_after l o c f.0 r w f.1) f.2

within_first : {O S : Type 0} (l : Code O S) (o : PlainOptions) → IsWithin o (initial l o.injectors)
unfolding initial
within_first l o =
    let none = initial_transitions l o.injectors in
    record { room = (grown_settle l opening).room (omega arith); steps = omega (arith, none); known = λ j h. below_any o.injectors j h }

pub within : {O S : Type 0} (l : Code O S) (o : PlainOptions) (rs : List Record) (d : Configuration O) → story l o rs ≡ Some d → IsWithin o d
unfolding story
within l o rs d h = within_from l o rs (initial l o.injectors) d (within_first l o) h

-- ---- a run that waits

-- there is no verdict, an event has room, and some injector is read
pub record IsWaiting {O : Type 0} (c : Configuration O) : Type 0 where
  pub going : c.stand.verdict ≡ None
  pub space : nat_eq (length c.stand.queue) MOST_WAITING ≡ false

idle_space : (n : ℕ) (b e : Bool) → (if b then Ends verdict.Queue else if e then Ends (verdict.Quiet n) else Waits) ≡ Waits → b ≡ false
idle_space n true e h = absurd (cc)
idle_space n false e h = refl

idle_waits : {O : Type 0} (o : PlainOptions) (c : Configuration O) (b : Option (ℕ × ℕ)) → next_idle o c b ≡ Waits → nat_eq (length c.stand.queue) MOST_WAITING ≡ false
idle_waits o c (Some b) h = absurd (cc)
idle_waits o c None h = idle_space c.stand.transitions (length c.stand.queue == MOST_WAITING) (waits_for_none o c) h

weight_waits_not : (ch : Choice) (r : List Touched) (b : Bool) → (if b then Ends verdict.Weight else Selects ch r) ≡ Waits → ⊥
weight_waits_not ch r true h = cc
weight_waits_not ch r false h = cc

chosen_waits_not : {O : Type 0} (s : Stand O) (ch : Choice) (x : Asked (List Touched)) → next_chosen s ch x ≡ Waits → ⊥
chosen_waits_not s ch (Err f) h = cc
chosen_waits_not s ch (Ok r) h = weight_waits_not ch r (nat_lt MOST_WEIGHT (weight_after s ch.event r)) h

steps_waits_not : (n : ℕ) (b : Bool) (x : Next) → (x ≡ Waits → ⊥) → (if b then Ends (verdict.Steps n) else x) ≡ Waits → ⊥
steps_waits_not n true x k h = cc
steps_waits_not n false x k h = k h

choice_waits : {O S : Type 0} (l : Code O S) (o : PlainOptions) (c : Configuration O) (x : Asked (Option Choice)) → next_choice l o c x ≡ Waits → nat_eq (length c.stand.queue) MOST_WAITING ≡ false
choice_waits l o c (Err f) h = absurd (cc)
choice_waits l o c (Ok None) h = idle_waits o c c.bad h
choice_waits l o c (Ok (Some ch)) h =
    let x = reach l.has ch.event (live l c.stand) in
    absurd (steps_waits_not o.steps (nat_eq c.stand.transitions o.steps) (next_chosen c.stand ch x) (chosen_waits_not c.stand ch x) h)

unless_waits : {O S : Type 0} (l : Code O S) (o : PlainOptions) (c : Configuration O) (v : Option Verdict) → c.stand.verdict ≡ v → next_unless l o c v ≡ Waits → IsWaiting c
unless_waits l o c (Some v) e h = absurd (cc)
unless_waits l o c None e h = record { going = e; space = choice_waits l o c (choice l.has l.word o.strategy (live l c.stand) c.stand.queue c.drawn) h }

pub waits : {O S : Type 0} (l : Code O S) (o : PlainOptions) (c : Configuration O) → next l o c ≡ Waits → IsWaiting c
unfolding next
waits l o c h = unless_waits l o c c.stand.verdict refl h
