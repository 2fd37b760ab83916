-- What holds of every story.
use Rattle.std.proofs.Common.{◌≡◌, ℕ, zero, suc, ◌+◌, ◌<◌, ◌≤◌, Bool, true, false, not, ◌&&◌, ◌||◌, ◌==◌, nat_eq, nat_lt, List, [], ◌∷◌, ◌++◌, length, refl, sym, ap, subst, ◌∙◌, append_assoc, append-nil, Option, Some, None, Ok, Err, if◌then◌else◌, option_and_then, arith, option_map}
use Rattle.std.specs.Prelude.{option_to_list}
use Rattle.std.specs.List.{list_any}
use Rattle.std.proofs.lemmas.Grind.{flat_map-append}
use Rattle.std.proofs.lemmas.Option.{same_Some}
use Rattle.std.proofs.lemmas.Bool.{eq-eqb, ltb-false, and_parts, both_ways, and_right}
use Rattle.js_data.specs.Event.{PlainEvent, same_event}
use Rattle.js_data.proofs.SameEvent.{same_event-sound, same_event-self}
use Rattle.js_data.proofs.Shared.{chained, mapped}
use Rattle.bp_log.specs.Options.{PlainOptions}
use Rattle.bp_log.specs.Records.{is_complete}
use Rattle.bp_log.specs.Texts.{whole_line, lines_text}
use Rattle.bp_log.specs.Verdicts.{same_verdict}
use Rattle.bp_log.specs.declared.limits.TheConstants.{MOST_WAITING, MOST_WEIGHT}
use Rattle.bp_log.specs.declared.record.Record.{Record}
use Rattle.bp_log.specs.declared.record.Record.TheVariants.{In, Bad, Eof, Sel, End}
use Rattle.bp_log.specs.declared.trace.Line.{Line}
use Rattle.bp_log.specs.declared.trace.Line.TheVariants as trace
use Rattle.bp_log.specs.declared.verdict.Verdict.{Verdict}
use Rattle.bp_log.specs.declared.verdict.Verdict.TheVariants as verdict
use Rattle.bp_log.proofs.Equality.{verdict_path, verdict_refl}
use Rattle.bp_run.specs.Bodies.{Code}
use Rattle.bp_run.specs.Configuration.{Configuration, Stand}
use Rattle.bp_run.specs.Settling.{initial, queued, opening}
use Rattle.bp_run.specs.Selecting.{Asked, live, selectable}
use Rattle.bp_run.specs.Choosing.{Choice, choice, Touched, reach}
use Rattle.bp_run.specs.Story.{Next, next, next_unless, next_choice, next_chosen, next_idle, waits_for_none, step, stepped, move, may_come, has_room, is_over, if_selected, if_ended, over_with, line_of_choice, after_record, story_from, story, alone_from, alone, weight_after, record_of, after_next}
use Rattle.bp_run.specs.Story.Next.{Ends, Selects, Waits}
use Rattle.bp_run.specs.Text.{text}
use Rattle.bp_run.proofs.Growing.{grown_settle}

pub and_then_if : {A B : Type 0} (b : Bool) (g : A → Option B) (x : A) (d : B) → option_and_then g (if b then Some x else None) ≡ Some d → (b ≡ true) × (g x ≡ Some d)
and_then_if true g x d h = (refl, h)
and_then_if false g x d h = absurd (cc)

pub leads_if : {A : Type 0} (b : Bool) (x y : A) → (if b then Some x else None) ≡ Some y → (b ≡ true) × (x ≡ y)
leads_if true x y h = (refl, same_Some x y h)
leads_if false x y h = absurd (cc)

-- a record of an event leads where the event does, which comes next
pub record Moves {O S : Type 0} (l : Code O S) (c m : Configuration O) (e : PlainEvent) (x : Next) : Type 0 where
  pub choice : Choice
  pub reached : List Touched
  pub comes : x ≡ Selects choice reached
  pub event : e ≡ choice.event
  pub leads : move l c choice reached ≡ m

pub selected_moves : {O S : Type 0} (l : Code O S) (c m : Configuration O) (e : PlainEvent) (x : Next) → if_selected l c e x ≡ Some m → Moves l c m e x
selected_moves l c m e (Ends v) h = absurd (cc)
selected_moves l c m e Waits h = absurd (cc)
selected_moves l c m e (Selects ch r) h =
    let p = leads_if (same_event e ch.event) (move l c ch r) m h in
    record { choice = ch; reached = r; comes = refl; event = same_event-sound e ch.event p.0; leads = p.1 }

-- a record of the end is of the verdict that comes next
pub ended_with : {O : Type 0} (c m : Configuration O) (v : Verdict) (x : Next) → if_ended c v x ≡ Some m → (x ≡ Ends v) × (over_with c v ≡ m)
ended_with c m v (Selects ch r) h = absurd (cc)
ended_with c m v Waits h = absurd (cc)
ended_with c m v (Ends w) h =
    let p = leads_if (same_verdict v w) (over_with c v) m h in
    (ap (λ (x : Verdict). Ends x) (sym (verdict_path v w p.0)), p.1)

-- a transition is one more
pub move_transitions : {O S : Type 0} (l : Code O S) (c : Configuration O) (ch : Choice) (r : List Touched) → (move l c ch r).stand.transitions ≡ c.stand.transitions + 1
unfolding step
move_transitions l c ch r = (grown_settle l (stepped l c.stand ch.event ch.place r)).transitions

-- an event is selected only where fewer steps were made than the options say
idle_selects_not : {O : Type 0} (c : Configuration O) (b e : Bool) (ch : Choice) (r : List Touched) →
    (if b then Ends verdict.Queue else if e then Ends (verdict.Quiet c.stand.transitions) else Waits) ≡ Selects ch r → ⊥
idle_selects_not c true e ch r h = cc
idle_selects_not c false true ch r h = cc
idle_selects_not c false false ch r h = cc

steps_left : (t n : ℕ) (b : Bool) (x : Next) (ch : Choice) (r : List Touched) → nat_eq t n ≡ b →
    (if b then Ends (verdict.Steps n) else x) ≡ Selects ch r → (nat_eq t n ≡ false) × (x ≡ Selects ch r)
steps_left t n true x ch r h k = absurd (cc)
steps_left t n false x ch r h k = (h, k)

idle_not : {O : Type 0} (o : PlainOptions) (c : Configuration O) (b : Option (ℕ × ℕ)) (ch : Choice) (r : List Touched) → next_idle o c b ≡ Selects ch r → ⊥
idle_not o c (Some b) ch r h = cc
idle_not o c None ch r h = idle_selects_not c (length c.stand.queue == MOST_WAITING) (waits_for_none o c) ch r h

-- what is known where an event is selected
pub record Selected {O S : Type 0} (l : Code O S) (o : PlainOptions) (c : Configuration O) (ch : Choice) (r : List Touched) : Type 0 where
  pub going : c.stand.verdict ≡ None
  pub choice_is : choice l.has l.word o.strategy (live l c.stand) c.stand.queue c.drawn ≡ Ok (Some ch)
  pub steps : nat_eq c.stand.transitions o.steps ≡ false
  pub reach_is : reach l.has ch.event (live l c.stand) ≡ Ok r
  pub light : weight_after c.stand ch.event r ≤ MOST_WEIGHT

light_at : {O : Type 0} (s : Stand O) (d ch : Choice) (q r : List Touched) (b : Bool) → nat_lt MOST_WEIGHT (weight_after s d.event q) ≡ b →
    (if b then Ends verdict.Weight else Selects d q) ≡ Selects ch r → (d ≡ ch) × (q ≡ r) × (weight_after s d.event q ≤ MOST_WEIGHT)
light_at s d ch q r true h k = absurd (cc)
light_at s d ch q r false h k = (cc, cc, ltb-false MOST_WEIGHT (weight_after s d.event q) h)

chosen_selects : {O : Type 0} (s : Stand O) (d ch : Choice) (x : Asked (List Touched)) (r : List Touched) → next_chosen s d x ≡ Selects ch r →
    (d ≡ ch) × (x ≡ Ok r) × (weight_after s d.event r ≤ MOST_WEIGHT)
chosen_selects s d ch (Err f) r h = absurd (cc)
chosen_selects s d ch (Ok q) r h =
    let p = light_at s d ch q r (nat_lt MOST_WEIGHT (weight_after s d.event q)) refl h in
    (p.0, ap (λ (x : List Touched). Ok x) p.1, subst (λ (x : List Touched). weight_after s d.event x ≤ MOST_WEIGHT) p.1 p.2)

choice_selects : {O S : Type 0} (l : Code O S) (o : PlainOptions) (c : Configuration O) (x : Asked (Option Choice)) (ch : Choice) (r : List Touched) → next_choice l o c x ≡ Selects ch r →
    (x ≡ Ok (Some ch)) × (nat_eq c.stand.transitions o.steps ≡ false) × (reach l.has ch.event (live l c.stand) ≡ Ok r) × (weight_after c.stand ch.event r ≤ MOST_WEIGHT)
choice_selects l o c (Err f) ch r h = absurd (cc)
choice_selects l o c (Ok None) ch r h = absurd (idle_not o c c.bad ch r h)
choice_selects l o c (Ok (Some d)) ch r h =
    let s = steps_left c.stand.transitions o.steps (nat_eq c.stand.transitions o.steps) (next_chosen c.stand d (reach l.has d.event (live l c.stand))) ch r refl h in
    let k = chosen_selects c.stand d ch (reach l.has d.event (live l c.stand)) r s.1 in (
      ap (λ (x : Choice). Ok (Some x)) k.0,
      s.0,
      subst (λ (x : Choice). reach l.has x.event (live l c.stand) ≡ Ok r) k.0 k.1,
      subst (λ (x : Choice). weight_after c.stand x.event r ≤ MOST_WEIGHT) k.0 k.2,
    )

unless_selects : {O S : Type 0} (l : Code O S) (o : PlainOptions) (c : Configuration O) (v : Option Verdict) (ch : Choice) (r : List Touched) → c.stand.verdict ≡ v → next_unless l o c v ≡ Selects ch r → Selected l o c ch r
unless_selects l o c (Some v) ch r e h = absurd (cc)
unless_selects l o c None ch r e h =
    let k = choice_selects l o c (choice l.has l.word o.strategy (live l c.stand) c.stand.queue c.drawn) ch r h in
    record { going = e; choice_is = k.0; steps = k.1; reach_is = k.2; light = k.3 }

pub selects : {O S : Type 0} (l : Code O S) (o : PlainOptions) (c : Configuration O) (ch : Choice) (r : List Touched) → next l o c ≡ Selects ch r → Selected l o c ch r
unfolding next
selects l o c ch r h = unless_selects l o c c.stand.verdict ch r refl h

-- a verdict comes next
pub verdict_next : {O S : Type 0} (l : Code O S) (o : PlainOptions) (c : Configuration O) (w : Verdict) → c.stand.verdict ≡ Some w → next l o c ≡ Ends w
unfolding next
verdict_next l o c w h = ap (λ (v : Option Verdict). next_unless l o c v) h

pub selects_steps : {O S : Type 0} (l : Code O S) (o : PlainOptions) (c : Configuration O) (ch : Choice) (r : List Touched) → next l o c ≡ Selects ch r → c.stand.transitions ≤ o.steps → c.stand.transitions < o.steps
selects_steps l o c ch r h k =
    let f = (selects l o c ch r h).steps in
    let g : (c.stand.transitions ≡ o.steps) → ⊥ = λ e. (let t : nat_eq c.stand.transitions o.steps ≡ true = eq-eqb c.stand.transitions o.steps e in cc) in
    omega (arith, g)

-- an item can't come where no injector is read
comes_not : {O : Type 0} (c : Configuration O) (j : ℕ) → c.reading ≡ [] → may_come c j ≡ true → ⊥
comes_not c j h k =
    both_ways _ (and_right (not (is_over c)) (list_any (nat_eq j) c.reading) (ap (λ (r : List ℕ). list_any (nat_eq j) r) h)) k

abbrev pub alone_next : {O S : Type 0} → Code O S → PlainOptions → ℕ → Configuration O → Next → List Record
alone_next l o n c (Ends v) = End v ∷ []
alone_next l o n c (Selects ch r) = Sel ch.event ∷ alone_from l o n (move l c ch r)
alone_next l o n c Waits = []

pub alone_on : {O S : Type 0} (l : Code O S) (o : PlainOptions) (n : ℕ) (c : Configuration O) (x : Next) → next l o c ≡ x → alone_from l o (suc n) c ≡ alone_next l o n c x
unfolding alone_from
alone_on l o n c (Ends v) h = rw (alone_from, h) refl
alone_on l o n c (Selects ch r) h = rw (alone_from, h) refl
alone_on l o n c Waits h = rw (alone_from, h) refl

-- these records begin those, and are all of them where they are complete
pub record Begins (records all : List Record) : Type 0 where
  pub later : List Record
  pub whole : records ++ later ≡ all
  pub none : is_complete records ≡ true → later ≡ []

begins_sel : {O S : Type 0} (l : Code O S) (o : PlainOptions) (n : ℕ) (c d : Configuration O) (e : PlainEvent) (rest : List Record) (x : Next) → next l o c ≡ x →
    option_and_then (story_from l o rest) (if_selected l c e x) ≡ Some d →
    ((ch : Choice) (r : List Touched) → x ≡ Selects ch r → story_from l o rest (move l c ch r) ≡ Some d → Begins rest (alone_from l o n (move l c ch r))) →
    Begins (Sel e ∷ rest) (alone_from l o (suc n) c)
begins_sel l o n c d e rest (Ends v) h k ih = absurd (cc)
begins_sel l o n c d e rest Waits h k ih = absurd (cc)
begins_sel l o n c d e rest (Selects ch r) h k ih =
    let p = and_then_if (same_event e ch.event) (story_from l o rest) (move l c ch r) d k in
    let b = ih ch r refl p.1 in
    record {
      later = b.later;
      whole =
          ap (λ (x : PlainEvent). Sel x ∷ (rest ++ b.later)) (same_event-sound e ch.event p.0) ∙ ap (λ (s : List Record). Sel ch.event ∷ s) b.whole
          ∙ sym (alone_on l o n c (Selects ch r) h);
      none = b.none;
    }

unique_end : {O S : Type 0} (l : Code O S) (o : PlainOptions) (n : ℕ) (c d : Configuration O) (v : Verdict) (x : Next) → next l o c ≡ x →
    option_and_then (story_from l o []) (if_ended c v x) ≡ Some d → End v ∷ [] ≡ alone_from l o (suc n) c
unique_end l o n c d v (Selects ch r) h k = absurd (cc)
unique_end l o n c d v Waits h k = absurd (cc)
unique_end l o n c d v (Ends w) h k =
    let p = and_then_if (same_verdict v w) (story_from l o []) (over_with c v) d k in
    ap (λ (x : Verdict). End x ∷ []) (verdict_path v w p.0) ∙ sym (alone_on l o n c (Ends w) h)

-- With no injectors, a list that is a story from c begins the one that is computed.
begins_from : {O S : Type 0} (l : Code O S) (o : PlainOptions) (n : ℕ) (rs : List Record) (c d : Configuration O) → c.reading ≡ [] → c.stand.transitions ≤ o.steps → o.steps < n + c.stand.transitions →
    story_from l o rs c ≡ Some d → Begins rs (alone_from l o n c)
unfolding story_from after_record
begins_from l o zero rs c d i t f h = absurd (omega arith)
begins_from l o (suc n) [] c d i t f h = record { later = alone_from l o (suc n) c; whole = refl; none = λ k. absurd (cc) }
begins_from l o (suc n) (In j e ∷ rest) c d i t f h =
    absurd (comes_not c j i (and_parts (may_come c j) (has_room c.stand) (and_then_if (may_come c j && has_room c.stand) (story_from l o rest) _ d h).0).0)
begins_from l o (suc n) (Bad j m ∷ rest) c d i t f h = absurd (comes_not c j i (and_then_if (may_come c j) (story_from l o rest) _ d h).0)
begins_from l o (suc n) (Eof j ∷ rest) c d i t f h = absurd (comes_not c j i (and_then_if (may_come c j) (story_from l o rest) _ d h).0)
begins_from l o (suc n) (End v ∷ []) c d i t f h = record { later = []; whole = unique_end l o n c d v (next l o c) refl h; none = λ k. refl }
begins_from l o (suc n) (End v ∷ r ∷ rest) c d i t f h = absurd (cc)
begins_from l o (suc n) (Sel e ∷ rest) c d i t f h =
    begins_sel l o n c d e rest (next l o c) refl h
    (λ ch r x s.
    let less = selects_steps l o c ch r x t in
    let more = move_transitions l c ch r in
    begins_from l o n rest (move l c ch r) d i (omega (arith, less, more)) (omega (arith, less, more)) s)

pub initial_transitions : {O S : Type 0} (l : Code O S) (n : ℕ) → (initial l n).stand.transitions ≡ 0
unfolding initial
initial_transitions l n = (grown_settle l opening).transitions

pub initial_reading : {O S : Type 0} (l : Code O S) → (initial l 0).reading ≡ []
unfolding initial
initial_reading l = refl

-- With no injectors every story begins `alone`.
pub begins_alone : {O S : Type 0} (l : Code O S) (o : PlainOptions) (rs : List Record) (d : Configuration O) → o.injectors ≡ 0 → story l o rs ≡ Some d → Begins rs (alone l o)
unfolding story alone
begins_alone l o rs d i h =
    let z = initial_transitions l o.injectors in
    begins_from l o (o.steps + 1) rs (initial l o.injectors) d (ap (λ (n : ℕ). (initial l n).reading) i ∙ initial_reading l) (omega (arith, z)) (omega (arith, z)) h

-- With no injectors there is at most one complete list, `alone`.
pub only_alone : {O S : Type 0} (l : Code O S) (o : PlainOptions) (rs : List Record) (d : Configuration O) → o.injectors ≡ 0 →
    story l o rs ≡ Some d → is_complete rs ≡ true → rs ≡ alone l o
only_alone l o rs d i h k =
    let b = begins_alone l o rs d i h in
    sym (append-nil rs) ∙ ap (λ (s : List Record). rs ++ s) (sym (b.none k)) ∙ b.whole

-- where nobody is read, nothing is waited for
pub nobody_waited : {O : Type 0} (o : PlainOptions) (c : Configuration O) → c.reading ≡ [] → waits_for_none o c ≡ true
nobody_waited o c i = ap (λ (r : List ℕ). (length r == 0) || not o.wait) i

-- where nothing is waited for, the run doesn't wait
idle_waits_not : {O : Type 0} (c : Configuration O) (b e : Bool) → e ≡ true → (if b then Ends verdict.Queue else if e then Ends (verdict.Quiet c.stand.transitions) else Waits) ≡ Waits → ⊥
idle_waits_not c true e k h = cc
idle_waits_not c false true k h = cc
idle_waits_not c false false k h = cc

idle_not_waits : {O : Type 0} (o : PlainOptions) (c : Configuration O) (b : Option (ℕ × ℕ)) → waits_for_none o c ≡ true → next_idle o c b ≡ Waits → ⊥
idle_not_waits o c (Some b) i h = cc
idle_not_waits o c None i h = idle_waits_not c (length c.stand.queue == MOST_WAITING) (waits_for_none o c) i h

weight_not_waits : (ch : Choice) (r : List Touched) (b : Bool) → (if b then Ends verdict.Weight else Selects ch r) ≡ Waits → ⊥
weight_not_waits ch r true h = cc
weight_not_waits ch r false h = cc

chosen_not_waits : {O : Type 0} (s : Stand O) (ch : Choice) (x : Asked (List Touched)) → next_chosen s ch x ≡ Waits → ⊥
chosen_not_waits s ch (Err f) h = cc
chosen_not_waits s ch (Ok r) h = weight_not_waits ch r (nat_lt MOST_WEIGHT (weight_after s ch.event r)) h

steps_not_waits : (n : ℕ) (b : Bool) (x : Next) → (x ≡ Waits → ⊥) → (if b then Ends (verdict.Steps n) else x) ≡ Waits → ⊥
steps_not_waits n true x k h = cc
steps_not_waits n false x k h = k h

choice_not_waits : {O S : Type 0} (l : Code O S) (o : PlainOptions) (c : Configuration O) (x : Asked (Option Choice)) → waits_for_none o c ≡ true → next_choice l o c x ≡ Waits → ⊥
choice_not_waits l o c (Err f) i h = cc
choice_not_waits l o c (Ok None) i h = idle_not_waits o c c.bad i h
choice_not_waits l o c (Ok (Some ch)) i h =
    let x = reach l.has ch.event (live l c.stand) in
    steps_not_waits o.steps (nat_eq c.stand.transitions o.steps) (next_chosen c.stand ch x) (chosen_not_waits c.stand ch x) h

unless_not_waits : {O S : Type 0} (l : Code O S) (o : PlainOptions) (c : Configuration O) (v : Option Verdict) → waits_for_none o c ≡ true → next_unless l o c v ≡ Waits → ⊥
unless_not_waits l o c (Some v) i h = cc
unless_not_waits l o c None i h = choice_not_waits l o c (choice l.has l.word o.strategy (live l c.stand) c.stand.queue c.drawn) i h

pub waits_not : {O S : Type 0} (l : Code O S) (o : PlainOptions) (c : Configuration O) → waits_for_none o c ≡ true → next l o c ≡ Waits → ⊥
unfolding next
waits_not l o c i h = unless_not_waits l o c c.stand.verdict i h

-- a list is complete and leads to some configuration
abbrev pub Completes : {O S : Type 0} → Code O S → PlainOptions → List Record → Configuration O → Type 0
Completes {O} l o rs c = (d : Configuration O) × (story_from l o rs c ≡ Some d) × (is_complete rs ≡ true)

pub story_sel : {O S : Type 0} (l : Code O S) (o : PlainOptions) (c : Configuration O) (ch : Choice) (r : List Touched) (rs : List Record) → next l o c ≡ Selects ch r → story_from l o (Sel ch.event ∷ rs) c ≡ story_from l o rs (move l c ch r)
unfolding story_from after_record
story_sel l o c ch r rs h = rw (h, same_event-self ch.event) refl

pub story_end : {O S : Type 0} (l : Code O S) (o : PlainOptions) (c : Configuration O) (v : Verdict) → next l o c ≡ Ends v → story_from l o (End v ∷ []) c ≡ Some (over_with c v)
unfolding story_from after_record
story_end l o c v h = rw (h, verdict_refl v) refl

completes_on : {O S : Type 0} (l : Code O S) (o : PlainOptions) (n : ℕ) (c : Configuration O) (x : Next) → next l o c ≡ x → c.reading ≡ [] →
    ((ch : Choice) (r : List Touched) → x ≡ Selects ch r → Completes l o (alone_from l o n (move l c ch r)) (move l c ch r)) →
    Completes l o (alone_next l o n c x) c
completes_on l o n c (Ends v) h i ih = (over_with c v, story_end l o c v h, refl)
completes_on l o n c Waits h i ih = absurd (waits_not l o c (nobody_waited o c i) h)
completes_on l o n c (Selects ch r) h i ih =
    let q = ih ch r refl in
    (q.0, story_sel l o c ch r (alone_from l o n (move l c ch r)) h ∙ q.1, q.2)

pub alone_completes : {O S : Type 0} (l : Code O S) (o : PlainOptions) (n : ℕ) (c : Configuration O) → c.reading ≡ [] → c.stand.transitions ≤ o.steps → o.steps < n + c.stand.transitions → Completes l o (alone_from l o n c) c
alone_completes l o zero c i t f = absurd (omega arith)
alone_completes l o (suc n) c i t f =
    rw (alone_on l o n c (next l o c) refl)
    (completes_on l o n c (next l o c) refl i
    (λ ch r x.
    let less = selects_steps l o c ch r x t in
    let more = move_transitions l c ch r in
    alone_completes l o n (move l c ch r) i (omega (arith, less, more)) (omega (arith, less, more))))

-- With no injectors, `alone` is a complete list and a story.
pub alone_is : {O S : Type 0} (l : Code O S) (o : PlainOptions) → o.injectors ≡ 0 → (d : Configuration O) × (story l o (alone l o) ≡ Some d) × (is_complete (alone l o) ≡ true)
unfolding story alone
alone_is l o i =
    let z = initial_transitions l o.injectors in
    alone_completes l o (o.steps + 1) (initial l o.injectors) (ap (λ (n : ℕ). (initial l n).reading) i ∙ initial_reading l) (omega (arith, z)) (omega (arith, z))

-- each record adds lines
abbrev Longer : {O : Type 0} → Configuration O → Configuration O → Type 0
Longer c d = (more : List Line) × (d.stand.lines ≡ c.stand.lines ++ more)

record_grown : {O : Type 0} (b : Bool) (c e m : Configuration O) → (if b then Some e else None) ≡ Some m → Longer c e → Longer c m
record_grown true c e m h g = let f : e ≡ m = cc in (g.0, ap (λ (x : Configuration _). x.stand.lines) (sym f) ∙ g.1)
record_grown false c e m h g = absurd (cc)

same_lines : {O : Type 0} (c : Configuration O) → Longer c c
same_lines c = ([], sym (append-nil c.stand.lines))

pub move_lines : {O S : Type 0} (l : Code O S) (c : Configuration O) (ch : Choice) (r : List Touched) → (more : List Line) × ((move l c ch r).stand.lines ≡ c.stand.lines ++ more)
unfolding step
move_lines l c ch r =
    let g = grown_settle l (stepped l c.stand ch.event ch.place r) in
    (line_of_choice ch.event ch.place ∷ g.more, g.lines ∙ append_assoc c.stand.lines (line_of_choice ch.event ch.place ∷ []) g.more)

sel_lines : {O S : Type 0} (l : Code O S) (c m : Configuration O) (e : PlainEvent) (x : Next) → if_selected l c e x ≡ Some m → Longer c m
sel_lines l c m e (Ends v) h = absurd (cc)
sel_lines l c m e Waits h = absurd (cc)
sel_lines l c m e (Selects ch r) h = record_grown (same_event e ch.event) c (move l c ch r) m h (move_lines l c ch r)

end_lines : {O : Type 0} (c m : Configuration O) (v : Verdict) (x : Next) → if_ended c v x ≡ Some m → Longer c m
end_lines c m v (Selects ch r) h = absurd (cc)
end_lines c m v Waits h = absurd (cc)
end_lines c m v (Ends w) h = record_grown (same_verdict v w) c (over_with c v) m h (trace.Verdict v ∷ [], refl)

after_lines : {O S : Type 0} (l : Code O S) (o : PlainOptions) (c m : Configuration O) (r : Record) → after_record l o c r ≡ Some m → Longer c m
unfolding after_record
after_lines l o c m (In j e) h = record_grown (may_come c j && has_room c.stand) c (record c { stand = queued e c.stand }) m h (same_lines c)
after_lines l o c m (Bad j n) h = record_grown (may_come c j) c _ m h (same_lines c)
after_lines l o c m (Eof j) h = record_grown (may_come c j) c _ m h (same_lines c)
after_lines l o c m (Sel e) h = sel_lines l c m e (next l o c) h
after_lines l o c m (End v) h = end_lines c m v (next l o c) h

-- a story begins with its first record
pub story_first : {O S : Type 0} (l : Code O S) (o : PlainOptions) (r : Record) (rs : List Record) (c d : Configuration O) → story_from l o (r ∷ rs) c ≡ Some d →
    (m : Configuration O) × (after_record l o c r ≡ Some m) × (story_from l o rs m ≡ Some d)
unfolding story_from
story_first l o (In j e) rs c d h = chained (story_from l o rs) (after_record l o c (In j e)) d h
story_first l o (Bad j n) rs c d h = chained (story_from l o rs) (after_record l o c (Bad j n)) d h
story_first l o (Eof j) rs c d h = chained (story_from l o rs) (after_record l o c (Eof j)) d h
story_first l o (Sel e) rs c d h = chained (story_from l o rs) (after_record l o c (Sel e)) d h
story_first l o (End v) [] c d h = chained (story_from l o []) (after_record l o c (End v)) d h
story_first l o (End v) (r ∷ rs) c d h = absurd (cc)

-- the lines after a story begin with those before it
story_longer : {O S : Type 0} (l : Code O S) (o : PlainOptions) (rs : List Record) (c d : Configuration O) → story_from l o rs c ≡ Some d → Longer c d
unfolding story_from
story_longer l o [] c d h = let e : c ≡ d = cc in ([], ap (λ (x : Configuration _). x.stand.lines) (sym e) ∙ sym (append-nil c.stand.lines))
story_longer l o (r ∷ rs) c d h =
    let b = story_first l o r rs c d h in
    let s = story_longer l o rs b.0 d b.2 in
    let g = after_lines l o c b.0 r b.1 in
    (g.0 ++ s.0, s.1 ∙ ap (λ (x : List Line). x ++ s.0) g.1 ∙ append_assoc c.stand.lines g.0 s.0)

-- the lines after more records begin with those after fewer
abbrev Front : {O S : Type 0} → Code O S → PlainOptions → List Record → Configuration O → Configuration O → Type 0
Front {O} l o rs c d = (m : Configuration O) × (story_from l o rs c ≡ Some m) × Longer m d

front_on : {O S : Type 0} (l : Code O S) (o : PlainOptions) (rs : List Record) (c b d : Configuration O) (x : Option (Configuration O)) → x ≡ Some b → Front l o rs b d →
    (m : Configuration O) × (option_and_then (story_from l o rs) x ≡ Some m) × Longer m d
front_on l o rs c b d x h s = (s.0, ap (λ (y : Option (Configuration _)). option_and_then (story_from l o rs) y) h ∙ s.1, s.2)

pub story_prefix : {O S : Type 0} (l : Code O S) (o : PlainOptions) (rs qs : List Record) (c d : Configuration O) → story_from l o (rs ++ qs) c ≡ Some d → Front l o rs c d
unfolding story_from
story_prefix l o [] qs c d h = (c, refl, story_longer l o qs c d h)
story_prefix l o (In j e ∷ rs) qs c d h = let b = story_first l o (In j e) (rs ++ qs) c d h in front_on l o rs c b.0 d (after_record l o c (In j e)) b.1 (story_prefix l o rs qs b.0 d b.2)
story_prefix l o (Bad j n ∷ rs) qs c d h = let b = story_first l o (Bad j n) (rs ++ qs) c d h in front_on l o rs c b.0 d (after_record l o c (Bad j n)) b.1 (story_prefix l o rs qs b.0 d b.2)
story_prefix l o (Eof j ∷ rs) qs c d h = let b = story_first l o (Eof j) (rs ++ qs) c d h in front_on l o rs c b.0 d (after_record l o c (Eof j)) b.1 (story_prefix l o rs qs b.0 d b.2)
story_prefix l o (Sel e ∷ rs) qs c d h = let b = story_first l o (Sel e) (rs ++ qs) c d h in front_on l o rs c b.0 d (after_record l o c (Sel e)) b.1 (story_prefix l o rs qs b.0 d b.2)
story_prefix l o (End v ∷ []) [] c d h = (d, h, same_lines d)
story_prefix l o (End v ∷ []) (q ∷ qs) c d h = absurd (cc)
story_prefix l o (End v ∷ r ∷ rs) qs c d h = absurd (cc)

follows_not : {O S : Type 0} (l : Code O S) (o : PlainOptions) (rs : List Record) (x : Option (Configuration O)) →
    ((c : Configuration O) → story_from l o rs c ≡ None) → option_and_then (story_from l o rs) x ≡ None
follows_not l o rs None h = refl
follows_not l o rs (Some c) h = h c

-- nothing follows the record of the end
pub nothing_after : {O S : Type 0} (l : Code O S) (o : PlainOptions) (rs qs : List Record) (v : Verdict) (r : Record) (c : Configuration O) →
    story_from l o (rs ++ End v ∷ r ∷ qs) c ≡ None
unfolding story_from
nothing_after l o [] qs v r c = refl
nothing_after l o (In j e ∷ rs) qs v r c = follows_not l o _ (after_record l o c (In j e)) (nothing_after l o rs qs v r)
nothing_after l o (Bad j n ∷ rs) qs v r c = follows_not l o _ (after_record l o c (Bad j n)) (nothing_after l o rs qs v r)
nothing_after l o (Eof j ∷ rs) qs v r c = follows_not l o _ (after_record l o c (Eof j)) (nothing_after l o rs qs v r)
nothing_after l o (Sel e ∷ rs) qs v r c = follows_not l o _ (after_record l o c (Sel e)) (nothing_after l o rs qs v r)
nothing_after l o (End w ∷ []) qs v r c = refl
nothing_after l o (End w ∷ s ∷ rs) qs v r c = refl

pub nothing_follows : {O S : Type 0} (l : Code O S) (o : PlainOptions) (rs qs : List Record) (v : Verdict) (r : Record) → story l o (rs ++ End v ∷ r ∷ qs) ≡ None
unfolding story
nothing_follows l o rs qs v r = nothing_after l o rs qs v r (initial l o.injectors)

-- the text of fewer records is a prefix of that of more
prefix_of : {O S : Type 0} (l : Code O S) (o : PlainOptions) (rs : List Record) (c m : Configuration O) (t : List ℕ) (more : List Line) →
    story l o rs ≡ Some m → c.stand.lines ≡ m.stand.lines ++ more → lines_text c.stand.lines ≡ t → (front : List ℕ) × (rest : List ℕ) × (text l o rs ≡ Some front) × (t ≡ front ++ rest)
unfolding text lines_text
prefix_of l o rs c m t more h k e = (
  lines_text m.stand.lines,
  lines_text more,
  ap (λ (x : Option (Configuration _)). option_map (λ y. lines_text y.stand.lines) x) h,
  sym e ∙ ap (λ (x : List Line). lines_text x) k ∙ flat_map-append whole_line m.stand.lines more,
)

pub text_prefix : {O S : Type 0} (l : Code O S) (o : PlainOptions) (rs qs : List Record) (t : List ℕ) → text l o (rs ++ qs) ≡ Some t →
    (front : List ℕ) × (rest : List ℕ) × (text l o rs ≡ Some front) × (t ≡ front ++ rest)
unfolding text story
text_prefix l o rs qs t h =
    let p = mapped (λ c. lines_text c.stand.lines) (story l o (rs ++ qs)) t h in
    let s = story_prefix l o rs qs (initial l o.injectors) p.0 p.1 in
    prefix_of l o rs p.0 s.0 t s.2.0 s.1 s.2.1 p.2

on_at : {O S : Type 0} (l : Code O S) (o : PlainOptions) (rs qs : List Record) (x : Option (Configuration O)) (m : Configuration O) → option_and_then (story_from l o rs) x ≡ Some m →
    ((c : Configuration O) → story_from l o rs c ≡ Some m → story_from l o (rs ++ qs) c ≡ story_from l o qs m) → option_and_then (story_from l o (rs ++ qs)) x ≡ story_from l o qs m
on_at l o rs qs None m h k = absurd (cc)
on_at l o rs qs (Some c) m h k = k c h

-- a story that is not complete goes on
pub story_on : {O S : Type 0} (l : Code O S) (o : PlainOptions) (rs qs : List Record) (c m : Configuration O) → story_from l o rs c ≡ Some m → is_complete rs ≡ false →
    story_from l o (rs ++ qs) c ≡ story_from l o qs m
unfolding story_from
story_on l o [] qs c m h k = let e : c ≡ m = cc in ap (λ (x : Configuration _). story_from l o qs x) e
story_on l o (In j e ∷ rs) qs c m h k = on_at l o rs qs (after_record l o c (In j e)) m h (λ d g. story_on l o rs qs d m g k)
story_on l o (Bad j n ∷ rs) qs c m h k = on_at l o rs qs (after_record l o c (Bad j n)) m h (λ d g. story_on l o rs qs d m g k)
story_on l o (Eof j ∷ rs) qs c m h k = on_at l o rs qs (after_record l o c (Eof j)) m h (λ d g. story_on l o rs qs d m g k)
story_on l o (Sel e ∷ rs) qs c m h k = on_at l o rs qs (after_record l o c (Sel e)) m h (λ d g. story_on l o rs qs d m g k)
story_on l o (End v ∷ []) qs c m h k = absurd (cc)
story_on l o (End v ∷ r ∷ rs) qs c m h k = absurd (cc)

-- what comes next doesn't depend on the lines so far
pub next_lineless : {O S : Type 0} (l : Code O S) (o : PlainOptions) (c : Configuration O) (ls : List Line) → next l o (record c { stand = record c.stand { lines = ls } }) ≡ next l o c
unfolding next choice selectable reach
next_lineless l o c ls = refl

goes_at : {O S : Type 0} (l : Code O S) (o : PlainOptions) (c : Configuration O) (x : Next) → next l o c ≡ x → story_from l o (option_to_list (record_of x)) c ≡ Some (after_next l c x)
unfolding story_from
goes_at l o c (Ends v) h = story_end l o c v h
goes_at l o c (Selects ch r) h = story_sel l o c ch r [] h
goes_at l o c Waits h = refl

-- the record of what comes next goes on with the story
pub goes_on : {O S : Type 0} (l : Code O S) (o : PlainOptions) (rs : List Record) (c : Configuration O) → story l o rs ≡ Some c → is_complete rs ≡ false →
    story l o (rs ++ option_to_list (record_of (next l o c))) ≡ Some (after_next l c (next l o c))
unfolding story
goes_on l o rs c h k =
    story_on l o rs (option_to_list (record_of (next l o c))) (initial l o.injectors) c h k ∙ goes_at l o c (next l o c) refl
