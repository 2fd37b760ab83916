-- What a selection rests on: what can be selected, which of it is chosen, and whom that reaches.
use Rattle.std.proofs.Common.{◌≡◌, ◌∙◌, ℕ, Bool, true, false, not, ◌&&◌, ◌||◌, List, [], ◌∷◌, map, filter, refl, ap, sym, Option, Some, None, Ok, Err}
use Rattle.std.specs.Prelude.{Result, nat_lt, ◌==◌, if◌then◌else◌}
use Rattle.std.specs.List.{filter_map, cons_option}
use Rattle.js_data.specs.Event.{PlainEvent}
use Rattle.bp_log.specs.Options.{PlainOptions}
use Rattle.bp_log.specs.declared.limits.TheConstants.{MOST_WEIGHT}
use Rattle.bp_log.specs.declared.verdict.Verdict.{Verdict}
use Rattle.bp_log.specs.declared.verdict.Verdict.TheVariants as verdict
use Rattle.bp_run.specs.Bodies.{Code, SetFault}
use Rattle.bp_run.specs.Configuration.{Configuration}
use Rattle.bp_run.specs.Selecting.{Has, Live, Asked, Enabled, live, by_number, both, without_fault, selectable, requests}
use Rattle.bp_run.specs.Choosing.{Choice, Touched, choice, chosen, touched, moves_if, reach}
use Rattle.bp_run.specs.Choosing.Touched.{Moves, Interrupts}
use Rattle.bp_run.specs.Story.{next, next_unless, next_choice, next_chosen, next_idle, waits_for_none, weight_after}
use Rattle.bp_run.specs.Story.Next.{Ends, Selects, Waits}
use Rattle.bp_select.specs.Answers.{move_of, interrupt_of}
use Rattle.bp_explain.specs.Blocking.{says_yes}
use Rattle.bp_explain.specs.Reaching.{interrupts, moves}

-- ---- what comes next is a selection

pub record Rests {O Set : Type 0} (l : Code O Set) (o : PlainOptions) (c : Configuration O) (ch : Choice) (reached : List Touched) : Type 0 where
  pub going : c.stand.verdict ≡ None
  pub chosen_is : choice l.has l.word o.strategy (live l c.stand) c.stand.queue c.drawn ≡ Ok (Some ch)
  pub reach_is : reach l.has ch.event (live l c.stand) ≡ Ok reached

module _ {O Set : Type 0} (l : Code O Set) (o : PlainOptions) (c : Configuration O) (ch : Choice) (reached : List Touched) where
  by_weight : (b : Bool) (d : Choice) (r : List Touched) → (if b then Ends verdict.Weight else Selects d r) ≡ Selects ch reached → (d ≡ ch) × (r ≡ reached)
  by_weight true d r h = absurd (cc)
  by_weight false d r h = (cc, cc)

  by_reach : (d : Choice) (r : Asked (List Touched)) → next_chosen c.stand d r ≡ Selects ch reached → (d ≡ ch) × (r ≡ Ok reached)
  by_reach d (Err x) h = absurd (cc)
  by_reach d (Ok r) h = let w = by_weight (nat_lt MOST_WEIGHT (weight_after c.stand d.event r)) d r h in (w.0, ap (λ (x : List Touched). Ok x) w.1)

  by_steps : (b : Bool) (d : Choice) → (if b then Ends (verdict.Steps o.steps) else next_chosen c.stand d (reach l.has d.event (live l c.stand))) ≡ Selects ch reached → (d ≡ ch) × (reach l.has d.event (live l c.stand) ≡ Ok reached)
  by_steps true d h = absurd (cc)
  by_steps false d h = by_reach d (reach l.has d.event (live l c.stand)) h

  by_waits : (b : Bool) → (if b then Ends (verdict.Quiet c.stand.transitions) else Waits) ≡ Selects ch reached → ⊥
  by_waits true h = cc
  by_waits false h = cc

  by_queue : (b : Bool) → (if b then Ends verdict.Queue else (if waits_for_none o c then Ends (verdict.Quiet c.stand.transitions) else Waits)) ≡ Selects ch reached → ⊥
  by_queue true h = cc
  by_queue false h = by_waits (waits_for_none o c) h

  by_idle : (bad : Option (ℕ × ℕ)) → next_idle o c bad ≡ Selects ch reached → ⊥
  by_idle (Some b) h = cc
  by_idle None h = by_queue _ h

  by_choice : (x : Asked (Option Choice)) → next_choice l o c x ≡ Selects ch reached → (x ≡ Ok (Some ch)) × (reach l.has ch.event (live l c.stand) ≡ Ok reached)
  by_choice (Err x) h = absurd (cc)
  by_choice (Ok None) h = absurd (by_idle c.bad h)
  by_choice (Ok (Some d)) h =
      let w = by_steps (c.stand.transitions == o.steps) d h in (
        ap (λ (x : Choice). Ok (Some x)) w.0,
        ap (λ (x : Choice). reach l.has x.event (live l c.stand)) (sym w.0) ∙ w.1,
      )

  by_verdict : (v : Option Verdict) → v ≡ c.stand.verdict → next_unless l o c v ≡ Selects ch reached → Rests l o c ch reached
  by_verdict (Some v) e h = absurd (cc)
  by_verdict None e h =
      let w = by_choice (choice l.has l.word o.strategy (live l c.stand) c.stand.queue c.drawn) h in record { going = sym e; chosen_is = w.0; reach_is = w.1 }

  pub rests_on : next l o c ≡ Selects ch reached → Rests l o c ch reached
  unfolding next
  rests_on h = by_verdict c.stand.verdict refl h

-- ---- the choice

-- of what can be selected
chosen_of : (f : Enabled → Option Choice) (asked : Asked Enabled) (x : Enabled) (ch : Choice) → asked ≡ Ok x → without_fault f asked ≡ Ok (Some ch) → f x ≡ Some ch
chosen_of f (Err e) x ch h k = absurd (cc)
chosen_of f (Ok y) x ch h k = let e : y ≡ x = cc in let m : f y ≡ Some ch = cc in ap f (sym e) ∙ m

pub chosen_there : {Set : Type 0} (has : Has Set) (word : ℕ → ℕ) (o : PlainOptions) (ts : List (Live Set)) (queue : List PlainEvent) (drawn : ℕ) (x : Enabled) (ch : Choice) → selectable has ts queue ≡ Ok x → choice has word o.strategy ts queue drawn ≡ Ok (Some ch) →
    chosen word o.strategy ts queue drawn x.inner x.outer ≡ Some ch
unfolding choice
chosen_there has word o ts queue drawn x ch h k = chosen_of (λ x. chosen word o.strategy ts queue drawn x.inner x.outer) (selectable has ts queue) x ch h k

-- it was asked without a fault
pub enabled_there : {Set : Type 0} (has : Has Set) (word : ℕ → ℕ) (o : PlainOptions) (ts : List (Live Set)) (queue : List PlainEvent) (drawn : ℕ) (ch : Choice) → choice has word o.strategy ts queue drawn ≡ Ok (Some ch) → (x : Enabled) × (selectable has ts queue ≡ Ok x)
unfolding choice
enabled_there has word o ts queue drawn ch h = enabled_of (λ x. chosen word o.strategy ts queue drawn x.inner x.outer) (selectable has ts queue) h
  where
    enabled_of : (f : Enabled → Option Choice) (asked : Asked Enabled) → without_fault f asked ≡ Ok (Some ch) → (x : Enabled) × (asked ≡ Ok x)
    enabled_of f (Err e) k = absurd (cc)
    enabled_of f (Ok x) k = (x, refl)

-- ---- whom it reaches

-- what happens to one, by what its sets say
abbrev touched_by : ℕ → Result Bool SetFault → Bool → Result Bool SetFault → Asked (Option Touched)
touched_by n i r w =
    elim (by_number n i) [
      | Err x ↦ Err x
      | Ok b ↦ elim b [
        | true ↦ Ok (Some (Interrupts n))
        | false ↦ elim r [
          | true ↦ Ok (Some (Moves n))
          | false ↦ without_fault (moves_if n) (by_number n w)
        ]
      ]
    ]

abbrev if_so : ℕ → Bool → List ℕ → List ℕ
if_so n b ns = if b then n ∷ ns else ns

moved_by : (n : ℕ) (i : Result Bool SetFault) (r : Bool) (w : Result Bool SetFault) (o : Option Touched) (rest : List Touched) → touched_by n i r w ≡ Ok o →
    filter_map move_of (cons_option o rest) ≡ if_so n (not (says_yes i) && (r || says_yes w)) (filter_map move_of rest)
moved_by n (Err f) r w o rest h = absurd (cc)
moved_by n (Ok true) r w o rest h = let e : Some (Interrupts n) ≡ o = cc in ap (λ (x : Option Touched). filter_map move_of (cons_option x rest)) (sym e)
moved_by n (Ok false) true w o rest h = let e : Some (Moves n) ≡ o = cc in ap (λ (x : Option Touched). filter_map move_of (cons_option x rest)) (sym e)
moved_by n (Ok false) false (Err f) o rest h = absurd (cc)
moved_by n (Ok false) false (Ok true) o rest h = let e : Some (Moves n) ≡ o = cc in ap (λ (x : Option Touched). filter_map move_of (cons_option x rest)) (sym e)
moved_by n (Ok false) false (Ok false) o rest h = let e : None ≡ o = cc in ap (λ (x : Option Touched). filter_map move_of (cons_option x rest)) (sym e)

interrupted_by : (n : ℕ) (i : Result Bool SetFault) (r : Bool) (w : Result Bool SetFault) (o : Option Touched) (rest : List Touched) → touched_by n i r w ≡ Ok o →
    filter_map interrupt_of (cons_option o rest) ≡ if_so n (says_yes i) (filter_map interrupt_of rest)
interrupted_by n (Err f) r w o rest h = absurd (cc)
interrupted_by n (Ok true) r w o rest h = let e : Some (Interrupts n) ≡ o = cc in ap (λ (x : Option Touched). filter_map interrupt_of (cons_option x rest)) (sym e)
interrupted_by n (Ok false) true w o rest h = let e : Some (Moves n) ≡ o = cc in ap (λ (x : Option Touched). filter_map interrupt_of (cons_option x rest)) (sym e)
interrupted_by n (Ok false) false (Err f) o rest h = absurd (cc)
interrupted_by n (Ok false) false (Ok true) o rest h = let e : Some (Moves n) ≡ o = cc in ap (λ (x : Option Touched). filter_map interrupt_of (cons_option x rest)) (sym e)
interrupted_by n (Ok false) false (Ok false) o rest h = let e : None ≡ o = cc in ap (λ (x : Option Touched). filter_map interrupt_of (cons_option x rest)) (sym e)

-- both of two that were asked
record AreBoth (a : Asked (Option Touched)) (b : Asked (List Touched)) (reached : List Touched) : Type 0 where
  first : Option Touched
  later : List Touched
  first_is : a ≡ Ok first
  later_is : b ≡ Ok later
  reached_is : reached ≡ cons_option first later

are_both : (a : Asked (Option Touched)) (b : Asked (List Touched)) (reached : List Touched) → both cons_option a b ≡ Ok reached → AreBoth a b reached
are_both (Err x) b reached h = absurd (cc)
are_both (Ok o) (Err x) reached h = absurd (cc)
are_both (Ok o) (Ok xs) reached h = record { first = o; later = xs; first_is = refl; later_is = refl; reached_is = let e : cons_option o xs ≡ reached = cc in sym e }

numbered : {Set : Type 0} (p : Live Set → Bool) (t : Live Set) (ts : List (Live Set)) (b : Bool) → p t ≡ b → if_so t.number b (map (λ u. u.number) (filter p ts)) ≡ map (λ u. u.number) (filter p (t ∷ ts))
numbered p t ts true h = rw h refl
numbered p t ts false h = rw h refl

-- those that are picked out of what is reached, by number, where this is so of each b-thread
reached_are : {Set : Type 0} (has : Has Set) (e : PlainEvent) (pick : Touched → Option ℕ) (p : Live Set → Bool) →
    ((t : Live Set) (o : Option Touched) (rest : List Touched) → touched has e t ≡ Ok o → filter_map pick (cons_option o rest) ≡ if_so t.number (p t) (filter_map pick rest)) →
    (ts : List (Live Set)) (reached : List Touched) → reach has e ts ≡ Ok reached → filter_map pick reached ≡ map (λ t. t.number) (filter p ts)
unfolding reach
reached_are has e pick p one [] reached h = let k : [] ≡ reached = cc in ap (filter_map pick) (sym k)
reached_are has e pick p one (t ∷ ts) reached h =
    let w = are_both (touched has e t) (reach has e ts) reached h in
    ap (filter_map pick) w.reached_is
    ∙ one t w.first w.later w.first_is
    ∙ ap (if_so t.number (p t)) (reached_are has e pick p one ts w.later w.later_is)
    ∙ numbered p t ts (p t) refl

pub moved_are : {Set : Type 0} (has : Has Set) (e : PlainEvent) (ts : List (Live Set)) (reached : List Touched) → reach has e ts ≡ Ok reached → filter_map move_of reached ≡ map (λ t. t.number) (filter (moves has e) ts)
moved_are has e ts reached h =
    reached_are has e move_of (moves has e)
    (λ t o rest k. moved_by t.number (has t.statement.interrupt e) (requests e t) (has t.statement.wait_for e) o rest k) ts reached h

pub interrupted_are : {Set : Type 0} (has : Has Set) (e : PlainEvent) (ts : List (Live Set)) (reached : List Touched) → reach has e ts ≡ Ok reached → filter_map interrupt_of reached ≡ map (λ t. t.number) (filter (interrupts has e) ts)
interrupted_are has e ts reached h =
    reached_are has e interrupt_of (interrupts has e)
    (λ t o rest k. interrupted_by t.number (has t.statement.interrupt e) (requests e t) (has t.statement.wait_for e) o rest k) ts reached h
