-- What comes next in a run, once the choice is known.
use Rattle.std.proofs.Common.{◌≡◌, ◌≤◌, ◌<◌, ℕ, Bool, true, false, List, [], ◌∷◌, ◌++◌, length, refl, sym, ap, ◌∙◌, subst, Option, Some, None, Ok, Err, if◌then◌else◌, ◌==◌, slice_get, option_map, arith, nat_lt}
use Rattle.js_data.specs.Event.{PlainEvent}
use Rattle.js_program.specs.PlainProgram.{PlainProgram}
use Rattle.js_meaning.specs.Bodies.{Origin, the_top}
use Rattle.bp_log.specs.Options.{PlainOptions}
use Rattle.bp_log.specs.declared.limits.TheConstants.{MOST_WEIGHT}
use Rattle.bp_log.specs.declared.record.Record.{Record}
use Rattle.bp_log.specs.declared.record.Record.TheVariants.{Sel, End}
use Rattle.bp_log.specs.declared.verdict.Verdict.{Verdict}
use Rattle.bp_log.specs.declared.verdict.Verdict.TheVariants as verdict
use Rattle.bp_draw.specs.Words.{draw_word}
use Rattle.bp_run.specs.Bodies as bodies
use Rattle.bp_run.specs.Bodies.{SetFault}
use Rattle.bp_run.specs.Configuration.{Stand}
use Rattle.bp_run.specs.Selecting.{live, Asked}
use Rattle.bp_run.specs.Choosing.{Choice, choice, Touched, reach}
use Rattle.bp_run.specs.Story.{Next, next, next_unless, next_choice, next_chosen, next_idle, fault_verdict, weight_after, stepped}
use Rattle.bp_run.specs.Story.Next.{Ends, Selects, Waits}
use Rattle.bp_sets.specs.declared.fault.SetFault as set_fault
use Rattle.bp_sets.specs.declared.fault.SetFault.TheVariants as fault_kind
use Rattle.bp_select.specs.declared.answers.SelectFault.TheVariants.{Set}
use Rattle.bp_select.specs.Answers.{FaultAs}
use Rattle.bp_code.specs.Code.{sealed_code_of as code_of}
use Rattle.bp_floor.specs.Forgetting.{forgotten}
use Rattle.bp_floor.specs.Floors.{PlainFloor, CanGo, code_on}
use Rattle.bp_arbiter.specs.declared.run.Run.{Run}
use Rattle.bp_arbiter.specs.Runs.{configuration_of, next_in, next_chosen_in, next_idle_in, HasCome, IsEnded, IsMoved, ended_floor}
use Rattle.bp_arbiter.proofs.Choices.{can_go, fault_below}

-- the words are those of the options' seed
word_is : (program : PlainProgram) (o : PlainOptions) → (code_of program o).word ≡ draw_word o.seed
unfolding code_of
word_is program o = refl

-- the choice of a run
abbrev pub choice_in : Run → Asked (Option Choice)
choice_in r = choice (code_on r.floor).has (draw_word r.draw.seed) r.floor.options.strategy (live (code_on r.floor) r.floor.pair.stand) r.floor.pair.stand.queue r.draw.drawn

-- what comes next is what the choice leads to
next_at : (r : Run) (v : Option Verdict) → v ≡ None → r.draw.seed ≡ r.floor.options.seed → next_unless (code_on r.floor) r.floor.options (configuration_of r) v ≡ next_choice (code_on r.floor) r.floor.options (configuration_of r) (choice_in r)
next_at r None h e =
    ap (λ (word : ℕ → ℕ). next_choice (code_on r.floor) r.floor.options (configuration_of r)
    (choice (code_on r.floor).has word r.floor.options.strategy (live (code_on r.floor) r.floor.pair.stand) r.floor.pair.stand.queue r.draw.drawn))
    (word_is r.floor.base.program r.floor.options ∙ ap draw_word (sym e))
next_at r (Some v) h e = absurd (cc)

next_of_choice : (r : Run) (x : Asked (Option Choice)) → r.floor.pair.stand.verdict ≡ None → r.draw.seed ≡ r.floor.options.seed → choice_in r ≡ x → next_in r ≡ next_choice (code_on r.floor) r.floor.options (configuration_of r) x
unfolding next
next_of_choice r x h e k = next_at r r.floor.pair.stand.verdict h e ∙ ap (λ (y : Asked (Option Choice)). next_choice (code_on r.floor) r.floor.options (configuration_of r) y) k

-- an event that was chosen, on this floor
chosen_on : PlainFloor → PlainEvent → Option ℕ → ℕ → Next
chosen_on f e place d =
    if f.pair.stand.transitions == f.options.steps then Ends (verdict.Steps f.options.steps)
    else next_chosen f.pair.stand (record { event = e; place = place; drawn = d }) (reach (code_on f).has e (live (code_on f) f.pair.stand))

-- the run after choosing, on the same floor
pub record IsChoosing (r s : Run) : Type 0 where
  pub floor : s.floor ≡ r.floor
  pub records : s.records.items ≡ r.records.items
  pub drawn : r.draw.drawn ≤ s.draw.drawn

chosen_same : (r s : Run) (e : PlainEvent) (place : Option ℕ) → s.floor ≡ r.floor →
    next_choice (code_on r.floor) r.floor.options (configuration_of r) (Ok (Some (record { event = e; place = place; drawn = s.draw.drawn }))) ≡ next_chosen_in s e place
unfolding chosen_on
chosen_same r s e place h = ap (λ (f : PlainFloor). chosen_on f e place s.draw.drawn) (sym h)

-- an event was chosen
pub next_chosen_is : (r s : Run) (e : PlainEvent) (place : Option ℕ) → r.floor.pair.stand.verdict ≡ None → r.draw.seed ≡ r.floor.options.seed → s.floor ≡ r.floor →
    choice_in r ≡ Ok (Some (record { event = e; place = place; drawn = s.draw.drawn })) → next_in r ≡ next_chosen_in s e place
next_chosen_is r s e place h k f c = next_of_choice r (Ok (Some (record { event = e; place = place; drawn = s.draw.drawn }))) h k c ∙ chosen_same r s e place f

idle_on : PlainFloor → List ℕ → Option (ℕ × ℕ) → Next
idle_on f reading bad = next_idle f.options (record { stand = f.pair.stand; drawn = 0; reading = reading; bad = bad }) bad

idle_same : (r : Run) (b : Option (ℕ × ℕ)) → next_idle r.floor.options (configuration_of r) b ≡ idle_on r.floor r.reading b
unfolding idle_on
idle_same r None = refl
idle_same r (Some b) = refl

-- nothing was chosen
pub next_idle_is : (r s : Run) → r.floor.pair.stand.verdict ≡ None → r.draw.seed ≡ r.floor.options.seed → s.floor ≡ r.floor → s.reading ≡ r.reading → s.bad ≡ r.bad →
    choice_in r ≡ Ok None → next_in r ≡ next_idle_in s
next_idle_is r s h k f i b c =
    next_of_choice r (Ok None) h k c ∙ idle_same r r.bad
    ∙ ap (λ (x : PlainFloor). idle_on x r.reading r.bad) (sym f) ∙ ap (λ (x : List ℕ). idle_on s.floor x r.bad) (sym i) ∙ ap (λ (x : Option (ℕ × ℕ)). idle_on s.floor s.reading x) (sym b)
    ∙ sym (idle_same s s.bad)

-- a set is at fault
pub next_fault_is : (r : Run) (x : ℕ × SetFault) (v : Verdict) → r.floor.pair.stand.verdict ≡ None → r.draw.seed ≡ r.floor.options.seed → choice_in r ≡ Err x → v ≡ fault_verdict r.floor.pair.stand x → next_in r ≡ Ends v
next_fault_is r x v h k c e = next_of_choice r (Err x) h k c ∙ ap (λ (w : Verdict). Ends w) (sym e)

-- ---- what has come

come_ended : (r s t : Run) (v : Verdict) → IsChoosing r s → IsEnded s v t → IsEnded r v t
come_ended r s t v c h =
    record {
      floor = h.floor ∙ ap (λ (f : PlainFloor). ended_floor f v) c.floor;
      records = h.records ∙ ap (λ (rs : List Record). rs ++ End v ∷ []) c.records;
      drawn = (let a = c.drawn in let b = h.drawn in omega (arith, a, b));
    }

come_moved : (r s t : Run) (ch : Choice) (reached : List Touched) → IsChoosing r s → IsMoved s ch reached t → IsMoved r ch reached t
come_moved r s t ch reached c h =
    record {
      reach_is = ap (λ (f : PlainFloor). reach (code_on f).has ch.event (live (code_on f) f.pair.stand)) (sym c.floor) ∙ h.reach_is;
      pair_is = h.pair_is ∙ ap (λ (f : PlainFloor). forgotten the_top (stepped (code_on f) f.pair.stand ch.event ch.place reached)) c.floor;
      phase_is = h.phase_is;
      whole = h.whole;
      records = h.records ∙ ap (λ (rs : List Record). rs ++ Sel ch.event ∷ []) c.records;
      drawn = h.drawn;
    }

-- what has come after choosing has come
pub come : (r s t : Run) (n : Next) → IsChoosing r s → (n ≡ Waits → s.draw.drawn ≡ r.draw.drawn) → HasCome s n t → HasCome r n t
come r s t (Ends v) c d h = come_ended r s t v c h
come r s t (Selects ch reached) c d h = come_moved r s t ch reached c h
come r s t Waits c d h = record { floor = h.floor ∙ c.floor; records = h.records ∙ c.records; drawn = h.drawn ∙ d refl }

chosen_if : (b : Bool) (m n : Next) → (m ≡ Waits → ⊥) → (n ≡ Waits → ⊥) → (if b then m else n) ≡ Waits → ⊥
chosen_if true m n h k e = h e
chosen_if false m n h k e = k e

chosen_at : (s : Stand Origin) (ch : Choice) (x : Asked (List Touched)) → next_chosen s ch x ≡ Waits → ⊥
chosen_at s ch (Err y) h = cc
chosen_at s ch (Ok reached) h = chosen_if (nat_lt MOST_WEIGHT (weight_after s ch.event reached)) (Ends verdict.Weight) (Selects ch reached) (λ e. cc) (λ e. cc) h

-- a run doesn't wait where an event was chosen
pub chosen_goes : (s : Run) (e : PlainEvent) (place : Option ℕ) → next_chosen_in s e place ≡ Waits → ⊥
chosen_goes s e place h =
    let ch : Choice = record { event = e; place = place; drawn = s.draw.drawn } in
    let f = s.floor in
    let x = reach (code_on f).has e (live (code_on f) f.pair.stand) in
    chosen_if (f.pair.stand.transitions == f.options.steps) (Ends (verdict.Steps f.options.steps)) (next_chosen f.pair.stand ch x) (λ k. cc) (λ k. chosen_at f.pair.stand ch x k) h

-- ---- choices as the bench answers them

pub queued_choice : (r : Run) (f : PlainFloor) (place d : ℕ) (e : PlainEvent) → f ≡ r.floor → slice_get f.pair.stand.queue place ≡ Some e →
    choice_in r ≡ Ok (option_map (λ x. record { event = x; place = Some place; drawn = d }) (slice_get r.floor.pair.stand.queue place)) → choice_in r ≡ Ok (Some (record { event = e; place = Some place; drawn = d }))
queued_choice r f place d e h k c =
    c ∙ ap (λ (x : Option PlainEvent). Ok (option_map (λ y. record { event = y; place = Some place; drawn = d }) x)) (ap (λ (g : PlainFloor). slice_get g.pair.stand.queue place) (sym h) ∙ k)

pub can_go_on : (r : Run) (f : PlainFloor) (e : PlainEvent) (place : Option ℕ) (d : ℕ) → f ≡ r.floor → choice_in r ≡ Ok (Some (record { event = e; place = place; drawn = d })) → CanGo f e place
can_go_on r f e place d h c =
    subst (λ (g : PlainFloor). CanGo g e place) (sym h) (can_go r.floor (draw_word r.draw.seed) r.draw.drawn (record { event = e; place = place; drawn = d }) c)

-- what a floor says of the verdict of a fault
abbrev pub VerdictFor : PlainFloor → ℕ → set_fault.SetFault → Verdict → Type 0
VerdictFor f n x v = (y : ℕ × SetFault) → FaultAs {A = List Touched} (Err y) (Set n x) → v ≡ fault_verdict f.pair.stand y

-- the fault that a bench answers
record Faulty {A : Type 0} (asked : Asked A) (n : ℕ) (f : set_fault.SetFault) : Type 0 where
  pub fault : ℕ × SetFault
  pub is_fault : asked ≡ Err fault
  pub number : fault.0 ≡ n
  pub same : FaultAs {A = List Touched} (Err fault) (Set n f)

faulty : {A : Type 0} (asked : Asked A) (n : ℕ) (f : set_fault.SetFault) → FaultAs asked (Set n f) → Faulty asked n f
faulty asked n (fault_kind.Broken f line) h = record { fault = (n, bodies.SetFault.Broken f line); is_fault = h; number = refl; same = refl }
faulty asked n fault_kind.Spent h = record { fault = (n, bodies.SetFault.Spent); is_fault = h; number = refl; same = refl }
faulty asked n (fault_kind.NotTruth line) h = record { fault = (n, bodies.SetFault.NotTruth line); is_fault = h; number = refl; same = refl }
faulty asked n fault_kind.Memory h = absurd h

-- it is that of a registered b-thread
pub fault_within : (r : Run) (f : PlainFloor) (n : ℕ) (x : set_fault.SetFault) → f ≡ r.floor → FaultAs (choice_in r) (Set n x) → n < length f.pair.stand.threads
fault_within r f n x h k =
    let y = faulty (choice_in r) n x k in
    subst (λ (g : PlainFloor). n < length g.pair.stand.threads) (sym h)
    (subst (λ (m : ℕ). m < length r.floor.pair.stand.threads) y.number (fault_below (code_on r.floor) (draw_word r.draw.seed) r.floor.options.strategy r.floor.pair.stand r.draw.drawn y.fault y.is_fault))

-- and the run ends in its verdict
pub next_faulty : (r : Run) (f : PlainFloor) (n : ℕ) (x : set_fault.SetFault) (v : Verdict) → r.floor.pair.stand.verdict ≡ None → r.draw.seed ≡ r.floor.options.seed → f ≡ r.floor → FaultAs (choice_in r) (Set n x) →
    VerdictFor f n x v → next_in r ≡ Ends v
next_faulty r f n x v h k e c w =
    let y = faulty (choice_in r) n x c in
    next_fault_is r y.fault v h k y.is_fault (w y.fault y.same ∙ ap (λ (g : PlainFloor). fault_verdict g.pair.stand y.fault) e)

-- the same fault, in the parts of an answer
pub fault_told : (f : PlainFloor) (v : Verdict) (m n : ℕ) (x y : set_fault.SetFault) → m ≡ n → x ≡ y → VerdictFor f m x v → VerdictFor f n y v
fault_told f v m n x y h k w = subst (λ (i : ℕ). VerdictFor f i y v) h (subst (λ (u : set_fault.SetFault). VerdictFor f m u v) k w)
