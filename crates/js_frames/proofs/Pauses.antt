-- What the pauses of a machine say.
use Rattle.std.proofs.lemmas.Bool.{false≢true}
use Rattle.std.specs.Prelude.{nat_lt, IsSome, OnErr}
use Rattle.std.proofs.Common.{inl, inr, Bool, true, false, cond, ◌≡◌, ℕ, zero, suc, ◌+◌, ◌≤◌, List, [], ◌∷◌, ◌++◌, length, Option, Some, None, Result, Ok, Err, refl, sym, ap, ◌∙◌, subst, arith, append_assoc, append-nil}
use Rattle.std.specs.Arc.{arc_value}
use Rattle.std.specs.declared.sync.Arc.{Arc}
use Rattle.std.specs.declared.alloc.Global.{Global}
use Rattle.js_data.specs.Event.{PlainEvent}
use Rattle.js_data.specs.declared.fault.Fault.{Fault}
use Rattle.js_data.specs.declared.fault.Fault.TheVariants as fault
use Rattle.js_value.specs.Value as v
use Rattle.js_value.specs.Value.{PlainValue}
use Rattle.js_value.specs.Lists.{values_in}
use Rattle.js_value.specs.Views.{plain_value}
use Rattle.js_value.specs.declared.value.Value.{Value}
use Rattle.js_value.specs.declared.value.Value.TheVariants as value
use Rattle.js_program.specs.PlainProgram.{PlainProgram}
use Rattle.js_meaning.specs.State as js
use Rattle.js_meaning.specs.State.{State, Setting, Left, left_of, left_by, Outcome, went, normal, broken, violated, spent, stopped, spends, breaks}
use Rattle.js_meaning.specs.Calls.{after_call, answer_of, body_of, enters, calls}
use Rattle.js_meaning.specs.declared.limits.TheConstants.{MOST_CALLS}
use Rattle.js_meaning.specs.Meaning.{begins_with, eval}
use Rattle.js_meaning.specs.Bodies.{Origin, the_top, function, mode_of, setting_of, own_constants, runs_body, evaluation}
use Rattle.js_meaning.proofs.Bound.{eval_begins}
use Rattle.js_frames.specs.declared.step.Completion.{Completion}
use Rattle.js_frames.specs.declared.step.Completion.TheVariants.{Normal, Broke, Continued, Returned}
use Rattle.js_frames.specs.declared.step.Step.{Step}
use Rattle.js_frames.specs.declared.step.Step.TheVariants.{Begin, Give, Ask, Fail, Violate}
use Rattle.js_frames.specs.declared.frame.Frame.{Frame}
use Rattle.js_frames.specs.declared.frame.Frame.TheVariants.{Waiting, Iterating, Called}
use Rattle.js_frames.specs.declared.machine.Pause.{Pause}
use Rattle.js_frames.specs.declared.machine.Pause.TheVariants as pause
use Rattle.js_frames.specs.declared.machine.Machine.{Machine}
use Rattle.js_frames.specs.declared.engine.Engine.{Engine}
use Rattle.js_frames.specs.Places.{Place, Beside, plain_effects, place_of, setting_at, state_at, fresh}
use Rattle.js_frames.specs.Frames.{plain_completion, resume, plug, step_outcome, future}
use Rattle.js_frames.specs.inner.Leads.{Leads, IsSettled, IsHeld, Advanced, node_does}
use Rattle.js_frames.specs.Fits.{StackFits, StepFits}
use Rattle.js_frames.proofs.Fuel.{node_leaves}
use Rattle.js_frames.specs.Runs.{IsOfProgram, Stands, untaken, asked_at, answer_at, asked_by, line_asked, answer_by, constants_by, Answers, Says, IsReached, Runs, pause_of, if_zero}

-- what is over passes by all frames
module _ (g : Setting) where
  pub plug_over : (o : Outcome) → ((f : Frame) → resume g f o ≡ o) → (fs : List Frame) → plug g fs o ≡ o
  unfolding plug
  plug_over o h [] = refl
  plug_over o h (f ∷ fs) = ap (resume g f) (plug_over o h fs) ∙ h f

  resume_stopped : (f : Frame) (s p : PlainValue) (line : ℕ) (l : Left) → resume g f (stopped s p line l) ≡ stopped s p line l
  unfolding resume
  resume_stopped (Waiting part) s p line l = refl
  resume_stopped (Iterating iteration) s p line l = refl
  resume_stopped (Called slots n) s p line l = refl

  resume_broken : (f : Frame) (fault : Fault) (line : ℕ) (l : Left) → resume g f (broken fault line l) ≡ broken fault line l
  unfolding resume
  resume_broken (Waiting part) fault line l = refl
  resume_broken (Iterating iteration) fault line l = refl
  resume_broken (Called slots n) fault line l = refl

  resume_violated : (f : Frame) (text : List ℕ) (l : Left) → resume g f (violated text l) ≡ violated text l
  unfolding resume
  resume_violated (Waiting part) text l = refl
  resume_violated (Iterating iteration) text l = refl
  resume_violated (Called slots n) text l = refl

  resume_spent : (f : Frame) (l : Left) → resume g f (spent l) ≡ spent l
  unfolding resume
  resume_spent (Waiting part) l = refl
  resume_spent (Iterating iteration) l = refl
  resume_spent (Called slots n) l = refl

-- a call gives a value, if it completes
abbrev IsValue : js.Completion → Type 0
IsValue c = (x : PlainValue) × (c ≡ normal x)

called_gives : (slots : List (Option PlainValue)) (n : ℕ) (o : Outcome) (c : js.Completion) (s : State) → after_call slots n o ≡ went c s → IsValue c
called_gives slots n (went c' s') c s e = let same : c ≡ normal (answer_of c') = cc in (answer_of c', same)
called_gives slots n (broken fault line l) c s e = cc
called_gives slots n (violated text l) c s e = cc
called_gives slots n (spent l) c s e = cc
called_gives slots n (stopped x y line l) c s e = cc

calls_give : (g : Setting) (ev : ℕ → State → Outcome) (line : ℕ) (f : PlainValue) (args : List PlainValue) (s : State) (c : js.Completion) (t : State) → calls g ev line f args s ≡ went c t → IsValue c
calls_give g ev line (v.function code captured) args s c t e = chosen (nat_lt s.calls MOST_CALLS) e
  where
    chosen : (b : Bool) → cond b (enters ev (s.calls + 1) (body_of g.base.program code) (values_in captured) args) (breaks fault.Depth line) s ≡ went c t → IsValue c
    chosen true h = called_gives _ _ _ c t h
    chosen false h = cc
calls_give g ev line v.undefined args s c t e = cc
calls_give g ev line v.null args s c t e = cc
calls_give g ev line (v.truth b) args s c t e = cc
calls_give g ev line (v.whole n) args s c t e = cc
calls_give g ev line (v.text w) args s c t e = cc
calls_give g ev line (v.list xs) args s c t e = cc
calls_give g ev line (v.fields fs) args s c t e = cc
calls_give g ev line (v.event x) args s c t e = cc
calls_give g ev line (v.set x) args s c t e = cc

body_gives : (base : js.Ground) (b : ℕ) (o : Origin) (replies : List PlainEvent) (c : js.Completion) (s : State) → evaluation base b o replies ≡ went c s → IsValue c
unfolding evaluation
body_gives base b the_top replies c s e = called_gives _ _ _ c s e
body_gives base b (function mode f args) replies c s e = calls_give (setting_of base b (function mode f args)) (eval (setting_of base b (function mode f args))) 0 f args _ c s e

-- ---- what a pause says

abbrev beside : List js.Effect → ℕ → Beside
beside taken delivered = record { taken = taken; delivered = delivered; replies = [] }

abbrev now : Engine → List js.Effect → ℕ → State
now m taken delivered = state_at (place_of m) (beside taken delivered)

module _ (base : js.Ground) (m : Engine) (o : Outcome) (gives_value : (c : js.Completion) (s : State) → o ≡ went c s → IsValue c) (taken : List js.Effect) (delivered begun more nodes budget : ℕ) (fuel : m.fuel + (begun + more) ≡ budget) where
  abbrev g : Setting
  g = setting_at base (place_of m)

  abbrev at : State
  at = now m taken delivered

  -- the body comes to this
  abbrev Comes : Step → Type 0
  Comes last = future base (place_of m) last (beside taken delivered) ≡ o

  is_spent : (n : ℕ) → Comes (Begin n) → m.fuel ≡ 0 → o ≡ spent (record (left_of at) { fuel = 0 })
  unfolding future step_outcome
  is_spent n eq f =
      sym eq ∙ ap (plug g m.stack.items) (eval_begins g n at ∙ ap (λ k. begins_with k (node_does g n) at) f)
      ∙ plug_over g (spends at) (λ h. resume_spent g h (record (left_of at) { fuel = 0 })) m.stack.items

  -- a node begins, and leaves less than there was
  leaves_less : (n k : ℕ) → Comes (Begin n) → m.fuel ≡ suc k → (left_by o).fuel ≤ k
  unfolding future step_outcome
  leaves_less n k eq f =
      let begun_at : State = record at { fuel = k } in
      let is : plug g m.stack.items (node_does g n begun_at) ≡ o = sym (ap (plug g m.stack.items) (eval_begins g n at ∙ ap (λ q. begins_with q (node_does g n) at) f)) ∙ eq in
      subst (λ q. (left_by q).fuel ≤ k) is (node_leaves g n begun_at m.stack.items refl)

  is_given : (c : Completion) → Comes (Give c) → m.stack.items ≡ [] → o ≡ went (plain_completion c) at
  unfolding future step_outcome plug
  is_given c eq settled = sym eq ∙ ap (λ fs. plug g fs (went (plain_completion c) at)) settled

  is_stopped : (s p : Value) (line : ℕ) → Comes (Ask s p line) → o ≡ stopped (plain_value s) (plain_value p) line (left_of at)
  unfolding future step_outcome
  is_stopped s p line eq =
      sym eq ∙ plug_over g (stopped (plain_value s) (plain_value p) line (left_of at)) (λ h. resume_stopped g h (plain_value s) (plain_value p) line (left_of at)) m.stack.items

  is_broken : (fault : Fault) (line : ℕ) → Comes (Fail fault line) → o ≡ broken fault line (left_of at)
  unfolding future step_outcome
  is_broken fault line eq = sym eq ∙ plug_over g (broken fault line (left_of at)) (λ h. resume_broken g h fault line (left_of at)) m.stack.items

  is_violated : (text : List ℕ) → Comes (Violate text) → o ≡ violated text (left_of at)
  unfolding future step_outcome
  is_violated text eq = sym eq ∙ plug_over g (violated text (left_of at)) (λ h. resume_violated g h text (left_of at)) m.stack.items

  -- as much is left as the machine has
  reached_by : (q : Outcome) → o ≡ q → (left_by q).fuel ≡ m.fuel → (left_by o).fuel + (begun + more) ≡ budget
  reached_by q is left = ap (λ r. (left_by r).fuel + (begun + more)) is ∙ ap (λ k. k + (begun + more)) left ∙ fuel

  says_begin : (n f : ℕ) → Comes (Begin n) → m.fuel ≡ f → IsHeld (Begin n) m.fuel more nodes → Says (if_zero f pause.Spent pause.More) o begun more nodes budget (taken ++ plain_effects m.effects) (record { engine = m; pending = Some (Begin n) })
  says_begin n zero eq f held = record { left = record (left_of at) { fuel = 0 }; is = is_spent n eq f; made = refl; all = omega arith }
  says_begin n (suc k) eq f held =
      let whole : more ≡ nodes = elim held [ inl e ↦ absurd (omega arith) | inr e ↦ e ] in
      let less : (left_by o).fuel ≤ k = leaves_less n k eq f in
      record { whole = whole; some_left = omega arith; another = omega arith }

  reaches_begin : (n f : ℕ) → Comes (Begin n) → m.fuel ≡ f → IsReached (if_zero f pause.Spent pause.More) o (begun + more) budget
  reaches_begin n zero eq f = reached_by _ (is_spent n eq f) (sym f)
  reaches_begin n (suc k) eq f = tt

  says_value : (c : Completion) (x : PlainValue) → plain_completion c ≡ normal x → o ≡ went (plain_completion c) at → Answers o (taken ++ plain_effects m.effects) (record { engine = m; pending = Some (Give c) })
  unfolding answer_by constants_by
  says_value (Normal y) x e h = record { answer = plain_value y; state = at; is = h; answered = refl; constants = refl; made = refl }
  says_value Broke x e h = cc
  says_value Continued x e h = cc
  says_value (Returned y) x e h = cc

  pub says : (last : Step) → Comes last → IsHeld last m.fuel more nodes → IsSettled last m.stack.items → Says (pause_of m.fuel last) o begun more nodes budget (taken ++ plain_effects m.effects) (record { engine = m; pending = Some last })
  unfolding asked_by line_asked
  says (Begin n) eq held settled = says_begin n m.fuel eq refl held
  says (Give c) eq held settled =
      let whole = is_given c eq settled in
      let x : IsValue (plain_completion c) = gives_value (plain_completion c) at whole in
      says_value c x.0 x.1 whole
  says (Ask s p line) eq held settled =
      record { statement = plain_value s; priority = plain_value p; line = line; left = left_of at; is = is_stopped s p line eq; asked = refl; at_line = refl; made = refl }
  says (Fail fault line) eq held settled = (left_of at, is_broken fault line eq, refl)
  says (Violate text) eq held settled = (left_of at, is_violated text eq, refl)

  pub reaches : (last : Step) → Comes last → IsSettled last m.stack.items → IsReached (pause_of m.fuel last) o (begun + more) budget
  reaches (Begin n) eq settled = reaches_begin n m.fuel eq refl
  reaches (Give c) eq settled = reached_by _ (is_given c eq settled) refl
  reaches (Ask s p line) eq settled = reached_by _ (is_stopped s p line eq) refl
  reaches (Fail fault line) eq settled = reached_by _ (is_broken fault line eq) refl
  reaches (Violate text) eq settled = reached_by _ (is_violated text eq) refl

-- the step to come is the one that is pending
same_next : (m : Option Step) (a b : Step) → m ≡ Some a → m ≡ Some b → a ≡ b
same_next m a b e f = cc

-- a machine that stands for a body still does so after a run
pub runs_on : (base : js.Ground) (old : Machine) (new : Engine) (step last : Step) (nodes more : ℕ) → old.pending ≡ Some step → Advanced base (place_of old.engine) step (place_of new) last nodes more → (budget : ℕ) (o : Origin) (replies : List PlainEvent) (begun : ℕ) (taken : List js.Effect) → Stands base budget o replies begun taken old → Runs base budget o replies begun taken nodes (pause_of new.fuel last) (record { engine = new; pending = Some last })
unfolding Stands untaken future
runs_on base old new step last nodes more pending a budget o replies begun taken h =
    let is = same_next old.pending h.next step h.is_next pending in
    let r = a.ran in
    let f = r.fuel in
    let k = h.fuel in
    let b = r.same_budget in
    let comes : (later : List PlainEvent) → future base (place_of new) last (record { taken = taken; delivered = h.delivered; replies = later }) ≡ evaluation base budget o (replies ++ later) =
    λ later. let beside_it : Beside = record { taken = taken; delivered = h.delivered; replies = later } in
    r.same beside_it ∙ ap (λ q. future base (place_of old.engine) q beside_it) (sym is) ∙ h.comes later in
    let now_comes : future base (place_of new) last (beside taken h.delivered) ≡ evaluation base budget o replies = comes [] ∙ ap (evaluation base budget o) (append-nil replies) in
    record {
      more = more;
      few = a.few;
      stands = record {
        next = last;
        is_next = refl;
        delivered = h.delivered;
        comes = comes;
        budget_is = b ∙ h.budget_is;
        mode_is = r.same_mode ∙ h.mode_is;
        fuel = omega arith;
      };
      says = says base new (evaluation base budget o replies) (body_gives base budget o replies) taken h.delivered begun more nodes budget (omega arith) last now_comes a.held a.settled;
      reached = reaches base new (evaluation base budget o replies) (body_gives base budget o replies) taken h.delivered begun more nodes budget (omega arith) last now_comes a.settled;
    }

-- a machine that starts stands for its body
pub started : (base : js.Ground) (budget : ℕ) (o : Origin) (engine new : Engine) (step : Step) → place_of engine ≡ fresh (mode_of o) budget (own_constants base o) → Leads base (place_of engine) (runs_body (setting_at base (place_of engine)) (eval (setting_at base (place_of engine))) o) (place_of new) step → Stands base budget o [] 0 [] (record { engine = new; pending = Some step })
unfolding Stands future plug evaluation
started base budget o engine new step e l0 =
    let l = subst (λ q. Leads base q (runs_body (setting_at base q) (eval (setting_at base q)) o) (place_of new) step) e l0 in
    let b = l.same_budget in
    let less : new.fuel ≤ budget = l.within.less in
    let least : budget ≤ new.fuel = l.within.above (omega arith) in
    record {
      next = step;
      is_next = refl;
      delivered = 0;
      comes = λ later. l.same (record { taken = []; delivered = 0; replies = later });
      budget_is = b;
      mode_is = l.same_mode;
      fuel = omega arith;
    }

-- what is asked is pending
pub what_asks : (q : Step) → IsSome (asked_at (Some q)) → (s : Value) × (p : Value) × (line : ℕ) × (q ≡ Ask s p line)
what_asks (Ask s p line) i = (s, p, line, refl)
what_asks (Begin n) i = absurd (false≢true i)
what_asks (Give c) i = absurd (false≢true i)
what_asks (Fail f line) i = absurd (false≢true i)
what_asks (Violate t) i = absurd (false≢true i)

-- the step that gives the event
abbrev pub answered : Arc PlainEvent Global → Step
answered event = Give (Normal (value.Event event))

-- a machine that is resumed stands for the body with one reply more
pub resumed : (old : Machine) (new : Engine) (event : Arc PlainEvent Global) → IsSome (asked_by old) → place_of new ≡ record (place_of old.engine) { fuel = old.engine.budget } → (base : js.Ground) (budget : ℕ) (o : Origin) (replies : List PlainEvent) (begun : ℕ) (taken : List js.Effect) → Stands base budget o replies begun taken old → Stands base budget o (replies ++ arc_value event ∷ []) 0 taken (record { engine = new; pending = Some (answered event) })
unfolding Stands future step_outcome asked_by
resumed old new event asking e base budget o replies begun taken h =
    let b = ap (λ (q : Place). q.budget) e in
    let m = ap (λ (q : Place). q.mode) e in
    let f = ap (λ (q : Place). q.fuel) e in
    let at : IsSome (asked_at (Some h.next)) = subst (λ q. IsSome (asked_at q)) h.is_next asking in
    let w = what_asks h.next at in
    let total = length (taken ++ plain_effects old.engine.effects) in
    record {
      next = answered event;
      is_next = refl;
      delivered = total;
      comes = λ later. ap (λ q. future base q (answered event) (record { taken = taken; delivered = total; replies = later })) e
          ∙ ap (λ q. future base (place_of old.engine) q (record { taken = taken; delivered = h.delivered; replies = arc_value event ∷ later })) (sym w.3)
          ∙ h.comes (arc_value event ∷ later)
          ∙ ap (evaluation base budget o) (sym (append_assoc replies (arc_value event ∷ []) later));
      budget_is = b ∙ h.budget_is;
      mode_is = m ∙ h.mode_is;
      fuel = let k : old.engine.budget ≡ budget = h.budget_is in omega arith;
    }

-- taking the effects changes nothing else
pub effects_taken : (old : Machine) (new : Engine) (effects : List js.Effect) → effects ≡ plain_effects old.engine.effects → place_of new ≡ record (place_of old.engine) { effects = [] } → (base : js.Ground) (budget : ℕ) (o : Origin) (replies : List PlainEvent) (begun : ℕ) (taken : List js.Effect) → Stands base budget o replies begun taken old → Stands base budget o replies begun (taken ++ effects) (record { engine = new; pending = old.pending })
unfolding Stands future
effects_taken old new effects same e base budget o replies begun taken h =
    let b = ap (λ (q : Place). q.budget) e in
    let m = ap (λ (q : Place). q.mode) e in
    let f = ap (λ (q : Place). q.fuel) e in
    let k = h.fuel in
    record {
      next = h.next;
      is_next = h.is_next;
      delivered = h.delivered;
      comes = λ later. ap (λ q. future base q h.next (record { taken = taken ++ effects; delivered = h.delivered; replies = later })) e
          ∙ ap (λ es. plug (setting_at base (place_of old.engine)) old.engine.stack.items (step_outcome (setting_at base (place_of old.engine)) h.next (record (state_at (place_of old.engine) (record { taken = taken; delivered = h.delivered; replies = later })) { effects = es })))
          (append-nil (taken ++ effects) ∙ ap (λ es. taken ++ es) same)
          ∙ h.comes later;
      budget_is = b ∙ h.budget_is;
      mode_is = m ∙ h.mode_is;
      fuel = omega arith;
    }

pub of_program_resumed : (old : Machine) (new : Engine) (event : Arc PlainEvent Global) → IsSome (asked_by old) → place_of new ≡ record (place_of old.engine) { fuel = old.engine.budget } → (program : PlainProgram) → IsOfProgram program old → IsOfProgram program (record { engine = new; pending = Some (answered event) })
unfolding IsOfProgram asked_by
of_program_resumed old new event asking e program h = found old.pending asking (λ next. h next)
  where
    found : (o : Option Step) → IsSome (asked_at o) → ((next : Step) → o ≡ Some next → StackFits program old.engine.stack.items × StepFits program next) → (next : Step) → Some (answered event) ≡ Some next → StackFits program new.stack.items × StepFits program next
    found None i k next is = absurd (false≢true i)
    found (Some q) i k next is =
        let same : answered event ≡ next = cc in
        (subst (λ (p : Place). StackFits program p.stack) (sym e) (k q refl).0, subst (StepFits program) same tt)

-- at `bp.sync` something is asked
pub asks_at : (new : Engine) (last : Step) (stop : Pause) → stop ≡ pause_of new.fuel last → stop ≡ pause.AtSync → IsSome (asked_by (record { engine = new; pending = Some last }))
unfolding asked_by
asks_at new (Begin n) stop e h = absurd (never new.fuel (sym e ∙ h))
  where
    never : (fuel : ℕ) → if_zero fuel pause.Spent pause.More ≡ pause.AtSync → ⊥
    never zero is = cc
    never (suc f) is = cc
asks_at new (Give c) stop e h = cc
asks_at new (Ask s p line) stop e h = refl
asks_at new (Fail f line) stop e h = cc
asks_at new (Violate t) stop e h = cc

pub of_program_started : (program : PlainProgram) (new : Engine) (step : Step) → StackFits program new.stack.items → StepFits program step → IsOfProgram program (record { engine = new; pending = Some step })
unfolding IsOfProgram
of_program_started program new step fits step_fits = λ next e.
    let same : step ≡ next = cc in
    (fits, subst (StepFits program) same step_fits)

-- only a step at `bp.sync` asks
pub asks_only : (q : Step) → IsSome (asked_at (Some q)) → ((x : Value) (y : Value) (line : ℕ) → q ≡ Ask x y line → ⊥) → ⊥
asks_only (Begin n) h k = false≢true h
asks_only (Give c) h k = false≢true h
asks_only (Ask x y line) h k = k x y line refl
asks_only (Fail f line) h k = false≢true h
asks_only (Violate t) h k = false≢true h

-- only what completes answers
pub completes_only : (q : Step) → IsSome (answer_at (Some q)) → ((c : Completion) → q ≡ Give c → ⊥) → ⊥
completes_only (Begin n) h k = false≢true h
completes_only (Give c) h k = k c refl
completes_only (Ask x y line) h k = false≢true h
completes_only (Fail f line) h k = false≢true h
completes_only (Violate t) h k = false≢true h

pub answers_only : (c : Completion) → IsSome (answer_at (Some (Give c))) → ((x : Value) → c ≡ Normal x → ⊥) → ⊥
answers_only (Normal x) h k = k x refl
answers_only Broke h k = false≢true h
answers_only Continued h k = false≢true h
answers_only (Returned x) h k = false≢true h

-- what holds anyway does so after an error
pub on_err : {X E P : Type 0} (r : Result X E) → P → OnErr r P
on_err (Ok x) p = tt
on_err (Err e) p = p
