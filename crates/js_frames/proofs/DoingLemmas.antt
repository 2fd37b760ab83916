-- Parts that are done at once.
use Rattle.std.proofs.Common.{◌≡◌, ℕ, ◌-◌, ◌<◌, List, [], ◌∷◌, Option, Some, None, Result, Ok, refl, sym, ap, ◌∙◌, subst, arith}
use Rattle.std.specs.Prelude.{IfOk, slice_get, slice_set}
use Rattle.std.specs.declared.alloc.AllocError.{AllocError}
use Rattle.js_tree.specs.declared.tree.AssignOp.{AssignOp}
use Rattle.js_tree.specs.declared.tree.Step.{Step as Change}
use Rattle.js_tree.specs.declared.tree.Fix.{Fix}
use Rattle.js_tree.specs.declared.tree.Fix.TheVariants as fix
use Rattle.js_value.specs.Value.{PlainValue, undefined}
use Rattle.js_value.specs.declared.op.Op.{Op}
use Rattle.js_ops.specs.Operators.{value_of, unary_of}
use Rattle.js_program.specs.PlainProgram as p
use Rattle.js_meaning.specs.State as js
use Rattle.js_meaning.specs.State.{State, Outcome, gives, ◌>>=◌}
use Rattle.js_meaning.specs.Variables.{in_slot, if_declared, set_slot}
use Rattle.js_meaning.specs.Expressions.{op_before, step_for, assigns, writes, updates, combines}
use Rattle.js_meaning.specs.Meaning.{eval}
use Rattle.js_frames.specs.declared.step.Step.{Step}
use Rattle.js_frames.specs.declared.frame.Part.{Part}
use Rattle.js_frames.specs.declared.frame.Frame.TheVariants.{Waiting}
use Rattle.js_frames.specs.Places.{Place, setting_at, state_at}
use Rattle.js_frames.specs.Frames.{rest, resume, plug}
use Rattle.js_frames.specs.Fits.{StackFits}
use Rattle.js_frames.specs.inner.Leads.{Within, Leads, waits_for}
use Rattle.js_frames.specs.inner.Giving.{Gave, with_fuel, value_by}
use Rattle.js_frames.specs.inner.Doing.{Did}
use Rattle.js_frames.proofs.Steps.{within_trans, on_ok}
use Rattle.js_frames.proofs.GivingLemmas.{begins_here}

-- the machine with this fuel and these variables
abbrev with_slots : Place → ℕ → List (Option PlainValue) → Place
with_slots m fuel slots = record m { fuel = fuel; slots = slots }

-- an assignment whose value is there
assigns_there : (ev : ℕ → State → Outcome) (line k part : ℕ) (o : Option Op) (s now : State) (before x y : PlainValue) → Some before ≡ in_slot k s.slots → in_slot k s.slots ≡ in_slot k now.slots → ev part s ≡ gives x now → value_by o before x ≡ Ok y → assigns ev line o k part s ≡ gives y (set_slot k (Some y) now)
assigns_there ev line k part None s now before x y held stays e a =
    ap (λ q. q >>= λ v later. if_declared line (in_slot k later.slots) (λ _. writes line k (Ok v)) later) e
    ∙ ap (λ o. if_declared line o (λ _. writes line k (Ok x)) now) (sym (held ∙ stays))
    ∙ ap (λ q. writes line k q now) a
assigns_there ev line k part (Some op) s now before x y held stays e a =
    ap (λ o. if_declared line o (λ v later. ev part later >>= λ w. writes line k (value_of op v w)) s) (sym held)
    ∙ ap (λ q. q >>= λ w. writes line k (value_of op before w)) e
    ∙ ap (λ q. writes line k q now) a

-- what an update gives: its new value, or the old one
abbrev update_gives : Fix → PlainValue → PlainValue → PlainValue
update_gives fix.Before old new = new
update_gives fix.After old new = old

updates_to : (line k : ℕ) (f : Fix) (before y : PlainValue) (s : State) → updates line f k before (Ok y) s ≡ gives (update_gives f before y) (set_slot k (Some y) s)
updates_to line k fix.Before before y s = refl
updates_to line k fix.After before y s = refl

module _ (base : js.Ground) (old : Place) where
  pub did_assign : (n line k part fuel last : ℕ) (operator : AssignOp) (before x y : PlainValue) → slice_get base.program.nodes n ≡ Some (record { line = line; form = p.assign operator k part }) → old.floor < fuel → Some before ≡ in_slot k old.slots → Gave base (with_fuel old (fuel - 1)) part x (with_fuel old last) → value_by (op_before operator) before x ≡ Ok y → Did base (with_fuel old fuel) n (with_slots old last (slice_set old.slots k (Some y)))
  did_assign n line k part fuel last operator before x y at room held v a =
      let g = setting_at base old in
      let less : last < fuel - 1 = v.less in
      let some : 0 < fuel = omega arith in record {
        value = y;
        same = λ beside.
            begins_here base old n fuel (record { line = line; form = p.assign operator k part }) beside at some
            ∙ assigns_there (eval g) line k part (op_before operator) (state_at (with_fuel old (fuel - 1)) beside) (state_at (with_fuel old last) beside) before x y held refl (v.same beside) a;
        place = refl;
        less = omega arith;
        room = v.room;
      }

  pub did_update : (n line k fuel : ℕ) (step : Change) (f : Fix) (before y : PlainValue) → slice_get base.program.nodes n ≡ Some (record { line = line; form = p.update step f k }) → old.floor < fuel → Some before ≡ in_slot k old.slots → unary_of (step_for step) before ≡ Ok y → Did base (with_fuel old fuel) n (with_slots old (fuel - 1) (slice_set old.slots k (Some y)))
  did_update n line k fuel step f before y at room held a =
      let g = setting_at base old in
      let some : 0 < fuel = omega arith in record {
        value = update_gives f before y;
        same = λ beside.
            let s : State = state_at (with_fuel old (fuel - 1)) beside in
            begins_here base old n fuel (record { line = line; form = p.update step f k }) beside at some
            ∙ ap (λ o. if_declared line o (λ v. updates line f k v (unary_of (step_for step) v)) s) (sym held)
            ∙ ap (λ q. updates line f k before q s) a
            ∙ updates_to line k f before y s;
        place = refl;
        less = omega arith;
        room = omega arith;
      }

  -- an expression as a statement
  pub did_expression : (n line part fuel : ℕ) (new : Place) → slice_get base.program.nodes n ≡ Some (record { line = line; form = p.expression part }) → old.floor < fuel → Did base (with_fuel old (fuel - 1)) part new → Did base (with_fuel old fuel) n new
  did_expression n line part fuel new at room v =
      let g = setting_at base old in
      let less : new.fuel < fuel - 1 = v.less in
      let some : 0 < fuel = omega arith in record {
        value = undefined;
        same = λ beside.
            begins_here base old n fuel (record { line = line; form = p.expression part }) beside at some
            ∙ ap (λ q. q >>= λ y. combines g (eval g) line (p.expression part) (y ∷ [])) (v.same beside);
        place = v.place;
        less = omega arith;
        room = v.room;
      }

  module _ (mid : Place) (n : ℕ) (v : Did base old n mid) where
    pub did_fits : StackFits base.program old.stack → StackFits base.program mid.stack
    did_fits fits = subst (λ (q : Place). StackFits base.program q.stack) (sym v.place) fits

    pub did_within : Within old mid
    did_within =
        let less = v.less in record {
          same_floor = ap (λ (q : Place). q.floor) v.place;
          less = omega arith;
          above = λ h. v.room;
        }

    -- what would wait for it goes on
    did_leads : (new : Place) (part : Part) (step : Step) → Leads base mid (rest (setting_at base mid) part v.value) new step → Leads base old (waits_for (setting_at base old) (Waiting part) n) new step
    unfolding resume
    did_leads new part step l0 =
        let g = setting_at base old in
        let there = with_slots old mid.fuel mid.slots in
        let l = subst (λ q. Leads base q (rest (setting_at base q) part v.value) new step) v.place l0 in record {
          same = λ beside. l.same beside ∙ ap (λ o. plug g old.stack (resume g (Waiting part) o)) (sym (v.same beside ∙ ap (λ q. gives v.value (state_at q beside)) v.place));
          same_mode = l.same_mode;
          same_budget = l.same_budget;
          within = within_trans old mid new did_within l0.within;
          stack_fits = l.stack_fits;
          step_fits = l.step_fits;
          rests = l.rests;
        }

    pub did_on : (new : Place) (part : Part) (r : Result Step AllocError) → IfOk r (λ step. Leads base mid (rest (setting_at base mid) part v.value) new step) → IfOk r (λ step. Leads base old (waits_for (setting_at base old) (Waiting part) n) new step)
    did_on new part r w = on_ok r (λ step l. did_leads new part step l) w
