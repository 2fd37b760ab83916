-- Loops of the machine.
use Rattle.std.proofs.Common.{◌≡◌, ℕ, ◌+◌, List, Option, Some, None, refl, sym, ap, ◌∙◌}
use Rattle.std.specs.Prelude.{slice_get, slice_set, fold}
use Rattle.js_data.specs.declared.fault.Fault.TheVariants as fault
use Rattle.js_value.specs.Value.{PlainValue, ValueList}
use Rattle.js_value.specs.Lists.{values_in}
use Rattle.js_value.specs.Views.{plain_value}
use Rattle.js_value.specs.declared.value.Value.{Value}
use Rattle.js_value.specs.declared.value.Value.TheVariants as value
use Rattle.js_meaning.specs.State.{State, Setting, Outcome, ◌>>=◌, leaves, breaks}
use Rattle.js_meaning.specs.Variables.{undeclare, set_slot}
use Rattle.js_meaning.specs.Statements.{after_iteration, perhaps, one_iteration, each, each_of}
use Rattle.js_meaning.specs.Meaning.{eval, iterations_of}
use Rattle.js_meaning.proofs.Bound.{iterations_again}
use Rattle.js_frames.specs.declared.frame.Loop.{Loop}
use Rattle.js_frames.specs.declared.frame.Part.TheVariants.{Started, Tested, Between}
use Rattle.js_frames.specs.declared.frame.Iteration.TheVariants.{OfLoop}
use Rattle.js_frames.specs.Places.{Place, Beside, state_at}
use Rattle.js_frames.specs.Frames.{rest, again, loop, starts_loop, items_from}
use Rattle.js_frames.proofs.Lists.{drop_at, drop_past, undeclared_slots}

-- where a block's variables are not declared yet
pub state_undeclared : (old : Place) (slots : List (Option PlainValue)) (ks : List ℕ) (b : Beside) → slots ≡ fold (λ ss k. slice_set ss k None) old.slots ks → state_at (record old { slots = slots }) b ≡ undeclare ks (state_at old b)
state_undeclared old slots ks b e = ap (λ ss. record (state_at old b) { slots = ss }) e ∙ sym (undeclared_slots ks (state_at old b))

module _ (g : Setting) (t : Loop) (s : State) where
  pub loop_without_test : t.test ≡ None → after_iteration (eval g t.body s) (again g (OfLoop t)) ≡ loop g t s
  unfolding again
  loop_without_test e =
      ap (λ q. one_iteration (eval g) q t.body t.next (iterations_of g t.test t.body t.next) s) (sym e) ∙ sym (iterations_again g t.test t.body t.next s)

  pub loop_with_test : (n : ℕ) → t.test ≡ Some n → (eval g n s >>= rest g (Tested t)) ≡ loop g t s
  unfolding rest
  loop_with_test n e =
      ap (λ q. one_iteration (eval g) q t.body t.next (iterations_of g t.test t.body t.next) s) (sym e) ∙ sym (iterations_again g t.test t.body t.next s)

  pub next_absent : t.next ≡ None → loop g t s ≡ again g (OfLoop t) s
  unfolding again
  next_absent e = ap (λ q. perhaps (eval g) q s >>= λ _. loop g t) (sym e)

  pub next_there : (n : ℕ) → t.next ≡ Some n → (eval g n s >>= rest g (Between t)) ≡ again g (OfLoop t) s
  unfolding rest again
  next_there n e = ap (λ q. perhaps (eval g) q s >>= λ _. loop g t) (sym e)

pub start_absent : (g : Setting) (slots : List ℕ) (first : Option ℕ) (t : Loop) (s : State) → first ≡ None → loop g t (undeclare slots s) ≡ starts_loop g slots first t s
start_absent g slots first t s e = ap (λ q. perhaps (eval g) q (undeclare slots s) >>= λ _. loop g t) (sym e)

pub start_there : (g : Setting) (slots : List ℕ) (first : Option ℕ) (t : Loop) (s : State) (n : ℕ) → first ≡ Some n → (eval g n (undeclare slots s) >>= rest g (Started t)) ≡ starts_loop g slots first t s
unfolding rest
start_there g slots first t s n e = ap (λ q. perhaps (eval g) q (undeclare slots s) >>= λ _. loop g t) (sym e)

-- only a list can be gone over
pub no_list : (ev : ℕ → State → Outcome) (line k body : ℕ) (x : Value) (s : State) → ((xs : ValueList) → x ≡ value.List xs → ⊥) → breaks fault.Mistyped line s ≡ each_of ev line k body (plain_value x) s
no_list ev line k body value.Undefined s h = refl
no_list ev line k body value.Null s h = refl
no_list ev line k body (value.Truth b) s h = refl
no_list ev line k body (value.Whole n) s h = refl
no_list ev line k body (value.Text w) s h = refl
no_list ev line k body (value.List xs) s h = absurd (h xs refl)
no_list ev line k body (value.Fields fs) s h = refl
no_list ev line k body (value.Event e) s h = refl
no_list ev line k body (value.Set e) s h = refl
no_list ev line k body (value.Function c cs) s h = refl

-- the element at a place
pub next_item : (g : Setting) (k body place : ℕ) (items : ValueList) (x : PlainValue) (s : State) → slice_get (values_in items) place ≡ Some x → after_iteration (eval g body (set_slot k (Some x) s)) (items_from g k body items (place + 1)) ≡ items_from g k body items place s
next_item g k body place items x s at = ap (λ l. each (eval g) k body l s) (sym (drop_at (values_in items) place x at))

pub no_item : (g : Setting) (k body place : ℕ) (items : ValueList) (s : State) → slice_get (values_in items) place ≡ None → leaves s ≡ items_from g k body items place s
no_item g k body place items s at = ap (λ l. each (eval g) k body l s) (sym (drop_past (values_in items) place at))
