-- What a predicate's machine tells at its end.
use Rattle.std.proofs.Common.{◌≡◌, ℕ, Bool, List, [], ◌∷◌, Some, Result, sym, ap, ◌∙◌, subst}
use Rattle.js_data.specs.Event.{PlainEvent}
use Rattle.js_data.proofs.Shared.{one_answer}
use Rattle.js_value.specs.Value as v
use Rattle.js_value.specs.Value.{PlainValue, ValueList}
use Rattle.js_program.specs.declared.builtin.Mode.TheVariants.{Predicate}
use Rattle.js_meaning.specs.State.{Ground, Effect, State, Outcome, normal, went}
use Rattle.js_meaning.specs.Calls.{body_of}
use Rattle.js_meaning.specs.Bodies.{function, evaluation}
use Rattle.js_frames.specs.declared.machine.Machine.{Machine}
use Rattle.js_frames.specs.Runs.{Answers, answer_by}
use Rattle.bp_meaning.specs.Membership.{truth_answered, asks_predicate}
use Rattle.bp_sets.specs.declared.fault.SetFault.{SetFault}
use Rattle.bp_sets.specs.Answers.{TellsAs}

pub ended : (line : ℕ) (o : Outcome) (made : List Effect) (m : Machine) (answer : PlainValue) (r : Result Bool SetFault) → Answers o made m → answer_by m ≡ Some answer → ((s : State) → TellsAs (truth_answered line (went (normal answer) s)) r) → TellsAs (truth_answered line o) r
ended line o made m answer r a h t =
    let is = a.is ∙ ap (λ x. went (normal x) a.state) (one_answer _ _ _ a.answered h) in
    subst (λ x. TellsAs (truth_answered line x) r) (sym is) (t a.state)

-- the function and the event that were copied are those that were given
pub as_given : (base : Ground) (budget code line : ℕ) (captured copied : ValueList) (e f : PlainEvent) (x : PlainValue) (r : Result Bool SetFault) → copied ≡ captured → f ≡ e → x ≡ v.event f → line ≡ (body_of base.program code).line → TellsAs (truth_answered line (evaluation base budget (function Predicate (v.function code copied) (x ∷ [])) [])) r → TellsAs (asks_predicate base budget code captured e) r
as_given base budget code line captured copied e f x r a b c d h =
    subst (λ n. TellsAs (truth_answered n (evaluation base budget (function Predicate (v.function code captured) (v.event e ∷ [])) [])) r) d
    (subst (λ y. TellsAs (truth_answered line (evaluation base budget (function Predicate (v.function code captured) (y ∷ [])) [])) r) (c ∙ ap v.event b)
    (subst (λ ys. TellsAs (truth_answered line (evaluation base budget (function Predicate (v.function code ys) (x ∷ [])) [])) r) a h))
