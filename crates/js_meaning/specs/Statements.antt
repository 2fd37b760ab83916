-- What each statement does.
use Rattle.std.specs.Prelude.{ℕ, zero, suc, cond, true, List, [], ◌∷◌, Option, Some, None}
use Rattle.js_tree.specs.declared.tree.DeclareKind.{DeclareKind}
use Rattle.js_tree.specs.declared.tree.DeclareKind.TheVariants.{Var}
use Rattle.js_data.specs.declared.fault.Fault.TheVariants as fault
use Rattle.js_value.specs.Value as v
use Rattle.js_value.specs.Value.{PlainValue, is_truthy}
use Rattle.js_value.specs.Lists.{values_in}
use Rattle.js_program.specs.declared.node.Variable.{Variable}
use Rattle.js_program.specs.PlainProgram.{PlainDeclared}
use Rattle.js_meaning.specs.State.{State, normal, broke, continued, Outcome, went, spends, ◌>>=◌, gives, leaves, breaks}
use Rattle.js_meaning.specs.Variables.{set_slot, set_variable, undeclare}

-- an iteration of a loop is over: the loop goes on, is left, or is left by what goes further out
abbrev pub after_iteration : Outcome → (State → Outcome) → Outcome
after_iteration (went (normal v) s) again = again s
after_iteration (went continued s) again = again s
after_iteration (went broke s) again = leaves s
after_iteration o again = o

-- without a value a `let` is undefined, and a `var` stays what it is
abbrev pub without_value : DeclareKind → Variable → State → State
without_value Var x s = s
without_value _ x s = set_variable x v.undefined s

-- `ev` gives what a part does
module _ (ev : ℕ → State → Outcome) where
  -- ---- declarations

  abbrev pub declares : DeclareKind → Variable → Option ℕ → State → Outcome
  declares kind x None s = leaves (without_value kind x s)
  declares kind x (Some e) s = ev e s >>= λ v now. leaves (set_variable x v now)

  abbrev pub does_declaration : DeclareKind → List PlainDeclared → State → Outcome
  does_declaration kind [] s = leaves s
  does_declaration kind (d ∷ ds) s =
      declares kind d.variable d.value s >>= λ _. does_declaration kind ds

  -- ---- branches

  abbrev pub does_if : ℕ → ℕ → State → Outcome
  does_if test body s = ev test s >>= λ v. cond (is_truthy v) (ev body) leaves

  -- also of `test ? a : b`
  abbrev pub does_if_else : ℕ → ℕ → ℕ → State → Outcome
  does_if_else test a b s = ev test s >>= λ v. cond (is_truthy v) (ev a) (ev b)

  -- the right side only where the left one doesn't decide
  abbrev pub does_or : ℕ → ℕ → State → Outcome
  does_or a b s = ev a s >>= λ v. cond (is_truthy v) (gives v) (ev b)

  abbrev pub does_and : ℕ → ℕ → State → Outcome
  does_and a b s = ev a s >>= λ v. cond (is_truthy v) (ev b) (gives v)

  -- ---- loops

  -- the test of a loop; an absent one is true
  abbrev pub tests : Option ℕ → State → Outcome
  tests None s = gives (v.truth true) s
  tests (Some n) s = ev n s

  -- a part that may be absent
  abbrev pub perhaps : Option ℕ → State → Outcome
  perhaps None s = leaves s
  perhaps (Some n) s = ev n s

  -- an iteration: the test, the body, what comes between two iterations, and the loop again
  abbrev pub one_iteration : Option ℕ → ℕ → Option ℕ → (State → Outcome) → State → Outcome
  one_iteration test body next again s =
      tests test s >>= λ v. cond (is_truthy v)
      (λ now. after_iteration (ev body now) (λ later. perhaps next later >>= λ _. again)) leaves

  -- at most this many iterations
  abbrev pub iterations : ℕ → Option ℕ → ℕ → Option ℕ → State → Outcome
  iterations zero test body next s = spends s
  iterations (suc n) test body next s = one_iteration test body next (iterations n test body next) s

  -- an iteration for each element
  abbrev pub each : ℕ → ℕ → List PlainValue → State → Outcome
  each k body [] s = leaves s
  each k body (v ∷ vs) s = after_iteration (ev body (set_slot k (Some v) s)) (each k body vs)

  abbrev pub each_of : ℕ → ℕ → ℕ → PlainValue → State → Outcome
  each_of line k body (v.list vs) s = each k body (values_in vs) s
  each_of line k body _ s = breaks fault.Mistyped line s

  abbrev pub does_for_of : ℕ → ℕ → ℕ → ℕ → State → Outcome
  does_for_of line k items body s = ev items (undeclare (k ∷ []) s) >>= each_of line k body
