-- A schedule for a list of records.
use Rattle.std.specs.Prelude.{ℕ, zero, suc, ◌+◌, Bool, true, false, List, [], ◌∷◌, ◌++◌, Option, Some, None, is_some, if◌then◌else◌}
use Rattle.bp_log.specs.Options.{PlainOptions}
use Rattle.bp_log.specs.declared.limits.TheConstants.{MOST_THREADS}
use Rattle.bp_log.specs.declared.item.Item.TheVariants as item
use Rattle.bp_log.specs.declared.record.Record.{Record}
use Rattle.bp_log.specs.declared.record.Record.TheVariants.{In, Bad, Eof, Sel, End}
use Rattle.bp_run.specs.Bodies.{Code}
use Rattle.bp_run.specs.Configuration.{Configuration}
use Rattle.bp_run.specs.Settling.{Body, Pair, turn, opening, initial, at_rest}
use Rattle.bp_run.specs.Story.{Next, next, stepped, after_record, is_over}
use Rattle.bp_run.specs.Story.Next.{Ends, Selects, Waits}
use Rattle.bp_steps.specs.declared.step.CoreStep.{CoreStep}
use Rattle.bp_steps.specs.declared.step.CoreStep.TheVariants.{Absorb, Pick, Slice, Seal}
use Rattle.bp_steps.specs.Steps.{bodies}

-- each of these jobs, the first of which has this number, to its outcome
abbrev pub slices_from : {O : Type 0} → ℕ → ℕ → List (Body O) → List CoreStep
slices_from budget i [] = []
slices_from budget i (b ∷ bs) = Slice i budget ∷ slices_from budget (suc i) bs

abbrev pub turn_steps : {O S : Type 0} → Code O S → ℕ → Pair O → List CoreStep
turn_steps code budget p = slices_from budget 0 (bodies code p) ++ Seal ∷ []

-- turn after turn until the pair is at rest; where it is not to be closed, a turn that comes to a
-- verdict is left out
unfoldable pub settling_in : {O S : Type 0} → Code O S → ℕ → Bool → ℕ → Pair O → List CoreStep
settling_in code budget closes zero p = []
settling_in code budget closes (suc turns) p =
    elim (at_rest p) [
      | true ↦ []
      | false ↦ elim closes [
        | true ↦ turn_steps code budget p ++ settling_in code budget true turns (turn code p)
        | false ↦ elim (is_some (turn code p).stand.verdict) [
          | true ↦ []
          | false ↦ turn_steps code budget p ++ settling_in code budget false turns (turn code p)
        ]
      ]
    ]

abbrev pub settling : {O S : Type 0} → Code O S → ℕ → Bool → Pair O → List CoreStep
settling code budget closes p = settling_in code budget closes (MOST_THREADS + 1) p

-- whether a record follows
abbrev pub goes_on : List Record → Bool
goes_on [] = false
goes_on (r ∷ rs) = true

abbrev pub picking : {O S : Type 0} → Code O S → ℕ → Configuration O → Next → List Record →
    List CoreStep
picking code budget c (Ends v) rs = Pick ∷ []
picking code budget c (Selects ch reached) rs =
    Pick ∷ settling code budget (goes_on rs) (stepped code c.stand ch.event ch.place reached)
picking code budget c Waits rs = Pick ∷ []

-- the steps of one record, and whether others follow
abbrev pub steps_of : {O S : Type 0} → Code O S → PlainOptions → Configuration O → Record →
    List Record → List CoreStep
steps_of code o c (In j e) rs = Absorb j (item.Offered e) ∷ []
steps_of code o c (Bad j n) rs = Absorb j (item.Bad n) ∷ []
steps_of code o c (Eof j) rs = Absorb j item.End ∷ []
steps_of code o c (Sel e) rs = picking code o.budget c (next code o c) rs
steps_of code o c (End v) rs = if is_over c then [] else Pick ∷ []

abbrev pub steps_on : {O : Type 0} → (Configuration O → List CoreStep) → Option (Configuration O) →
    List CoreStep
steps_on f None = []
steps_on f (Some c) = f c

unfoldable pub schedule_from : {O S : Type 0} → Code O S → PlainOptions → List Record →
    Configuration O → List CoreStep
schedule_from code o [] c = []
schedule_from code o (r ∷ rs) c =
    steps_of code o c r rs ++ steps_on (schedule_from code o rs) (after_record code o c r)

-- the steps that make these records
unfoldable pub schedule_of : {O S : Type 0} → Code O S → PlainOptions → List Record → List CoreStep
schedule_of code o records =
    settling code o.budget (goes_on records) opening
    ++ schedule_from code o records (initial code o.injectors)
