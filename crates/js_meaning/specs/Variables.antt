-- Variables: slots and constants.
use Rattle.std.specs.Prelude.{ℕ, ◌+◌, ◌-◌, List, [], ◌∷◌, ◌++◌, length, take, replicate, map, fold, slice_get, slice_set, unwrap_or, option_map, Option, Some, None}
use Rattle.js_data.specs.declared.fault.Fault.TheVariants as fault
use Rattle.js_value.specs.Value.{PlainValue, undefined, function}
use Rattle.js_value.specs.Lists.{value_list_of}
use Rattle.js_program.specs.declared.node.Variable.{Variable}
use Rattle.js_program.specs.declared.node.Variable.TheVariants.{Slot, Constant}
use Rattle.js_program.specs.PlainProgram.{PlainBody, PlainConstant, of_function, undeclared, unset}
use Rattle.js_meaning.specs.State.{Ground, State, Outcome, breaks}

-- what stands in a slot, if it is declared
abbrev pub in_slot : ℕ → List (Option PlainValue) → Option PlainValue
in_slot k slots = unwrap_or (slice_get slots k) None

-- the value of a variable, if it is declared: a constant's is that of the constants so far, or of the ground
abbrev pub held : Ground → Variable → State → Option PlainValue
held base (Slot k) s = in_slot k s.slots
held base (Constant k) s = in_slot k (unwrap_or s.constants base.constants)

abbrev pub set_slot : ℕ → Option PlainValue → State → State
set_slot k v s = record s { slots = slice_set s.slots k v }

-- a declared variable gets its value; constants are declared by the top level alone
abbrev pub set_variable : Variable → PlainValue → State → State
set_variable (Slot k) v s = set_slot k (Some v) s
set_variable (Constant k) v s =
    record s { constants = option_map (λ cs. slice_set cs k (Some v)) s.constants }

-- as a block begins, its variables are not declared yet
abbrev pub undeclare : List ℕ → State → State
undeclare [] s = s
undeclare (k ∷ ks) s = undeclare ks (set_slot k None s)

-- goes on with the value; that of a variable that is not declared yet is the fault `early`
abbrev pub if_declared : ℕ → Option PlainValue → (PlainValue → State → Outcome) → State → Outcome
if_declared line None go s = breaks fault.Early line s
if_declared line (Some v) go s = go v s

-- ---- the slots of a call

-- as many values: further ones are dropped, and missing ones are undefined
abbrev pub padded : ℕ → List PlainValue → List PlainValue
padded count vs = take count vs ++ replicate (count - length vs) undefined

-- the parameters, the captured values, and the other variables: of these each `var` is undefined
abbrev pub slots_of_call : PlainBody → List PlainValue → List PlainValue → List (Option PlainValue)
slots_of_call body captured args =
    fold (λ slots k. slice_set slots k (Some undefined))
    (map Some (padded body.parameters args ++ captured) ++
    replicate (body.slots - (body.parameters + length captured)) None)
    body.vars

-- ---- functions and constants

-- the values that stand in these slots now; each is declared wherever a program that is accepted makes
-- a function
abbrev pub captured : List ℕ → List (Option PlainValue) → List PlainValue
captured ks slots = map (λ k. unwrap_or (in_slot k slots) undefined) ks

-- what a constant holds before the program runs
abbrev pub constant_start : PlainConstant → Option PlainValue
constant_start (of_function code) = Some (function code (value_list_of []))
constant_start undeclared = None
constant_start unset = Some undefined
