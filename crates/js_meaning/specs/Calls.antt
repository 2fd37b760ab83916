-- Statements in order, arguments in order, and calls of functions.
use Rattle.std.specs.Prelude.{ℕ, suc, ◌+◌, pos, cond, nat_lt, List, [], ◌∷◌, ◌++◌, slice_get, unwrap_or, Option, Some, None, codes}
use Rattle.std.specs.Str.{bytes_eq}
use Rattle.js_data.specs.declared.fault.Fault.TheVariants as fault
use Rattle.js_value.specs.Value as v
use Rattle.js_value.specs.Value.{PlainValue, ValueList}
use Rattle.js_value.specs.Lists.{values_in}
use Rattle.js_value.specs.declared.op.Method.{Method}
use Rattle.js_ops.specs.Members.{field_or_undefined}
use Rattle.js_ops.specs.Methods.{method_named, method_of}
use Rattle.js_program.specs.PlainProgram.{PlainProgram, PlainBody, PlainContent, statements, one_value}
use Rattle.js_meaning.specs.declared.limits.TheConstants.{MOST_CALLS}
use Rattle.js_meaning.specs.State.{Setting, State, Completion, returned, Outcome, went, ◌>>=◌, gives, leaves, breaks, answered}
use Rattle.js_meaning.specs.Variables.{slots_of_call}

-- a function of a number that no function has does nothing
abbrev pub no_body : PlainBody
no_body =
    record { parameters = 0; slots = 0; captures = []; vars = []; content = statements []; line = 0 }

abbrev pub body_of : PlainProgram → ℕ → PlainBody
body_of p code = unwrap_or (slice_get p.functions code) no_body

-- a function that ends without `return` answers undefined
abbrev pub answer_of : Completion → PlainValue
answer_of (returned v) = v
answer_of _ = v.undefined

-- after a call the caller's variables are there again, and as many calls are active as before
abbrev pub after_call : List (Option PlainValue) → ℕ → Outcome → Outcome
after_call slots active (went c s) = gives (answer_of c) (record s { slots = slots; calls = active })
after_call slots active o = o

-- a method that calls nothing
abbrev pub applies : ℕ → Option Method → PlainValue → List PlainValue → State → Outcome
applies line None x args s = breaks fault.Mistyped line s
applies line (Some m) x args s = answered line (method_of m x args) s

-- `ev` gives what a part does
module _ (ev : ℕ → State → Outcome) where
  -- statements in order
  abbrev pub sequence : List ℕ → State → Outcome
  sequence [] s = leaves s
  sequence (n ∷ ns) s = ev n s >>= λ _. sequence ns

  -- the values of these parts, in order, after those that are done; then the rest
  abbrev pub in_order : List ℕ → List PlainValue → (List PlainValue → State → Outcome) → State → Outcome
  in_order [] done rest s = rest done s
  in_order (n ∷ ns) done rest s = ev n s >>= λ v. in_order ns (done ++ v ∷ []) rest

  abbrev pub runs : PlainContent → State → Outcome
  runs (statements ns) s = sequence ns s
  runs (one_value n) s = ev n s >>= λ v. went (returned v)

  -- a body with these captured values and arguments, while this many calls are active
  abbrev pub enters : ℕ → PlainBody → List PlainValue → List PlainValue → State → Outcome
  enters active body captured args s =
      after_call s.slots s.calls
      (runs body.content (record s { slots = slots_of_call body captured args; calls = active }))

module _ (g : Setting) (ev : ℕ → State → Outcome) where
  -- a call of a value: what is no function can't be called, and neither can one more than may be active
  abbrev pub calls : ℕ → PlainValue → List PlainValue → State → Outcome
  calls line (v.function code captured) args s =
      cond (nat_lt s.calls MOST_CALLS)
      (enters ev (s.calls + 1) (body_of g.base.program code) (values_in captured) args)
      (breaks fault.Depth line) s
  calls line _ args s = breaks fault.Mistyped line s

  -- `forEach`: the function is called with each element, its index and the list
  abbrev pub for_each_from : ℕ → PlainValue → PlainValue → ℕ → List PlainValue → State → Outcome
  for_each_from line f items index [] s = leaves s
  for_each_from line f items index (x ∷ xs) s =
      calls line f (x ∷ v.whole (pos index) ∷ items ∷ []) s >>= λ _.
      for_each_from line f items (suc index) xs

  abbrev pub for_each_call : ℕ → ValueList → List PlainValue → State → Outcome
  for_each_call line xs (v.function code captured ∷ others) s =
      for_each_from line (v.function code captured) (v.list xs) 0 (values_in xs) s
  for_each_call line xs _ s = breaks fault.Mistyped line s

  -- `x.word(args)`
  abbrev pub calls_method : ℕ → List ℕ → PlainValue → List PlainValue → State → Outcome
  calls_method line word (v.fields fs) args s = calls line (field_or_undefined fs word) args s
  calls_method line word (v.list xs) args s =
      cond (bytes_eq word (codes "forEach")) (for_each_call line xs args)
      (applies line (method_named word) (v.list xs) args) s
  calls_method line word x args s = applies line (method_named word) x args s
