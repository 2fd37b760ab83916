-- What each expression does.
use Rattle.std.specs.Prelude.{ℕ, List, [], drop, Option, Some, None, Ok, Err}
use Rattle.js_data.specs.declared.fault.Fault.TheVariants as fault
use Rattle.js_tree.specs.declared.tree.Sign.{Sign}
use Rattle.js_tree.specs.declared.tree.Sign.TheVariants as sign
use Rattle.js_tree.specs.declared.tree.Step.{Step}
use Rattle.js_tree.specs.declared.tree.Step.TheVariants as step
use Rattle.js_tree.specs.declared.tree.Fix.{Fix}
use Rattle.js_tree.specs.declared.tree.Fix.TheVariants as fix
use Rattle.js_tree.specs.declared.tree.Operator.{Operator}
use Rattle.js_tree.specs.declared.tree.Operator.TheVariants as operator
use Rattle.js_tree.specs.declared.tree.AssignOp.{AssignOp}
use Rattle.js_tree.specs.declared.tree.AssignOp.TheVariants as assign_op
use Rattle.js_value.specs.Value as v
use Rattle.js_value.specs.Value.{PlainValue}
use Rattle.js_value.specs.Lists.{value_list_of}
use Rattle.js_value.specs.declared.op.Op.{Op}
use Rattle.js_value.specs.declared.op.Op.TheVariants as op
use Rattle.js_value.specs.declared.op.Unary.{Unary}
use Rattle.js_value.specs.declared.op.Unary.TheVariants as unary
use Rattle.js_value.specs.declared.op.Make.TheVariants as make
use Rattle.js_ops.specs.Made.{Answer, made}
use Rattle.js_ops.specs.Operators.{value_of, unary_of}
use Rattle.js_ops.specs.Members.{member_of, index_of}
use Rattle.js_ops.specs.Making.{make_of}
use Rattle.js_program.specs.PlainProgram as p
use Rattle.js_program.specs.PlainProgram.{PlainNodeForm}
use Rattle.js_meaning.specs.State.{Setting, State, broke, continued, returned, Outcome, went, ◌>>=◌, gives, leaves, breaks, answered}
use Rattle.js_meaning.specs.Variables.{in_slot, held, set_slot, if_declared, captured}
use Rattle.js_meaning.specs.Calls.{body_of, calls, calls_method}
use Rattle.js_meaning.specs.Forms.{argument, applies_form}

-- ---- the operators by their names in the value rules

abbrev pub unary_for : Sign → Unary
unary_for sign.Not = unary.Not
unary_for sign.Minus = unary.Minus
unary_for sign.Plus = unary.Plus

abbrev pub step_for : Step → Unary
step_for step.Increment = unary.Increment
step_for step.Decrement = unary.Decrement

-- `||` and `&&` have no rule of values, since they may leave their right side out
abbrev pub op_for : Operator → Option Op
op_for operator.Or = None
op_for operator.And = None
op_for operator.Same = Some op.Same
op_for operator.NotSame = Some op.NotSame
op_for operator.Equal = Some op.Equal
op_for operator.NotEqual = Some op.NotEqual
op_for operator.Less = Some op.Less
op_for operator.LessOrEqual = Some op.LessEqual
op_for operator.Greater = Some op.Greater
op_for operator.GreaterOrEqual = Some op.GreaterEqual
op_for operator.Add = Some op.Add
op_for operator.Subtract = Some op.Subtract
op_for operator.Multiply = Some op.Multiply
op_for operator.Divide = Some op.Divide
op_for operator.Remainder = Some op.Remainder

-- the operator of `op=`; `=` has none
abbrev pub op_before : AssignOp → Option Op
op_before assign_op.Set = None
op_before assign_op.Add = Some op.Add
op_before assign_op.Subtract = Some op.Subtract
op_before assign_op.Multiply = Some op.Multiply
op_before assign_op.Divide = Some op.Divide
op_before assign_op.Remainder = Some op.Remainder

-- the value by the rule of an operator; `||` and `&&`, which have none, do not come here
abbrev pub by_rule : Option Op → PlainValue → PlainValue → Answer
by_rule None x y = Err fault.Mistyped
by_rule (Some op) x y = value_of op x y

-- ---- changing a variable

-- the value is put into the slot
abbrev pub writes : ℕ → ℕ → Answer → State → Outcome
writes line k (Ok v) s = gives v (set_slot k (Some v) s)
writes line k (Err f) s = breaks f line s

-- the value of an update: `++x` gives the new one, `x++` the old one
abbrev pub updates : ℕ → Fix → ℕ → PlainValue → Answer → State → Outcome
updates line fix.Before k old new s = writes line k new s
updates line fix.After k old new s = writes line k new s >>= λ _. gives old

abbrev pub does_update : ℕ → Step → Fix → ℕ → State → Outcome
does_update line step fix k s =
    if_declared line (in_slot k s.slots) (λ v. updates line fix k v (unary_of (step_for step) v)) s

module _ (ev : ℕ → State → Outcome) where
  -- `x = e` looks at x after e, and `x op= e` reads x before e
  abbrev pub assigns : ℕ → Option Op → ℕ → ℕ → State → Outcome
  assigns line None k e s =
      ev e s >>= λ v now. if_declared line (in_slot k now.slots) (λ _. writes line k (Ok v)) now
  assigns line (Some op) k e s =
      if_declared line (in_slot k s.slots)
      (λ v now. ev e now >>= λ w. writes line k (value_of op v w)) s

-- ---- what comes of the values of all parts

module _ (g : Setting) (ev : ℕ → State → Outcome) where
  -- What a form does with the values of its parts, where it evaluates all of them in order. The forms
  -- that do otherwise are in `does`.
  abbrev pub combines : ℕ → PlainNodeForm → List PlainValue → State → Outcome
  combines line (p.number n) vs s = gives (v.whole n) s
  combines line (p.text text) vs s = answered line (made (v.text text)) s
  combines line (p.truth b) vs s = gives (v.truth b) s
  combines line p.null vs s = gives v.null s
  combines line p.undefined vs s = gives v.undefined s
  combines line (p.read x) vs s = if_declared line (held g.base x s) gives s
  combines line (p.function code) vs s =
      answered line
      (made (v.function code (value_list_of (captured (body_of g.base.program code).captures s.slots)))) s
  combines line (p.update step fix k) vs s = does_update line step fix k s
  combines line (p.list ns) vs s = answered line (make_of make.List vs []) s
  combines line (p.fields keys ns) vs s = answered line (make_of make.Fields vs keys) s
  combines line (p.member x word) vs s = answered line (member_of (argument 0 vs) word) s
  combines line (p.index x i) vs s = answered line (index_of (argument 0 vs) (argument 1 vs)) s
  combines line (p.call f arguments) vs s = calls g ev line (argument 0 vs) (drop 1 vs) s
  combines line (p.method x word arguments) vs s =
      calls_method g ev line word (argument 0 vs) (drop 1 vs) s
  combines line (p.builtin form arguments) vs s = applies_form g line form vs s
  combines line (p.floor_divide a b dropped) vs s =
      answered line (value_of op.FloorDivide (argument 0 vs) (argument 1 vs)) s
  combines line (p.unary sign e) vs s = answered line (unary_of (unary_for sign) (argument 0 vs)) s
  combines line (p.binary operator a b) vs s =
      answered line (by_rule (op_for operator) (argument 0 vs) (argument 1 vs)) s
  combines line p.break_of vs s = went broke s
  combines line p.continue_of vs s = went continued s
  combines line p.return_nothing vs s = went (returned v.undefined) s
  combines line (p.return_of e) vs s = went (returned (argument 0 vs)) s
  -- an expression as a statement, and `;`; the forms that do otherwise do not come here
  combines line _ vs s = leaves s
