-- Which operator a token is.
use Rattle.std.specs.Prelude.{ℕ, nat_eq, Bool, false, List, [], ◌∷◌, Option, Some, None, is_some, if◌then◌else◌}
use Rattle.js_lexer.specs.declared.token.Token.{Token}
use Rattle.js_tree.specs.declared.tree.Operator.{Operator}
use Rattle.js_tree.specs.declared.tree.AssignOp.{AssignOp}
use Rattle.js_tree.specs.declared.tree.Sign.{Sign}
use Rattle.js_tree.specs.declared.tree.Step.{Step}
use Rattle.js_lexer.specs.declared.sort.Sort.{Sort}
use Rattle.js_grammar.specs.Sorts.{sort}

abbrev pub operator : Sort → Option Operator
operator Sort.Or = Some Operator.Or
operator Sort.And = Some Operator.And
operator Sort.Same = Some Operator.Same
operator Sort.NotSame = Some Operator.NotSame
operator Sort.Equal = Some Operator.Equal
operator Sort.NotEqual = Some Operator.NotEqual
operator Sort.Less = Some Operator.Less
operator Sort.LessOrEqual = Some Operator.LessOrEqual
operator Sort.Greater = Some Operator.Greater
operator Sort.GreaterOrEqual = Some Operator.GreaterOrEqual
operator Sort.Plus = Some Operator.Add
operator Sort.Minus = Some Operator.Subtract
operator Sort.Star = Some Operator.Multiply
operator Sort.Slash = Some Operator.Divide
operator Sort.Percent = Some Operator.Remainder
operator _ = None

-- the level of an operator, 0 for the tightest
abbrev pub level_of : Operator → ℕ
level_of Operator.Multiply = 0
level_of Operator.Divide = 0
level_of Operator.Remainder = 0
level_of Operator.Add = 1
level_of Operator.Subtract = 1
level_of Operator.Less = 2
level_of Operator.LessOrEqual = 2
level_of Operator.Greater = 2
level_of Operator.GreaterOrEqual = 2
level_of Operator.Same = 3
level_of Operator.NotSame = 3
level_of Operator.Equal = 3
level_of Operator.NotEqual = 3
level_of Operator.And = 4
level_of Operator.Or = 5

abbrev pub at_level : ℕ → Option Operator → Option Operator
at_level k None = None
at_level k (Some op) = if nat_eq (level_of op) k then Some op else None

-- the operator of the level that a token is
unfoldable pub operator_at : ℕ → Token → Option Operator
operator_at k t = at_level k (operator (sort t))

abbrev pub starts_operator : ℕ → List Token → Bool
starts_operator k [] = false
starts_operator k (t ∷ ts) = is_some (operator_at k t)

abbrev pub sort_sign : Sort → Option Sign
sort_sign Sort.Not = Some Sign.Not
sort_sign Sort.Minus = Some Sign.Minus
sort_sign Sort.Plus = Some Sign.Plus
sort_sign _ = None

unfoldable pub sign : Token → Option Sign
sign t = sort_sign (sort t)

abbrev pub sort_step : Sort → Option Step
sort_step Sort.Increment = Some Step.Increment
sort_step Sort.Decrement = Some Step.Decrement
sort_step _ = None

unfoldable pub step : Token → Option Step
step t = sort_step (sort t)

abbrev pub sort_assign : Sort → Option AssignOp
sort_assign Sort.Set = Some AssignOp.Set
sort_assign Sort.AddSet = Some AssignOp.Add
sort_assign Sort.SubtractSet = Some AssignOp.Subtract
sort_assign Sort.MultiplySet = Some AssignOp.Multiply
sort_assign Sort.DivideSet = Some AssignOp.Divide
sort_assign Sort.RemainderSet = Some AssignOp.Remainder
sort_assign _ = None

unfoldable pub assign_op : Token → Option AssignOp
assign_op t = sort_assign (sort t)
