use Rattle.std.proofs.Common.{◌+◌, ◌*◌}
use Rattle.test_syntax.proofs.trees.+shown.Given as goal

-- each call has less room, or the same room and a smaller part

abbrev pub decreases-expr : goal.decreases-expr
decreases-expr l = 16 * l.room + 1

abbrev pub decreases-stmt : goal.decreases-stmt
decreases-stmt l = 16 * l.room + 1

abbrev pub decreases-exprs : goal.decreases-exprs
decreases-exprs l = 16 * l.room + 2

abbrev pub decreases-fields : goal.decreases-fields
decreases-fields l = 16 * l.room + 2

abbrev pub decreases-declarators : goal.decreases-declarators
decreases-declarators l = 16 * l.room + 2

abbrev pub decreases-block : goal.decreases-block
decreases-block l = 16 * l.room + 2

abbrev pub decreases-push : goal.decreases-push
decreases-push l = 16 * l.room + 3

abbrev pub decreases-rest : goal.decreases-rest
decreases-rest l = 16 * l.room + 4

abbrev pub decreases-list : goal.decreases-list
decreases-list l = 16 * l.room + 5

abbrev pub decreases-start : goal.decreases-start
decreases-start l = 16 * l.room + 6

abbrev pub decreases-form : goal.decreases-form
decreases-form l = 16 * l.room + 8

abbrev pub decreases-stmt_form : goal.decreases-stmt_form
decreases-stmt_form l = 16 * l.room + 8
