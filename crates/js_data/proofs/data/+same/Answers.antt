use Rattle.std.proofs.Common.{sym, arith}
use Rattle.js_data.proofs.Same.{differ_by_length, fields_differ_by_length}
use Rattle.js_data.proofs.data.+same.Goals as goal

pub same_fields-returns-then-len : goal.same_fields-returns-then-len
same_fields-returns-then-len t c = sym (fields_differ_by_length c.args.left.now.items c.args.right.now.items (λ e. omega (arith, e)))

pub same_list-returns-then-len : goal.same_list-returns-then-len
same_list-returns-then-len t c = sym (differ_by_length c.args.left.now.items c.args.right.now.items (λ e. omega (arith, e)))
