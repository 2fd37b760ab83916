use Rattle.js_data.specs.Views.{plain_data}
use Rattle.js_data.proofs.Same.{same_data-Decides}
use Rattle.js_data.proofs.data.are_equal.Goals as goal

pub returns-clause-equal : goal.returns-clause-equal
returns-clause-equal c = rw c.same_data.ensures (same_data-Decides (plain_data c.args.left.now) (plain_data c.args.right.now))
