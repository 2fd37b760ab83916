use Rattle.std.proofs.Common.{rules}
use Rattle.js_data.proofs.SameEvent.{decides_same}
use Rattle.js_data.proofs.event.Event.same.Goals as goal

pub returns-then-same-clause-equal : goal.returns-then-same-clause-equal
returns-then-same-clause-equal c = decides_same c.same_extra.result c.args.self.now c.args.other.now (search rules)
