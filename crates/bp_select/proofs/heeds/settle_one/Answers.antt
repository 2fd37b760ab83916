use Rattle.std.proofs.Common.{map}
use Rattle.bp_live.specs.Lives.{live_of}
use Rattle.bp_select.proofs.HeedLemmas.{noted_when}
use Rattle.bp_select.proofs.heeds.settle_one.Goals as goal

pub returns-clause-noted : goal.returns-clause-noted
returns-clause-noted c = noted_when c.restate.result (map live_of c.args.live.now) c.in_ok-keys.keys.items c.restate.new.self c.args.number c.restate.ensures.noted c.in_ok-keys.ensures
