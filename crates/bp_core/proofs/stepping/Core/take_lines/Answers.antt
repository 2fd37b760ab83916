use Rattle.bp_core.proofs.Handing.{retaken}
use Rattle.bp_core.proofs.stepping.Core.take_lines.Goals as goal

pub returns-clause-at : goal.returns-clause-at
returns-clause-at c = λ lent taken m h.
    let e = c.take_lines.ensures in
    record {
      whole = h.whole;
      at = retaken c.args.self.now.arbiter c.take_lines.new.self lent taken c.take_lines.result m e.ground e.options e.records e.phase e.stands h.at;
    }
