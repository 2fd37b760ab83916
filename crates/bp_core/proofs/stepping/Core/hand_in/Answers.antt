use Rattle.bp_core.proofs.Handing.{handed_at}
use Rattle.bp_core.proofs.stepping.Core.hand_in.Goals as goal

pub returns-clause-at : goal.returns-clause-at
returns-clause-at c = λ lent taken m h k.
    let r = handed_at c.args.self.now.arbiter lent c.args.jobs.items taken m h.at k in
    (r.0, record { whole = h.whole; at = r.1 })
