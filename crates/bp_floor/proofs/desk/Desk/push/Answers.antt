use Rattle.std.proofs.Common.{sym, subst}
use Rattle.bp_floor.specs.inner.Desks.{PlainDesk, Fits}
use Rattle.bp_floor.proofs.Settled.{fits_pushed}
use Rattle.bp_floor.proofs.desk.Desk.push.Goals as goal

pub returns-clause-fits : goal.returns-clause-fits
returns-clause-fits c = λ base budget f.
    let d : PlainDesk = record { bench = c.self.inside.bench; queue = c.self.inside.queue; front = c.self.inside.front } in
    fits_pushed base budget d c.push.new.self c.args.event c.push.result c.self.invariant c.push.ensures.pushed c.push.ensures.failed (subst (λ (x : PlainDesk). Fits x base budget) (sym c.self.view_is) f)
