use Rattle.std.proofs.Common.{◌≡◌, ◌-◌, ◌<◌, ap, length, subst, arith}
use Rattle.bp_select.specs.declared.answers.Choice.{Choice}
use Rattle.bp_select.specs.Answers.{IsWithin}
use Rattle.bp_floor.specs.inner.Desks.{PlainDesk}
use Rattle.bp_floor.proofs.desk.Desk.learn.Goals as goal

pub overflow_add-blocked : goal.overflow_add-blocked
overflow_add-blocked c =
    let low : c.in-External.place < length c.args.self.now.queue - c.args.self.now.front.blocked = subst (λ (x : Choice). IsWithin (length c.args.self.now.queue - c.args.self.now.front.blocked) x) c.in-External.is c.requires.within in
    let few = c.requires.few in
    let is = c.blocked.ensures in
    let same : c.self.inside.front.blocked ≡ c.args.self.now.front.blocked = ap (λ (x : PlainDesk). x.front.blocked) c.self.view_is in
    omega (arith, low, few, is, same)
