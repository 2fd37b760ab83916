use Rattle.std.proofs.Common.{arith}
use Rattle.bp_replay.proofs.Steps.{unread_above}
use Rattle.bp_replay.proofs.following.is_read.Goals as goal

pub returns-else-injector-injectors : goal.returns-else-injector-injectors
returns-else-injector-injectors c =
    unread_above c.args.arbiter.now c.args.injectors c.args.injector c.requires.count c.requires.there c.requires.rest (λ k. let low = c.if-injector-injectors.false in omega (arith, low, k))
