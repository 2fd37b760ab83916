use Rattle.std.proofs.Common.{◌∙◌}
use Rattle.bp_roll.proofs.counts.Counts.make_room.Goals as goal

pub returns-in_err-push-clause-blocks : goal.returns-in_err-push-clause-blocks
returns-in_err-push-clause-blocks c = λ b. c.push.ensures.blocks b ∙ c.loop-place.invariant.blocks b

pub returns-clause-blocks : goal.returns-clause-blocks
returns-clause-blocks c = c.loop-place.invariant.blocks
