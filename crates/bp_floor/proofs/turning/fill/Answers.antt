use Rattle.std.proofs.Common.{◌∙◌, sym}
use Rattle.bp_floor.proofs.ReturnLemmas.{filled_ended, filled_not}
use Rattle.bp_floor.proofs.turning.fill.Goals as goal

pub returns-then-has_ended-clause-filled : goal.returns-then-has_ended-clause-filled
returns-then-has_ended-clause-filled c = filled_ended c.args.job c.constants.result _ _ c.constants.ensures c.fill.ensures

pub returns-else-has_ended-clause-filled : goal.returns-else-has_ended-clause-filled
returns-else-has_ended-clause-filled c = filled_not c.args.job _ (sym c.has_ended.ensures ∙ c.if-has_ended.false)
