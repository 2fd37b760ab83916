use Rattle.std.proofs.Common.{◌∙◌, sym, Some, None}
use Rattle.bp_log.proofs.Complete.{verdict_last}
use Rattle.bp_log.proofs.record.verdict_of.Goals as goal

pub returns-in-Some : goal.returns-in-Some
returns-in-Some c = c.verdict.ensures ∙ sym (verdict_last c.args.records.now (Some c.in-Some.last.now) c.in-Some.ensures.value)

pub returns-in-None : goal.returns-in-None
returns-in-None c = sym (verdict_last c.args.records.now None c.in-None.ensures.value)
