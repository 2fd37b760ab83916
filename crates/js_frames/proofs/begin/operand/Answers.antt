use Rattle.std.proofs.Common.{sym, ap}
use Rattle.js_frames.specs.inner.Leads.{operand_frame}
use Rattle.js_frames.proofs.BeginLemmas.{operand_other}
use Rattle.js_frames.proofs.begin.operand.Goals as goal

pub returns-in-Or : goal.returns-in-Or
returns-in-Or c = ap (λ o. operand_frame o c.args.right c.args.number) (sym c.in-Or.is)

pub returns-in-And : goal.returns-in-And
returns-in-And c = ap (λ o. operand_frame o c.args.right c.args.number) (sym c.in-And.is)

pub returns-in_default : goal.returns-in_default
returns-in_default c = operand_other c.args.operator c.args.right c.args.number c.in_default.not-Or c.in_default.not-And
