use Rattle.std.proofs.Common.{sym, ap, subst}
use Rattle.js_value.specs.Views.{plain_value}
use Rattle.js_ops.specs.Answers.{AnswersAs}
use Rattle.js_meaning.specs.Expressions.{by_rule}
use Rattle.js_frames.proofs.parts.by_rule.Goals as goal

pub returns-in-None : goal.returns-in-None
returns-in-None c = ap (λ o. by_rule o (plain_value c.args.left.now) (plain_value c.args.right.now)) c.in-None.is

pub returns-in-Some : goal.returns-in-Some
returns-in-Some c = subst (λ o. AnswersAs (by_rule o (plain_value c.args.left.now) (plain_value c.args.right.now)) c.apply_by.result) (sym c.in-Some.is) c.apply_by.ensures
