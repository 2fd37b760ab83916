use Rattle.std.proofs.Common.{[], subst}
use Rattle.js_value.specs.declared.op.Make.TheVariants as make
use Rattle.js_ops.specs.Answers.{AnswersAs}
use Rattle.js_ops.specs.Making.{make_of}
use Rattle.js_frames.proofs.parts.made_list.Goals as goal

pub returns : goal.returns
returns c = subst (λ vs. AnswersAs (make_of make.List vs []) c.make_from.result) c.into_vec.ensures c.make_from.ensures
