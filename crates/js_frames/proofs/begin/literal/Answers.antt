use Rattle.std.proofs.Common.{ap}
use Rattle.js_value.specs.Value as v
use Rattle.js_ops.specs.Made.{made}
use Rattle.js_meaning.specs.State.{answered}
use Rattle.js_frames.proofs.BecomesLemmas.{becomes_as}
use Rattle.js_frames.proofs.begin.literal.Goals as goal

pub returns : goal.returns
returns c = becomes_as _ _ c.answered.result (λ g s. ap (λ x. answered c.args.line (made x) s) (ap v.text c.in_ok-shared.ensures.cases)) (c.answered.ensures _ c.made.ensures.answer)
