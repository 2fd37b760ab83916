use Rattle.std.proofs.Common.{ap}
use Rattle.js_value.specs.Value as v
use Rattle.js_ops.specs.Made.{made}
use Rattle.js_meaning.specs.State.{answered}
use Rattle.js_frames.proofs.BecomesLemmas.{becomes_as}
use Rattle.js_frames.proofs.assigning.made_function.Goals as goal

pub returns : goal.returns
returns c = becomes_as _ _ c.answered.result (λ g s. ap (λ vs. answered c.args.line (made (v.function c.args.code vs)) s) c.in_ok-captured.ensures) (c.answered.ensures _ c.made.ensures.answer)
