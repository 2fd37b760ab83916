use Rattle.std.proofs.Common.{◌∙◌}
use Rattle.js_meaning.specs.Variables.{constant_start}
use Rattle.js_frames.proofs.GrowthLemmas.{moved_next}
use Rattle.js_frames.proofs.slots.constants_start.Goals as goal

pub loop-number-preserved : goal.loop-number-preserved
loop-number-preserved c = moved_next constant_start c.loop-number.constants c.push.new.self _ c.loop-number.number _ _ c.in_ok-push.ensures c.constant.ensures c.in_ok-value.ensures ∙ c.loop-number.invariant
