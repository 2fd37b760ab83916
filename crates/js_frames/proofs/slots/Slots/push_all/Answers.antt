use Rattle.std.proofs.Common.{◌∙◌, ap, length}
use Rattle.js_value.specs.Value.{undefined}
use Rattle.js_value.specs.Views.{plain_value}
use Rattle.js_frames.proofs.GrowthLemmas.{push_next}
use Rattle.std.proofs.lemmas.List.{length-set}
use Rattle.js_frames.proofs.slots.Slots.push_all.Goals as goal

pub loop-place-preserved : goal.loop-place-preserved
loop-place-preserved c = (
  push_next c.loop-place.self c.push.new.self c.loop-place.values c.put_out-value.new.self c.loop-place.place (plain_value c.put_out-value.result) undefined c.in_ok-push.ensures c.put_out-value.ensures.value c.put_out-value.ensures.rest ∙ c.loop-place.invariant.0,
  ap length c.put_out-value.ensures.rest ∙ length-set c.loop-place.values c.loop-place.place undefined ∙ c.loop-place.invariant.1,
)
