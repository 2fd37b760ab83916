use Rattle.std.proofs.Common.{◌++◌, ◌∙◌, ap, map, Some}
use Rattle.std.specs.Prelude.{fold, slice_set}
use Rattle.js_value.specs.Value.{undefined}
use Rattle.js_value.specs.Lists.{values_in}
use Rattle.js_program.specs.Views.{plain_body}
use Rattle.js_frames.proofs.GrowthLemmas.{slots_made}
use Rattle.js_frames.proofs.slots.Slots.of_call.Goals as goal

pub returns : goal.returns
returns c = slots_made (plain_body c.args.body.now) (values_in c.args.captured.now) c.args.args.now _ _ _ _ _ c.in_ok-slots.ensures
    (c.in_ok-push_all.ensures ∙ ap (λ vs. c.in_ok-slots.slots ++ map Some vs) c.in_ok-pad.ensures)
    (c.in_ok-push_copies.ensures ∙ ap (λ vs. c.push_all.new.self ++ map Some vs) c.as_slice.ensures.values)
    c.in_ok-fill.ensures (c.unset.ensures ∙ ap (fold (λ slots k. slice_set slots k (Some undefined)) c.fill.new.self) c.deref.ensures.value)
