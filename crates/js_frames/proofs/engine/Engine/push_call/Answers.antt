use Rattle.std.proofs.Common.{ap, ◌∙◌, ◌++◌, ◌∷◌, []}
use Rattle.js_frames.specs.declared.frame.Frame.TheVariants.{Called}
use Rattle.js_frames.specs.Places.{place_of}
use Rattle.js_frames.proofs.engine.Engine.push_call.Goals as goal

pub returns : goal.returns
returns c =
    let m = place_of c.args.self.now in
    ap (λ st. record m { stack = st; slots = c.replace-callers.new.dest; calls = c.args.active }) (c.in_ok-push.ensures.items ∙ ap (λ q. m.stack ++ Called q m.calls ∷ []) c.replace-callers.ensures.value)
    ∙ ap (λ slots. record m { stack = m.stack ++ Called m.slots m.calls ∷ []; slots = slots; calls = c.args.active }) c.replace-callers.ensures.after
