use Rattle.std.proofs.Common.{ap, ◌∙◌, map}
use Rattle.std.specs.Prelude.{unwrap_or}
use Rattle.js_value.specs.Value as v
use Rattle.js_value.specs.Lists.{value_list_of}
use Rattle.js_value.specs.Views.{plain_value}
use Rattle.js_ops.specs.Made.{made}
use Rattle.js_program.specs.PlainProgram.{PlainBody}
use Rattle.js_meaning.specs.State.{answered}
use Rattle.js_meaning.specs.Variables.{captured}
use Rattle.js_meaning.specs.Calls.{no_body}
use Rattle.js_frames.specs.Places.{plain_ground, place_of, state_at}
use Rattle.js_frames.proofs.Steps.{becomes_at_ok}
use Rattle.js_frames.proofs.engine.Engine.function.Goals as goal

pub returns-in-None : goal.returns-in-None
returns-in-None c =
    let old = place_of c.args.self.now in
    becomes_at_ok (plain_ground c.args.base.now) old _ _ c.made_function.result c.requires c.made_function.ensures (λ b.
    ap (λ l. answered c.args.line (made (v.function c.args.code (value_list_of (map plain_value l)))) (state_at old b)) c.new.ensures.items
    ∙ ap (λ o. answered c.args.line (made (v.function c.args.code (value_list_of (captured (let q : PlainBody = unwrap_or o no_body in q.captures) old.slots)))) (state_at old b)) c.in-None.ensures)

pub returns-in_ok-values-in-Some : goal.returns-in_ok-values-in-Some
returns-in_ok-values-in-Some c =
    let old = place_of c.args.self.now in
    becomes_at_ok (plain_ground c.args.base.now) old _ _ c.made_function-in-Some.result c.requires c.made_function-in-Some.ensures (λ b.
    ap (λ l. answered c.args.line (made (v.function c.args.code (value_list_of l))) (state_at old b)) c.in_ok-values-in-Some.ensures
    ∙ ap (λ ks. answered c.args.line (made (v.function c.args.code (value_list_of (captured ks old.slots)))) (state_at old b)) c.deref.ensures.value
    ∙ ap (λ o. answered c.args.line (made (v.function c.args.code (value_list_of (captured (let q : PlainBody = unwrap_or o no_body in q.captures) old.slots)))) (state_at old b)) c.in-Some.ensures)
