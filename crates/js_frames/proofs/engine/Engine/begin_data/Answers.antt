use Rattle.std.proofs.Common.{Some, refl, sym, ap, ◌∙◌, arith}
use Rattle.std.specs.Prelude.{option_map}
use Rattle.js_value.specs.Views.{plain_value}
use Rattle.js_program.specs.PlainProgram.{PlainNode}
use Rattle.js_program.specs.Views.{plain_node_form}
use Rattle.js_frames.specs.Places.{plain_ground, place_of}
use Rattle.js_frames.proofs.Steps.{part_is}
use Rattle.js_frames.proofs.MemberLemmas.{data_given}
use Rattle.js_frames.proofs.engine.Engine.begin_data.Goals as goal

pub leaf_value-requires : goal.leaf_value-requires
leaf_value-requires c = part_is (plain_ground c.args.base.now) (place_of c.args.self.now) c.args.part c.node_of.result.now c.node_of.ensures.node _ c.in-Member.is c.node_of.ensures.parts 0 _ refl

pub returns-in-Some-Event-clause-some : goal.returns-in-Some-Event-clause-some
returns-in-Some-Event-clause-some c =
    let node = c.node_of.result.now in
    data_given (plain_ground c.args.base.now) (place_of c.args.self.now) c.args.part _ node.line _ _
    (c.node_of.ensures.node ∙ ap (λ f. let q : PlainNode = record { line = node.line; form = plain_node_form f } in Some q) c.in-Member.is)
    (sym c.is_data.ensures ∙ c.if-not-is_data.false)
    (sym c.in_ok-found.ensures ∙ ap (option_map plain_value) c.in-Some-Event.is ∙ ap (λ x. Some (plain_value x)) c.in-Some-Event.field-0-is)
    (omega arith)
