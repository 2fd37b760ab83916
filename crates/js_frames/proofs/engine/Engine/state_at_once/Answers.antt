use Rattle.std.proofs.Common.{Some, refl, ap, ◌∙◌, arith}
use Rattle.js_program.specs.PlainProgram.{PlainNode}
use Rattle.js_program.specs.Views.{plain_node_form}
use Rattle.js_frames.specs.Places.{Place, plain_ground, place_of}
use Rattle.js_frames.proofs.Steps.{part_is}
use Rattle.js_frames.proofs.DoingLemmas.{did_expression}
use Rattle.js_frames.proofs.AlongLemmas.{fuel_back}
use Rattle.js_frames.proofs.engine.Engine.state_at_once.Goals as goal

pub do_at_once-requires : goal.do_at_once-requires
do_at_once-requires c = part_is (plain_ground c.args.base.now) (place_of c.args.self.now) c.args.number c.node_of-node.result.now c.node_of-node.ensures.node _ c.in-Expression.is c.node_of-node.ensures.parts 0 _ refl

pub returns-then-do_at_once-clause-done : goal.returns-then-do_at_once-clause-done
returns-then-do_at_once-clause-done c = λ yes.
    let old : Place = place_of c.args.self.now in
    let node = c.node_of-node.result.now in
    did_expression (plain_ground c.args.base.now) old c.args.number node.line c.in-Expression.part old.fuel (place_of c.do_at_once.new.self)
    (c.node_of-node.ensures.node ∙ ap (λ f. let q : PlainNode = record { line = node.line; form = plain_node_form f } in Some q) c.in-Expression.is)
    (omega arith) (c.do_at_once.ensures.done c.if-do_at_once.true)

pub returns-else-do_at_once-clause-none : goal.returns-else-do_at_once-clause-none
returns-else-do_at_once-clause-none c = λ no.
    fuel_back (place_of c.args.self.now) (place_of c.do_at_once.new.self) (omega arith) (c.do_at_once.ensures.none c.if-do_at_once.false)
