use Rattle.std.proofs.Common.{◌≡◌, Some, Ok, sym, ap, ◌∙◌, subst}
use Rattle.js_value.specs.Views.{plain_value}
use Rattle.js_program.specs.PlainProgram.{PlainNode}
use Rattle.js_program.specs.Views.{plain_node_form}
use Rattle.js_frames.specs.Places.{Place, plain_ground, place_of}
use Rattle.js_frames.specs.inner.Giving.{value_by}
use Rattle.js_frames.specs.inner.Doing.{Did}
use Rattle.js_frames.proofs.DoingLemmas.{did_assign}
use Rattle.js_frames.proofs.engine.Engine.assign_at_once.Goals as goal

pub returns-clause-done : goal.returns-clause-done
returns-clause-done c = λ yes.
    let base = plain_ground c.args.base.now in
    let old : Place = place_of c.args.self.now in
    let node = c.args.node.now in
    subst (λ ss. Did base old c.args.number (record old { fuel = c.in-Some-quick_value.rest; slots = ss })) (sym c.set.ensures)
    (did_assign base old c.args.number node.line c.args.slot c.args.part old.fuel c.in-Some-quick_value.rest c.args.operator (plain_value c.in-Some.held.now) (plain_value c.in-Some-quick_value.value) (plain_value c.in-Some-value_by.new)
    (c.requires.node ∙ ap (λ f. let q : PlainNode = record { line = node.line; form = plain_node_form f } in Some q) c.requires.form)
    c.requires.room c.in-Some.ensures c.in-Some-quick_value.ensures
    (subst (λ o. value_by o (plain_value c.in-Some.held.now) (plain_value c.in-Some-quick_value.value) ≡ Ok (plain_value c.in-Some-value_by.new)) c.op_before.ensures c.in-Some-value_by.ensures))
