use Rattle.std.proofs.Common.{◌≡◌, Some, Ok, refl, sym, ap, ◌∙◌, subst, arith}
use Rattle.js_value.specs.Value.{whole}
use Rattle.js_value.specs.Views.{plain_value}
use Rattle.js_ops.specs.Operators.{unary_of}
use Rattle.js_program.specs.PlainProgram.{PlainNode}
use Rattle.js_program.specs.Views.{plain_node_form}
use Rattle.js_frames.specs.Places.{plain_ground, place_of}
use Rattle.js_frames.specs.inner.Leads.{leaf_at, leaf_of}
use Rattle.js_frames.specs.inner.Giving.{value_by}
use Rattle.js_frames.proofs.Steps.{part_is}
use Rattle.js_frames.proofs.LeafLemmas.{leaf_gives}
use Rattle.js_frames.proofs.GivingLemmas.{gave_leaf, gave_unary, gave_left, gave_both}
use Rattle.js_frames.proofs.engine.Engine.+quick_value.Goals as goal

pub quick_value-requires : goal.quick_value-requires
quick_value-requires t c =
    let base = plain_ground c.args.base.now in
    let m = place_of c.args.self.now in
    (search arith, part_is base m c.args.number c.node_of.result.now c.node_of.ensures.node _ c.in-Unary.is c.node_of.ensures.parts 0 _ refl)

pub quick_value-requires-in-Binary : goal.quick_value-requires-in-Binary
quick_value-requires-in-Binary t c =
    let base = plain_ground c.args.base.now in
    let m = place_of c.args.self.now in
    (search arith, part_is base m c.args.number c.node_of.result.now c.node_of.ensures.node _ c.in-Binary.is c.node_of.ensures.parts 0 _ refl)

pub quick_value-requires-in-Binary-2 : goal.quick_value-requires-in-Binary-2
quick_value-requires-in-Binary-2 t c =
    let base = plain_ground c.args.base.now in
    let m = place_of c.args.self.now in
    (search arith, part_is base m c.args.number c.node_of.result.now c.node_of.ensures.node _ c.in-Binary.is c.node_of.ensures.parts 1 _ refl)

pub returns-in-Number : goal.returns-in-Number
returns-in-Number t c =
    let base = plain_ground c.args.base.now in
    let m = place_of c.args.self.now in
    gave_leaf base m c.args.number _ c.args.fuel
    (leaf_gives base m c.args.number (whole c.in-Number.n) (ap (leaf_of base m) c.node_of.ensures.node ∙ ap (λ f. leaf_at base m (plain_node_form f)) c.in-Number.is))
    (omega arith)

pub returns-in-Some-Whole : goal.returns-in-Some-Whole
returns-in-Some-Whole t c =
    let base = plain_ground c.args.base.now in
    let m = place_of c.args.self.now in
    gave_leaf base m c.args.number _ c.args.fuel
    (leaf_gives base m c.args.number (whole c.in-Some-Whole.n) (ap (leaf_of base m) c.node_of.ensures.node ∙ ap (λ f. leaf_at base m (plain_node_form f)) c.in-Read.is ∙ sym c.in-Some-Whole.ensures ∙ ap (λ x. Some (plain_value x)) c.in-Some-Whole.field-0-is))
    (omega arith)

pub returns-in_ok-signed-in-Unary : goal.returns-in_ok-signed-in-Unary
returns-in_ok-signed-in-Unary t c =
    let base = plain_ground c.args.base.now in
    let m = place_of c.args.self.now in
    let node = c.node_of.result.now in
    gave_unary base m c.args.number c.in-Unary.part node.line c.in-Unary.sign c.args.fuel c.in_ok-value-in-Unary.rest (plain_value c.in_ok-value-in-Unary.value) (plain_value c.in_ok-signed-in-Unary.signed)
    (c.node_of.ensures.node ∙ ap (λ f. let q : PlainNode = record { line = node.line; form = plain_node_form f } in Some q) c.in-Unary.is)
    (omega arith) c.in_ok-value-in-Unary.ensures
    (subst (λ u. unary_of u (plain_value c.in_ok-value-in-Unary.value) ≡ Ok (plain_value c.in_ok-signed-in-Unary.signed)) c.unary_for.ensures c.in_ok-signed-in-Unary.ensures)

pub returns-then-skips : goal.returns-then-skips
returns-then-skips t c =
    let base = plain_ground c.args.base.now in
    let m = place_of c.args.self.now in
    let node = c.node_of.result.now in
    gave_left base m c.args.number c.in-Binary.left c.in-Binary.right node.line c.in-Binary.operator c.args.fuel c.in_ok-first-in-Binary.between (plain_value c.in_ok-first-in-Binary.first)
    (c.node_of.ensures.node ∙ ap (λ f. let q : PlainNode = record { line = node.line; form = plain_node_form f } in Some q) c.in-Binary.is)
    (sym c.skips.ensures ∙ c.if-skips.true) (omega arith) c.in_ok-first-in-Binary.ensures

pub returns-in_ok-value-in-Binary : goal.returns-in_ok-value-in-Binary
returns-in_ok-value-in-Binary t c =
    let base = plain_ground c.args.base.now in
    let m = place_of c.args.self.now in
    let node = c.node_of.result.now in
    gave_both base m c.args.number c.in-Binary.left c.in-Binary.right node.line c.in-Binary.operator c.args.fuel c.in_ok-first-in-Binary.between c.in_ok-second-in-Binary.rest (plain_value c.in_ok-first-in-Binary.first) (plain_value c.in_ok-second-in-Binary.second) (plain_value c.in_ok-value-in-Binary.value)
    (c.node_of.ensures.node ∙ ap (λ f. let q : PlainNode = record { line = node.line; form = plain_node_form f } in Some q) c.in-Binary.is)
    (sym c.skips.ensures ∙ c.if-skips.false) (omega arith) c.in_ok-first-in-Binary.ensures c.in_ok-second-in-Binary.ensures
    (subst (λ o. value_by o (plain_value c.in_ok-first-in-Binary.first) (plain_value c.in_ok-second-in-Binary.second) ≡ Ok (plain_value c.in_ok-value-in-Binary.value)) c.op_for.ensures c.in_ok-value-in-Binary.ensures)
