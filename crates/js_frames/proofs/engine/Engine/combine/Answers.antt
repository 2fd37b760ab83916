use Rattle.std.proofs.Common.{sym, ap, ◌∙◌, map}
use Rattle.std.specs.Arc.{arc_value}
use Rattle.js_program.specs.Views.{plain_node_form}
use Rattle.js_meaning.specs.Expressions.{combines}
use Rattle.js_meaning.specs.Meaning.{eval}
use Rattle.js_frames.specs.Places.{plain_ground, place_of, here}
use Rattle.js_value.specs.declared.op.Make.TheVariants as make
use Rattle.js_ops.specs.Making.{make_of}
use Rattle.js_meaning.specs.State.{answered}
use Rattle.js_frames.proofs.Steps.{means_ok, becomes_ok}
use Rattle.js_frames.proofs.BeginLemmas.{long_only}
use Rattle.js_frames.proofs.engine.Engine.combine.Goals as goal

pub returns-in-List : goal.returns-in-List
returns-in-List c = becomes_ok (plain_ground c.args.base.now) (place_of c.args.self.now) _ _ c.answered.result c.requires.fits (c.answered.ensures _ c.made_list.ensures) (λ s. ap (λ f. combines (here c.args.base.now c.args.self.now) (eval (here c.args.base.now c.args.self.now)) (let n = c.args.node.now in n.line) (plain_node_form f) c.args.done s) (sym c.in-List.is))

pub returns-in-Fields : goal.returns-in-Fields
returns-in-Fields c = becomes_ok (plain_ground c.args.base.now) (place_of c.args.self.now) _ _ c.answered-in-Fields.result c.requires.fits (c.answered-in-Fields.ensures _ c.made_fields.ensures) (λ s. ap (λ ks. answered (let n = c.args.node.now in n.line) (make_of make.Fields c.args.done (map arc_value ks)) s) c.deref.ensures.value ∙ ap (λ f. combines (here c.args.base.now c.args.self.now) (eval (here c.args.base.now c.args.self.now)) (let n = c.args.node.now in n.line) (plain_node_form f) c.args.done s) (sym c.in-Fields.is))

pub returns-in-Call : goal.returns-in-Call
returns-in-Call c = means_ok (plain_ground c.args.base.now) _ _ _ _ c.combine_call.result c.combine_call.ensures (λ s. ap (λ f. combines (here c.args.base.now c.args.self.now) (eval (here c.args.base.now c.args.self.now)) (let n = c.args.node.now in n.line) (plain_node_form f) c.args.done s) (sym c.in-Call.is))

pub combine_call-requires : goal.combine_call-requires
combine_call-requires c = c.requires.fits

pub returns-in-Method : goal.returns-in-Method
returns-in-Method c = means_ok (plain_ground c.args.base.now) _ _ _ _ c.combine_method.result c.combine_method.ensures (λ s. ap (λ f. combines (here c.args.base.now c.args.self.now) (eval (here c.args.base.now c.args.self.now)) (let n = c.args.node.now in n.line) (plain_node_form f) c.args.done s) (sym c.in-Method.is))

pub combine_method-requires : goal.combine_method-requires
combine_method-requires c = c.requires.fits

pub returns-in-Builtin : goal.returns-in-Builtin
returns-in-Builtin c = means_ok (plain_ground c.args.base.now) _ _ _ _ c.apply_form.result c.apply_form.ensures (λ s. ap (λ f. combines (here c.args.base.now c.args.self.now) (eval (here c.args.base.now c.args.self.now)) (let n = c.args.node.now in n.line) (plain_node_form f) c.args.done s) (sym c.in-Builtin.is))

pub apply_form-requires : goal.apply_form-requires
apply_form-requires c = c.requires.fits

pub returns-in-FloorDivide : goal.returns-in-FloorDivide
returns-in-FloorDivide c = means_ok (plain_ground c.args.base.now) _ _ _ _ c.floor_divide.result c.floor_divide.ensures (λ s. ap (λ f. combines (here c.args.base.now c.args.self.now) (eval (here c.args.base.now c.args.self.now)) (let n = c.args.node.now in n.line) (plain_node_form f) c.args.done s) (sym c.in-FloorDivide.is))

pub floor_divide-requires : goal.floor_divide-requires
floor_divide-requires c = c.requires.fits

pub unreachable-unreachable : goal.unreachable-unreachable
unreachable-unreachable c = long_only (let n = c.args.node.now in n.form) c.requires.form c.in_default.not-List c.in_default.not-Fields c.in_default.not-Call c.in_default.not-Method c.in_default.not-Builtin c.in_default.not-FloorDivide
