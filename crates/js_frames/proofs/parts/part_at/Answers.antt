use Rattle.std.proofs.Common.{sym, ap, ◌∙◌, ◌∷◌}
use Rattle.std.specs.Prelude.{slice_get}
use Rattle.js_program.specs.PlainProgram.{parts_of}
use Rattle.js_program.specs.Views.{plain_node_form}
use Rattle.js_frames.proofs.BeginLemmas.{long_only}
use Rattle.js_frames.proofs.parts.part_at.Goals as goal

pub returns-in-List : goal.returns-in-List
returns-in-List c = c.number_at.ensures.value ∙ ap (λ ns. slice_get ns c.args.place) c.deref.ensures.value ∙ ap (λ f. slice_get (parts_of (plain_node_form f)) c.args.place) (sym c.in-List.is)

pub returns-in-Fields : goal.returns-in-Fields
returns-in-Fields c = c.number_at-in-Fields.ensures.value ∙ ap (λ ns. slice_get ns c.args.place) c.deref-in-Fields.ensures.value ∙ ap (λ f. slice_get (parts_of (plain_node_form f)) c.args.place) (sym c.in-Fields.is)

pub returns-in-Builtin : goal.returns-in-Builtin
returns-in-Builtin c = c.number_at-in-Builtin.ensures.value ∙ ap (λ ns. slice_get ns c.args.place) c.deref-in-Builtin.ensures.value ∙ ap (λ f. slice_get (parts_of (plain_node_form f)) c.args.place) (sym c.in-Builtin.is)

pub returns-in-Call : goal.returns-in-Call
returns-in-Call c = c.behind_one.ensures ∙ ap (λ ns. slice_get (c.in-Call.first ∷ ns) c.args.place) c.deref-in-Call.ensures.value ∙ ap (λ f. slice_get (parts_of (plain_node_form f)) c.args.place) (sym c.in-Call.is)

pub returns-in-Method : goal.returns-in-Method
returns-in-Method c = c.behind_one-in-Method.ensures ∙ ap (λ ns. slice_get (c.in-Method.first ∷ ns) c.args.place) c.deref-in-Method.ensures.value ∙ ap (λ f. slice_get (parts_of (plain_node_form f)) c.args.place) (sym c.in-Method.is)

pub returns-in-FloorDivide : goal.returns-in-FloorDivide
returns-in-FloorDivide c = c.behind_two.ensures ∙ ap (λ ns. slice_get (c.in-FloorDivide.first ∷ c.in-FloorDivide.second ∷ ns) c.args.place) c.deref-in-FloorDivide.ensures.value ∙ ap (λ f. slice_get (parts_of (plain_node_form f)) c.args.place) (sym c.in-FloorDivide.is)

pub returns-in_default : goal.returns-in_default
returns-in_default c = absurd (long_only c.args.form.now c.requires c.in_default.not-List c.in_default.not-Fields c.in_default.not-Call c.in_default.not-Method c.in_default.not-Builtin c.in_default.not-FloorDivide)
