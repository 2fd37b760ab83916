use Rattle.std.proofs.Common.{◌∙◌, ap}
use Rattle.bp_draw.specs.Draws.{PlainDraw}
use Rattle.bp_arbiter.proofs.Standing.{opened_is, opened_sound, opened_stands}
use Rattle.bp_arbiter.proofs.arbiter.Arbiter.open.Goals as goal

pub invariant_of-result : goal.invariant_of-result
invariant_of-result c =
    opened_sound c.args.program c.args.options c.new.result.seed _
    (opened_is c.args.program c.args.options c.in_ok-open.field-0 c.new.result.drawn c.injectors.result c.in_ok-below.field-0 c.new-2.result.items c.in_ok-open.ensures (ap (λ (d : PlainDraw). d.drawn) c.new.ensures)
    c.in_ok-below.ensures c.injectors.ensures.injectors c.new-2.ensures.items)
    (ap (λ (d : PlainDraw). d.seed) c.new.ensures ∙ c.seed.ensures)

pub returns-clause-stands : goal.returns-clause-stands
returns-clause-stands c =
    opened_stands c.args.program c.args.options _
    (opened_is c.args.program c.args.options c.in_ok-open.field-0 c.new.result.drawn c.injectors.result c.in_ok-below.field-0 c.new-2.result.items c.in_ok-open.ensures (ap (λ (d : PlainDraw). d.drawn) c.new.ensures)
    c.in_ok-below.ensures c.injectors.ensures.injectors c.new-2.ensures.items)
