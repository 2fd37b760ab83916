use Rattle.std.proofs.Common.{◌∙◌, sym}
use Rattle.js_program.specs.Views.{plain_node}
use Rattle.bp_check.specs.Findings.{has_field}
use Rattle.bp_check.proofs.Marking.{any_here, any_later}
use Rattle.bp_check.proofs.methods.is_field.Goals as goal

pub returns-then-has_field : goal.returns-then-has_field
returns-then-has_field c =
    sym (c.loop-number.invariant.rest
    ∙ any_here (has_field c.args.word.now) c.args.program.now.nodes c.loop-number.number (plain_node c.node.result.now) c.node.ensures (sym c.has_field.ensures ∙ c.if-has_field.true))

pub loop-number-preserved : goal.loop-number-preserved
loop-number-preserved c = record {
  rest = c.loop-number.invariant.rest
      ∙ any_later (has_field c.args.word.now) c.args.program.now.nodes c.loop-number.number (plain_node c.node.result.now) c.node.ensures (sym c.has_field.ensures ∙ c.if-has_field.false);
}
