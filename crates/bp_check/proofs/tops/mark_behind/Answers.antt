use Rattle.std.proofs.Common.{◌∙◌, sym, arith}
use Rattle.js_program.specs.Views.{plain_node}
use Rattle.bp_check.proofs.Marking.{marked_parts, unmarked}
use Rattle.bp_check.proofs.tops.mark_behind.Goals as goal

pub returns-then-is_marked : goal.returns-then-is_marked
returns-then-is_marked c = λ begun marks.
    let there = c.requires.number in
    let many = c.requires.many in
    marked_parts begun c.args.number c.args.program.now.nodes (plain_node c.node-node.result.now) c.args.marks.now c.mark_parts.new.marks c.node-node.ensures (omega (arith, there, many))
    c.mark_parts.auto.marks (sym c.is_marked.ensures ∙ c.if-is_marked.true) c.mark_parts.ensures marks

pub returns-else-is_marked : goal.returns-else-is_marked
returns-else-is_marked c = λ begun marks.
    let there = c.requires.number in
    let many = c.requires.many in
    unmarked begun c.args.number c.args.program.now.nodes (plain_node c.node-node.result.now) c.args.marks.now c.node-node.ensures (omega (arith, there, many))
    (sym c.is_marked.ensures ∙ c.if-is_marked.false) marks
