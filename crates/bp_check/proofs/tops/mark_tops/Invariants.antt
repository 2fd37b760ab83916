use Rattle.std.proofs.Common.{◌≤◌, length, drop}
use Rattle.js_program.specs.PlainProgram.{content_parts}
use Rattle.bp_check.specs.Tops.{numbers_in}
use Rattle.bp_check.specs.inner.Marks.{Marks}
use Rattle.bp_check.proofs.tops.mark_tops.Given as goal

abbrev pub invariant-loop-number : goal.invariant-loop-number
invariant-loop-number l = record {
  few : l.number ≤ length l.program.nodes;
  marks : Marks l.marks (numbers_in (content_parts l.program.top.content) l.number (drop l.number l.program.nodes));
}

abbrev pub decreases-loop-number : goal.decreases-loop-number
decreases-loop-number l = l.number
