use Rattle.std.proofs.Common.{◌∙◌, sym, arith}
use Rattle.bp_reader.proofs.Walks.{behind_ends, behind_differs}
use Rattle.bp_reader.proofs.words.behind_word.Goals as goal
use Rattle.bp_reader.proofs.words.behind_word.Goals.{then-i-bytes-via-then-i-bytes, then-i-bytes-via-else-i-bytes+then-bytes-i}

pub returns-then-i-bytes : goal.returns-then-i-bytes
returns-then-i-bytes c = elim c.then-i-bytes.branch [
  | then-i-bytes-via-then-i-bytes w ↦ sym (c.loop-i.invariant.rest ∙ behind_ends c.loop-i.i c.args.word.now c.args.bytes.now (omega arith) (omega arith))
  | then-i-bytes-via-else-i-bytes+then-bytes-i w ↦ sym (c.loop-i.invariant.rest ∙ behind_differs c.loop-i.i c.args.word.now c.args.bytes.now (omega arith) (omega (arith, w.if-i-bytes)) w.if-bytes-i.true)
]
