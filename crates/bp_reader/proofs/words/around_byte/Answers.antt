use Rattle.std.proofs.Common.{◌≡◌, ◌+◌, ◌-◌, ◌∙◌, sym, ap, arith, take, drop, length, suc, Some, List, ℕ, length-drop}
use Rattle.std.proofs.lemmas.List.{take_all}
use Rattle.bp_reader.proofs.Walks.{around_here, around_more, around_nowhere}
use Rattle.bp_reader.proofs.words.around_byte.Goals as goal

pub returns-then-bytes-i : goal.returns-then-bytes-i
returns-then-bytes-i c =
    let same : c.loop-i.i + 1 ≡ suc c.loop-i.i = omega arith in
    let all : take (length c.args.bytes.now - (c.loop-i.i + 1)) (drop (c.loop-i.i + 1) c.args.bytes.now) ≡ drop (c.loop-i.i + 1) c.args.bytes.now =
    take_all _ _ (omega (arith, length-drop (c.loop-i.i + 1) c.args.bytes.now)) in
    ap (λ (t : List ℕ). Some (take c.loop-i.i c.args.bytes.now, t)) (all ∙ ap (λ n. drop n c.args.bytes.now) same)
    ∙ sym (around_here c.args.byte c.loop-i.i c.args.bytes.now c.loop-i.invariant.rest (omega arith) c.if-bytes-i.true)

pub loop-i-preserved : goal.loop-i-preserved
loop-i-preserved c =
    let same : c.loop-i.i + 1 ≡ suc c.loop-i.i = omega arith in
    record { rest = rw same (around_more c.args.byte c.loop-i.i c.args.bytes.now c.loop-i.invariant.rest (omega arith) c.if-bytes-i.false) }

pub returns : goal.returns
returns c = sym (around_nowhere c.args.byte c.loop-i.i c.args.bytes.now c.loop-i.invariant.rest (omega arith))
