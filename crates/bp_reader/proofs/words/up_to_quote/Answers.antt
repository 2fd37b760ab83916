use Rattle.std.proofs.Common.{◌≡◌, ◌+◌, ◌-◌, ◌∙◌, sym, ap, ap₂, arith, take, drop, length, suc, Some, List, ℕ, length-drop}
use Rattle.std.proofs.lemmas.List.{take_all}
use Rattle.bp_reader.proofs.Walks.{quote_marked, quote_more, quote_nowhere}
use Rattle.bp_reader.proofs.words.up_to_quote.Goals as goal

pub returns-then-mark : goal.returns-then-mark
returns-then-mark c =
    let same : c.loop-i.i + 1 ≡ suc c.loop-i.i = omega arith in
    let all : take (length c.args.bytes.now - (c.loop-i.i + 1)) (drop (c.loop-i.i + 1) c.args.bytes.now) ≡ drop (c.loop-i.i + 1) c.args.bytes.now =
    take_all _ _ (omega (arith, length-drop (c.loop-i.i + 1) c.args.bytes.now)) in
    ap₂ (λ (t u : List ℕ). Some (t, u)) (ap (λ n. take n c.args.bytes.now) same) (all ∙ ap (λ n. drop n c.args.bytes.now) same)
    ∙ sym (quote_marked c.loop-i.escaped c.loop-i.i c.args.bytes.now c.loop-i.invariant.rest (omega arith) c.if-mark.true)

pub loop-i-preserved : goal.loop-i-preserved
loop-i-preserved c =
    let same : c.loop-i.i + 1 ≡ suc c.loop-i.i = omega arith in
    record { rest = rw same (quote_more c.loop-i.escaped c.loop-i.i c.args.bytes.now c.loop-i.invariant.rest (omega arith) c.if-mark.false) }

pub returns : goal.returns
returns c = sym (quote_nowhere c.loop-i.escaped c.loop-i.i c.args.bytes.now c.loop-i.invariant.rest (omega arith))
