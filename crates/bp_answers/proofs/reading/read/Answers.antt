use Rattle.std.proofs.Common.{◌≡◌, List, length, Some, rules, subst, sym}
use Rattle.bp_log.specs.declared.record.Record.{Record}
use Rattle.bp_answers.proofs.ReadLemmas.{ReadSo, read_found}
use Rattle.bp_answers.proofs.reading.read.Goals as goal

pub loop-alloc-preserved : goal.loop-alloc-preserved
loop-alloc-preserved g c =
    let w = c.loop-alloc.invariant in
    let e = c.in-Ok-Some.ensures in
    let more : (c.args.number ≡ Some (length c.loop-alloc.records.items)) → ⊥ = search rules in
    let is : c.in-Ok-Some.field-0 ≡ Some c.in-Ok-Some.found = search rules in
    subst (λ (rs : List Record). ReadSo c.args.reader.now c.args.number rs c.next.new.self) (sym c.in_ok-push-in-Ok-Some.ensures.items)
    (read_found c.args.reader.now c.args.number c.loop-alloc.records.items c.loop-alloc.reader c.next.new.self c.in-Ok-Some.field-0 c.in-Ok-Some.found w more is (e.tells w.fresh) (e.stage w.fresh) (e.time w.fresh) e.kept e.counts)
