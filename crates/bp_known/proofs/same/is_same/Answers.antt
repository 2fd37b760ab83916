use Rattle.std.proofs.Common.{◌∙◌, Option, Some, option_map, ap, sym}
use Rattle.std.specs.Borrow.{Bor}
use Rattle.js_value.specs.Value.{PlainSet}
use Rattle.js_value.specs.declared.value.EventSet.{EventSet}
use Rattle.bp_known.proofs.Sameness.{same_set-sound}
use Rattle.bp_known.proofs.same.is_same.Goals as goal

pub returns-in-Some-Some-clause-equal : goal.returns-in-Some-Some-clause-equal
returns-in-Some-Some-clause-equal c = λ h.
    let a = c.in-Some-Some.a.now in
    let b = c.in-Some-Some.b.now in
    ap (λ (o : Option (Bor EventSet)). option_map (λ s. s.now) o) c.in-Some-Some.is-0
    ∙ ap (λ (s : PlainSet). Some s) (same_set-sound a b (sym c.same_set.ensures ∙ h))
    ∙ sym (ap (λ (o : Option (Bor EventSet)). option_map (λ s. s.now) o) c.in-Some-Some.is-1)
