use Rattle.std.proofs.Common.{◌∙◌, ap, sym, subst, Some}
use Rattle.std.specs.Slice.{IsItemAt}
use Rattle.js_names.specs.Slots.{holds_all, inside}
use Rattle.js_names.specs.Views.{mention_of}
use Rattle.js_names.proofs.HeldLemmas.{made_captures}
use Rattle.js_names.proofs.holdings.is_made.Goals as goal

pub returns : goal.returns
returns c = λ t.
    let d = c.in-Some.declared in
    let found : IsItemAt c.args.before.now c.in-Some-get.at.now (Some c.in-Some-get-2.earlier) = subst (λ r. IsItemAt c.args.before.now c.in-Some-get.at.now r) c.in-Some-get-2.is c.get-2.ensures.lookup in (
      c.in-Some-get.at.now,
      c.in-Some-get-2.earlier.now,
      found.3.0,
      found.1,
      c.makes.ensures t
          ∙ (ap (λ fs. holds_all d.offset (inside d.owner fs)) (c.as_slice.ensures.value ∙ ap (λ v. v.items) c.deref.ensures)
          ∙ made_captures c.args.assigned.now.keys (mention_of c.args.mention.now) d c.in-Some.is (sym c.copies.ensures ∙ c.if-copies.true)),
    )
