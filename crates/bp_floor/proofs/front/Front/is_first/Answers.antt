use Rattle.std.proofs.Common.{◌≡◌, ◌<◌, ◌∙◌, ◌∷◌, [], List, length, get_or, sym, ap, arith}
use Rattle.std.proofs.lemmas.Option.{same_Some}
use Rattle.bp_floor.specs.inner.Desks.{PlainFront}
use Rattle.bp_floor.proofs.front.Front.is_first.Goals as goal

begins_with : {A : Type 0} (xs : List A) (x y : A) → 0 < length xs → x ≡ get_or xs 0 x → x ≡ y → (rest : List A) × (xs ≡ y ∷ rest)
begins_with [] x y l h e = absurd (omega (arith, l))
begins_with {A} (z ∷ zs) x y l h e = (zs, ap (λ (w : A). w ∷ zs) (sym h ∙ e))

pub returns-in-Some : goal.returns-in-Some
returns-in-Some c = λ yes.
    let e = same_Some c.in-Some.first.now c.args.set.now (c.is_same.ensures.equal yes) in
    let b = begins_with c.self.inside.away.items c.in-Some.first.now c.args.set.now c.in-Some.ensures.item.3.0 c.in-Some.ensures.lookup e in
    (b.0, ap (λ (f : PlainFront). f.away) (sym c.self.view_is) ∙ b.1)
