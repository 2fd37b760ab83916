use Rattle.std.proofs.Common.{◌∙◌, ℕ, List, ap, get_or, refl}
use Rattle.std.proofs.lemmas.List.{take_all}
use Rattle.bp_roll.specs.Rolls.{is_in}
use Rattle.bp_select.proofs.HeedLemmas.{in_pushed}
use Rattle.bp_select.proofs.Finding.{places_step}
use Rattle.bp_select.proofs.heeds.add_places.Goals as goal

pub loop-number-preserved : goal.loop-number-preserved
loop-number-preserved c = record {
  there =
      places_step c.args.live.now c.args.numbers.now c.loop-number.number-index _ c.place_from-at.result c.loop-number.places.items c.push.new.self.items
      c.requires c.loop-number-test.true refl c.place_from-at.ensures c.in_ok-push.ensures.items c.loop-number.invariant.there;
  others = λ i h. ap (λ (xs : List ℕ). is_in i xs) c.in_ok-push.ensures.items ∙ in_pushed i c.place_from-at.result c.loop-number.places.items (c.loop-number.invariant.others i h);
}

pub returns-clause-there : goal.returns-clause-there
returns-clause-there c = λ i d low h.
    c.loop-number.invariant.there i d low (ap (λ (xs : List ℕ). is_in (get_or c.args.live.now i d).number xs) (take_all c.loop-number.number-index c.args.numbers.now c.loop-number-test.false) ∙ h)
