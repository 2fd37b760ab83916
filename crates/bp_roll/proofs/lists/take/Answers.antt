use Rattle.std.proofs.Common.{◌∙◌, ℕ, List, ap, sym, slice_get}
use Rattle.bp_roll.specs.Rolls.{is_in}
use Rattle.bp_roll.proofs.Listing.{in_remove}
use Rattle.bp_roll.proofs.lists.take.Goals as goal

pub returns-then-is_at : goal.returns-then-is_at
returns-then-is_at c = record {
  others = λ n e h.
      ap (λ (xs : List ℕ). is_in n xs) c.remove.ensures.items
      ∙ in_remove n c.args.number c.args.list.now.items c.place_of-at.result (sym (ap (λ (xs : List ℕ). slice_get xs c.place_of-at.result) c.as_slice-2.ensures.value) ∙ c.is_at.ensures c.if-is_at.true) e h;
}
