use Rattle.std.proofs.Common.{◌∙◌, ℕ, List, ap, sym, slice_get}
use Rattle.bp_roll.specs.Rolls.{is_in}
use Rattle.bp_roll.proofs.Listing.{in_found, in_insert}
use Rattle.bp_roll.proofs.lists.put.Goals as goal

pub returns-then-is_at-clause-there : goal.returns-then-is_at-clause-there
returns-then-is_at-clause-there c =
    in_found c.args.number c.args.list.now.items c.place_of-at.result (sym (ap (λ (xs : List ℕ). slice_get xs c.place_of-at.result) c.as_slice-2.ensures.value) ∙ c.is_at.ensures c.if-is_at.true)

pub returns-clause-others : goal.returns-clause-others
returns-clause-others c = λ n h. ap (λ (xs : List ℕ). is_in n xs) c.in_ok-insert.ensures.items ∙ in_insert n c.args.number c.args.list.now.items c.place_of-at.result h
