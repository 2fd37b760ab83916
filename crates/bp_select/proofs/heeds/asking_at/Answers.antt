use Rattle.std.proofs.Common.{◌≡◌, ◌⊎◌, ◌<◌, ℕ, List, true, get_or, length, map, subst, sym}
use Rattle.std.specs.List.Sorted.{IsNonDecreasing}
use Rattle.bp_roll.specs.Rolls.{is_in, is_noted}
use Rattle.bp_live.specs.declared.stated.Stated.{Stated}
use Rattle.bp_select.specs.inner.Heeding.{IsNoted, asks_key}
use Rattle.bp_live.specs.Lives.{live_of}
use Rattle.bp_select.specs.inner.Parts.{asks_nothing}
use Rattle.bp_select.proofs.Finding.{found_at}
use Rattle.bp_select.proofs.HeedLemmas.{each_map}
use Rattle.bp_select.proofs.heeds.asking_at.Goals as goal

pub part_at-requires : goal.part_at-requires
part_at-requires c = subst (λ (xs : List ℕ). IsNonDecreasing xs) (sym c.as_slice.ensures.value) c.in_ok-askers.ensures.order

pub returns : goal.returns
returns c =
    let live = c.args.live.now in
    c.part_at.ensures asks_nothing
    (subst (λ (xs : List ℕ). (i : ℕ) (d : Stated) → i < length live → (is_in i xs ≡ true) ⊎ (asks_nothing (live_of (get_or live i d)) ≡ true)) (sym c.as_slice.ensures.value)
    (found_at asks_nothing live c.args.roll.now asks_key c.in_ok-askers.askers.items
    (each_map (λ t. IsNoted c.args.roll.now t) (λ t. (is_noted c.args.roll.now asks_key t.number ≡ true) ⊎ (asks_nothing t ≡ true)) (map live_of live) (λ t h. h.asks) c.requires.noted) c.in_ok-askers.ensures.there))
