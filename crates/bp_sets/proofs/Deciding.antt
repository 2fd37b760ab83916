-- Sets are asked from left to right, and the first fault is the answer.
use Rattle.std.proofs.Common.{◌≡◌, ℕ, zero, suc, ◌+◌, ◌<◌, ◌≤◌, true, false, List, [], ◌∷◌, length, drop, get_or, Ok, Err, refl, sym, arith}
use Rattle.std.proofs.Math.ListN.{drop_of_length-le}
use Rattle.js_data.specs.Event.{PlainEvent}
use Rattle.js_value.specs.Value.{PlainSet}
use Rattle.js_value.specs.Sizes.{set_size, sets_size}
use Rattle.js_value.specs.Views.{set_list_of}
use Rattle.js_meaning.specs.State.{Ground}
use Rattle.bp_meaning.specs.Membership.{Membership, member, member_of_any}

-- a set of a list is smaller than the list
pub set_below : (ss : List PlainSet) (i : ℕ) (s : PlainSet) → i < length ss → s ≡ get_or ss i s → set_size s < sets_size (set_list_of ss)
set_below [] i s h e = absurd (omega arith)
set_below (t ∷ ss) zero s h e = rw e (omega arith)
set_below (t ∷ ss) (suc i) s h e = omega (arith, set_below ss i s (omega arith) e)

abbrev pub or_then : Membership → Membership → Membership
or_then rest m = elim m [ Err f ↦ Err f | Ok b ↦ elim b [ true ↦ Ok true | false ↦ rest ] ]

module _ (base : Ground) (budget : ℕ) (e : PlainEvent) where
  at_place : (ss : List PlainSet) (i : ℕ) (s : PlainSet) → i < length ss → s ≡ get_or ss i s →
      member_of_any base budget (set_list_of (drop i ss)) e ≡ or_then (member_of_any base budget (set_list_of (drop (suc i) ss)) e) (member base budget s e)
  at_place [] i s h g = absurd (omega arith)
  at_place (t ∷ ss) zero s h g = rw g refl
  at_place (t ∷ ss) (suc i) s h g = at_place ss i s (omega arith) g

  -- the set at a place of a list comes next
  pub next_of_any : (ss : List PlainSet) (i : ℕ) (s : PlainSet) → i < length ss → s ≡ get_or ss i s →
      member_of_any base budget (set_list_of (drop i ss)) e ≡ or_then (member_of_any base budget (set_list_of (drop (i + 1) ss)) e) (member base budget s e)
  next_of_any ss i s h g =
      let same : suc i ≡ i + 1 = omega arith in
      rw (sym same) (at_place ss i s h g)

  -- at the end of a list no set is left
  pub none_of_any : (ss : List PlainSet) (i : ℕ) → length ss ≤ i → member_of_any base budget (set_list_of (drop i ss)) e ≡ Ok false
  none_of_any ss i h = rw (drop_of_length-le ss h) refl
