-- B-threads that plainly block nothing need not be asked.
use Rattle.std.proofs.Common.{◌≡◌, ℕ, true, false, refl, Ok}
use Rattle.js_data.specs.Event.{PlainEvent}
use Rattle.js_value.specs.Value as v
use Rattle.js_value.specs.Value.{PlainSet}
use Rattle.js_meaning.specs.State.{Ground}
use Rattle.bp_meaning.specs.Membership.{member}
use Rattle.bp_select.specs.EmptySets.{is_empty}

pub nothing_in : (base : Ground) (budget : ℕ) (s : PlainSet) (e : PlainEvent) → is_empty s ≡ true → member base budget s e ≡ Ok false
nothing_in base budget v.nothing e h = refl
nothing_in base budget (v.any v.no_sets) e h = refl
nothing_in base budget (v.any (v.set_in s ss)) e h = absurd (cc)
nothing_in base budget (v.only f) e h = absurd (cc)
nothing_in base budget v.all e h = absurd (cc)
nothing_in base budget (v.or s t) e h = absurd (cc)
nothing_in base budget (v.and s t) e h = absurd (cc)
nothing_in base budget (v.xor s t) e h = absurd (cc)
nothing_in base budget (v.negate s) e h = absurd (cc)
nothing_in base budget (v.predicate n c vs) e h = absurd (cc)
