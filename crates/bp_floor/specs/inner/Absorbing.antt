-- Why an item is not absorbed.
use Rattle.std.specs.Prelude.{◌≡◌, ℕ, ◌<◌, ◌≤◌}
use Rattle.bp_log.specs.declared.limits.TheConstants.{MOST_WAITING}
use Rattle.bp_log.specs.declared.item.Item.{Item}
use Rattle.bp_floor.specs.declared.absorb.Absorb.{Absorb}
use Rattle.bp_floor.specs.declared.absorb.Absorb.TheVariants.{Full, Memory}

-- the item comes back: full exactly where this many events wait as may
abbrev pub IsRefused : ℕ → Item → Absorb → Type 0
IsRefused waiting item (Full x) = (x ≡ item) × (MOST_WAITING ≤ waiting)
IsRefused waiting item (Memory x) = (x ≡ item) × (waiting < MOST_WAITING)
