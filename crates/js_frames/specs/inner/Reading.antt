-- A part that gives the data of an event.
use Rattle.std.specs.Prelude.{◌≡◌, ℕ, ◌+◌, ◌-◌, ◌≤◌}
use Rattle.js_data.specs.Event.{PlainEvent}
use Rattle.js_ops.specs.Members.{extra_value}
use Rattle.js_meaning.specs.State as js
use Rattle.js_meaning.specs.State.{gives}
use Rattle.js_meaning.specs.Meaning.{eval}
use Rattle.js_frames.specs.Places.{Place, Beside, setting_at, state_at}

-- The part and the variable that it reads began, within the slice, and the part gave the data of e;
-- nothing but the fuel is another.
pub record GaveData (base : js.Ground) (old : Place) (part : ℕ) (e : PlainEvent) (new : Place)
    : Type 0 where
  pub same : (beside : Beside) →
      eval (setting_at base old) part (state_at old beside)
      ≡ gives (extra_value e.extra) (state_at new beside)
  pub two_less : new ≡ record old { fuel = old.fuel - 2 }
  pub room : old.floor + 2 ≤ old.fuel
