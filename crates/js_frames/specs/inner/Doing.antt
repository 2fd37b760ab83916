-- A part that is done at once, without a frame: an assignment or an update of plain values.
use Rattle.std.specs.Prelude.{◌≡◌, ℕ, ◌≤◌, ◌<◌}
use Rattle.js_value.specs.Value.{PlainValue}
use Rattle.js_meaning.specs.State as js
use Rattle.js_meaning.specs.State.{gives}
use Rattle.js_meaning.specs.Meaning.{eval}
use Rattle.js_frames.specs.Places.{Place, Beside, setting_at, state_at}

-- The part and all of its parts began, within the slice, and it completed with a value; nothing but
-- the fuel and the variables is another.
pub record Did (base : js.Ground) (old : Place) (part : ℕ) (new : Place) : Type 0 where
  pub value : PlainValue
  pub same : (beside : Beside) →
      eval (setting_at base old) part (state_at old beside) ≡ gives value (state_at new beside)
  pub place : new ≡ record old { fuel = new.fuel; slots = new.slots }
  pub less : new.fuel < old.fuel
  pub room : old.floor ≤ new.fuel
