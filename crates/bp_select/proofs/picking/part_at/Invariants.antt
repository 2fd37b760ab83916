use Rattle.std.proofs.Common.{◌≡◌, ◌⊎◌, ◌<◌, ◌≤◌, ℕ, Bool, true, get_or, length, map, take}
use Rattle.js_value.specs.Value.{PlainSet}
use Rattle.bp_run.specs.Selecting.{Live}
use Rattle.bp_roll.specs.Rolls.{is_in}
use Rattle.bp_live.specs.declared.stated.Stated.{Stated}
use Rattle.bp_live.specs.Lives.{live_of, lent}
use Rattle.bp_select.specs.inner.Parts.{IsPart}
use Rattle.bp_select.proofs.Finding.{ArePassed}
use Rattle.bp_select.proofs.picking.part_at.Given as goal

abbrev pub invariant-loop-place : goal.invariant-loop-place
invariant-loop-place l = record {
  part : (p : Live PlainSet → Bool) → ((i : ℕ) (d : Stated) → i < length l.live → (is_in i l.places ≡ true) ⊎ (p (live_of (get_or l.live i d)) ≡ true)) → IsPart p (map lent l.those.items) (map live_of (take l.done l.live));
  passed : ArePassed l.places l.place-index l.done (length l.live);
  within : l.done ≤ length l.live;
}
