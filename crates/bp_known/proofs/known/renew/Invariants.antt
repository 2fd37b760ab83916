use Rattle.std.proofs.Common.{◌≡◌, length, option_map}
use Rattle.js_frames.specs.Places.{plain_ground}
use Rattle.bp_known.specs.Known.{told_again}
use Rattle.bp_known.proofs.Knowing.{halfway}
use Rattle.bp_known.proofs.known.renew.Given as goal

abbrev pub invariant-loop-at : goal.invariant-loop-at
invariant-loop-at l = record {
  len : length l.told.items ≡ length l.fn.told.items;
  half : l.told.items ≡ halfway (told_again (plain_ground l.ground) l.budget l.number (option_map (λ s. s.now) l.set)) l.at l.fn.told.items;
}
