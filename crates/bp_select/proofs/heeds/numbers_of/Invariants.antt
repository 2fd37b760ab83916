use Rattle.std.proofs.Common.{◌≡◌, true, map, take}
use Rattle.bp_roll.specs.Rolls.{is_in}
use Rattle.bp_select.specs.Tallies.{Each}
use Rattle.bp_live.specs.Lives.{live_of}
use Rattle.bp_select.proofs.heeds.numbers_of.Given as goal

abbrev pub invariant-loop-stated : goal.invariant-loop-stated
invariant-loop-stated l = Each (λ t. is_in t.number l.numbers.items ≡ true) (map live_of (take l.stated-index l.live))
