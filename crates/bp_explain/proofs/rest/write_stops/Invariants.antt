use Rattle.std.proofs.Common.{◌≡◌, ◌++◌, drop, string_bytes}
use Rattle.std.specs.Prelude.{flat_map}
use Rattle.js_frames.specs.Places.{plain_ground}
use Rattle.bp_explain.specs.Sets.{spelling_of}
use Rattle.bp_explain.specs.Standing.{standing_text}
use Rattle.bp_explain.specs.Stops.{standing_of}
use Rattle.bp_explain.proofs.rest.write_stops.Given as goal

abbrev pub invariant-loop-stop : goal.invariant-loop-stop
invariant-loop-stop l =
    string_bytes l.text ++ flat_map (λ s. standing_text (spelling_of (plain_ground l.rest.ground.now).program) (standing_of s)) (drop l.stop-index l.rest.stops.now) ≡ string_bytes l.initial.text ++ flat_map (λ s. standing_text (spelling_of (plain_ground l.rest.ground.now).program) (standing_of s)) l.rest.stops.now
