use Rattle.js_frames.specs.Places.{plain_ground}
use Rattle.bp_sets.proofs.membership.contains.Goals as goal

pub contains_as-requires : goal.contains_as-requires
contains_as-requires c = c.new.ensures (plain_ground c.args.ground.now) c.args.budget c.args.event.now
