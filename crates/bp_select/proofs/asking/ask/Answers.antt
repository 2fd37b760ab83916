use Rattle.js_frames.specs.Places.{plain_ground}
use Rattle.bp_select.proofs.asking.ask.Goals as goal

pub ask_as-requires : goal.ask_as-requires
ask_as-requires c = c.new.ensures (plain_ground c.args.ground.now) c.args.budget c.args.event.now
