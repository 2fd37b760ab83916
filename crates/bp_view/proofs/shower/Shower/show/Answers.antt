use Rattle.bp_view.specs.Ends.{shown}
use Rattle.bp_view.proofs.Growths.{shows_more}
use Rattle.bp_view.proofs.shower.Shower.show.Goals as goal

pub add-requires : goal.add-requires
add-requires g c = shows_more (shown c.args.self.now) c.args.self.now.last c.args.summary c.args.self.now.good c.args.self.now.last_shown c.requires.more c.requires.not_over
