use Rattle.bp_floor.proofs.Shown.{shown}
use Rattle.bp_floor.proofs.floor.Floor.shows.Goals as goal

pub returns : goal.returns
returns c = shown c.args.self.now
