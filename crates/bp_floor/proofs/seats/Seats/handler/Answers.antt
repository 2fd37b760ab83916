use Rattle.std.specs.Arc.{arc_value}
use Rattle.bp_floor.proofs.Handlers.{handled}
use Rattle.bp_floor.proofs.seats.Seats.handler.Goals as goal

pub returns-in-Some : goal.returns-in-Some
returns-in-Some c = handled c.handler_of.result c.args.self.now c.args.number (arc_value c.args.event.now) c.in-Some.job.now c.requires c.in-Some.ensures c.keeps_handler.ensures c.handler_of.ensures
