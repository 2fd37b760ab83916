use Rattle.bp_reader.proofs.Along.{came}
use Rattle.bp_reader.proofs.reader.behind_last.Goals as goal

pub returns-in-Ok-Some-clause-taken : goal.returns-in-Ok-Some-clause-taken
returns-in-Ok-Some-clause-taken g c = came c.args.input.now.left c.byte.new.self.left c.in-Ok-Some.field-0-0 (rw c.in-Ok-Some.field-0-is at c.in-Ok-Some.ensures.given)
