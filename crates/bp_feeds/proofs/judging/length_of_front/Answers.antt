use Rattle.std.proofs.Common.{length}
use Rattle.bp_feeds.proofs.Cuts.{front_taken}
use Rattle.bp_feeds.proofs.judging.length_of_front.Goals as goal

pub returns-in-Some-clause-front : goal.returns-in-Some-clause-front
returns-in-Some-clause-front c = front_taken c.args.bytes.now c.in-Some.place c.in-Some.ensures.0.before

pub returns-in-None-clause-front : goal.returns-in-None-clause-front
returns-in-None-clause-front c = front_taken c.args.bytes.now (length c.args.bytes.now) c.in-None.ensures
