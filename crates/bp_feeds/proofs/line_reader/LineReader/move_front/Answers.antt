use Rattle.std.proofs.Common.{arith}
use Rattle.bp_feeds.proofs.Cuts.{too_long_front}
use Rattle.bp_feeds.proofs.line_reader.LineReader.move_front.Goals as goal

pub returns-then-len-count-gt-MOST_LENGTH-clause-long : goal.returns-then-len-count-gt-MOST_LENGTH-clause-long
returns-then-len-count-gt-MOST_LENGTH-clause-long g c = λ _.
    too_long_front c.args.self.now.line.items c.args.self.now.block c.rest-rest.result.now c.length_of_front-count.result c.rest-rest.ensures c.args.self.now.unbroken
    c.length_of_front-count.ensures.front c.length_of_front-count.ensures.within (omega (arith, c.if-len-count-gt-MOST_LENGTH.true, c.len.ensures))
