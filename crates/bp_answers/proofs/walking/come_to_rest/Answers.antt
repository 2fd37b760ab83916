use Rattle.bp_log.specs.Records.{verdict_of}
use Rattle.bp_replay.proofs.Shows.{settled}
use Rattle.bp_answers.proofs.Walks.{said_of, is_said}
use Rattle.bp_answers.proofs.walking.come_to_rest.Goals as goal

pub returns-clause-there : goal.returns-clause-there
returns-clause-there c =
    let t = c.take_lines-lines.ensures in
    let b = c.take_lines-lines.new.self in
    let lines = c.take_lines-lines.result in
    λ d taken w.
    (settled d taken c.args.arbiter.now c.settle.new.arbiter b lines (said_of (verdict_of b.records) lines) w c.in_ok-settle.ensures.settles c.in_ok-settle.ensures.settled t.taken c.keeps.ensures.exact t.ground t.options t.records t.phase t.stands
    (is_said b lines c.keeps-2.ensures.complete)).there
