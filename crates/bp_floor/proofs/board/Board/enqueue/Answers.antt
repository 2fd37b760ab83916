use Rattle.std.proofs.Common.{◌∙◌}
use Rattle.bp_floor.proofs.Onward.{kept_queued}
use Rattle.bp_floor.proofs.board.Board.enqueue.Goals as goal

pub returns-clause-keeps : goal.returns-clause-keeps
returns-clause-keeps c = λ r first k.
    kept_queued r first c.args.self.now c.push.new.self c.args.event (λ e. c.if-waiting.false (c.waiting.ensures ∙ e)) c.in_ok-push.ensures.pushed c.push.ensures.bench c.push.ensures.fits k
