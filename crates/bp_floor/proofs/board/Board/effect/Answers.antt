use Rattle.std.proofs.lemmas.Result.{on_ok_weaker}
use Rattle.bp_floor.proofs.board.Board.effect.Goals as goal

pub returns-in-Line-clause-keeps : goal.returns-in-Line-clause-keeps
returns-in-Line-clause-keeps c = on_ok_weaker c.say.result (λ h r first on k. h r first k) c.say.ensures.keeps

pub returns-in-Enqueue-clause-keeps : goal.returns-in-Enqueue-clause-keeps
returns-in-Enqueue-clause-keeps c = on_ok_weaker c.enqueue.result (λ h r first on k. h r first k) c.enqueue.ensures.keeps
