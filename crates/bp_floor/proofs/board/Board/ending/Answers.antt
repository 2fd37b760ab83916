use Rattle.bp_floor.proofs.board.Board.ending.Goals as goal

pub returns-in_ok-place-in-Broken-clause-keeps : goal.returns-in_ok-place-in-Broken-clause-keeps
returns-in_ok-place-in-Broken-clause-keeps c = λ r first low k. c.stop.ensures.keeps r first k

pub returns-in_ok-place-in-Violated-clause-keeps : goal.returns-in_ok-place-in-Violated-clause-keeps
returns-in_ok-place-in-Violated-clause-keeps c = λ r first low k. c.stop-in-Violated.ensures.keeps r first k

pub returns-in_ok-place-in-Spent-clause-keeps : goal.returns-in_ok-place-in-Spent-clause-keeps
returns-in_ok-place-in-Spent-clause-keeps c = λ r first low k. c.stop-in-Spent.ensures.keeps r first k
