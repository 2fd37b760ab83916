use Rattle.bp_select.proofs.asking.ask_as.Goals as goal

pub returns-in-Some-clause-answer : goal.returns-in-Some-clause-answer
returns-in-Some-clause-answer c = rw c.in-Some.is (c.named.ensures _ c.contains_as.ensures.tells)
