use Rattle.std.proofs.Common.{sym}
use Rattle.bp_run.proofs.Turns.{settle-rest, settle-turn}
use Rattle.bp_run.proofs.laws.turns_settle.Goals as goal

pub returns-clause-rests : goal.returns-clause-rests
returns-clause-rests c = λ l p h. settle-rest l p h

pub returns-clause-turns : goal.returns-clause-turns
returns-clause-turns c = λ l p w h. sym (settle-turn l p w h)
