use Rattle.std.proofs.Common.{sym}
use Rattle.bp_run.proofs.Turns.{settle-rest, settle-turn}
use Rattle.bp_code.specs.Code.{code_of}
use Rattle.bp_code.proofs.laws.turns_settle.Goals as goal

pub returns-clause-rests : goal.returns-clause-rests
returns-clause-rests c = λ p o q h. settle-rest (code_of p o) q h

pub returns-clause-turns : goal.returns-clause-turns
returns-clause-turns c = λ p o q w h. sym (settle-turn (code_of p o) q w h)
