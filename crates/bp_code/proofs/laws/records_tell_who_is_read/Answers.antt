use Rattle.bp_run.proofs.Injectors.{who_is_read, bad_is_known}
use Rattle.bp_code.specs.Code.{code_of}
use Rattle.bp_code.proofs.laws.records_tell_who_is_read.Goals as goal

pub returns-clause-read : goal.returns-clause-read
returns-clause-read c = λ p o records d j h k. who_is_read (code_of p o) o records d j h k

pub returns-clause-bad : goal.returns-clause-bad
returns-clause-bad c = λ p o records d h. bad_is_known (code_of p o) o records d h
