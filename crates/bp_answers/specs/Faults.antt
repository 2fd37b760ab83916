-- Faults of what an answer calls, as faults of the answer.
use Rattle.bp_reader.specs.declared.fault.LogFault.{LogFault}
use Rattle.bp_replay.specs.declared.fault.ReplayFault.TheVariants as replay
use Rattle.bp_replay.specs.Faults.{fault_of_log}
use Rattle.bp_answers.specs.declared.answer.NoAnswer.{NoAnswer}
use Rattle.bp_answers.specs.declared.answer.NoAnswer.TheVariants.{Refused}

abbrev pub no_memory : NoAnswer
no_memory = Refused replay.Memory

abbrev pub refused_log : LogFault → NoAnswer
refused_log f = Refused (fault_of_log f)
