-- Faults of what a replay calls, as faults of the replay.
use Rattle.bp_reader.specs.declared.fault.LogFault.{LogFault}
use Rattle.bp_reader.specs.declared.fault.LogFault.TheVariants as log
use Rattle.bp_log.specs.declared.lines.PrintError.{PrintError}
use Rattle.bp_log.specs.declared.lines.PrintError.TheVariants as print
use Rattle.bp_replay.specs.declared.fault.ReplayFault.{ReplayFault}
use Rattle.bp_replay.specs.declared.fault.ReplayFault.TheVariants.{Log, Write, Memory}

abbrev pub fault_of_print : PrintError → ReplayFault
fault_of_print print.Write = Write
fault_of_print print.Memory = Memory

-- out of memory is one fault, whoever answers it
abbrev pub fault_of_log : LogFault → ReplayFault
fault_of_log log.Version = Log log.Version
fault_of_log log.Header = Log log.Header
fault_of_log (log.Line n) = Log (log.Line n)
fault_of_log log.Cut = Log log.Cut
fault_of_log log.Read = Log log.Read
fault_of_log log.Memory = Memory
