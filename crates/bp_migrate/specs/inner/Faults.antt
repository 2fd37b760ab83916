-- Faults of a log, as faults of its migration.
use Rattle.bp_reader.specs.declared.fault.LogFault.{LogFault}
use Rattle.bp_reader.specs.declared.fault.LogFault.TheVariants as log
use Rattle.bp_migrate.specs.declared.fault.MigrateFault.{MigrateFault}
use Rattle.bp_migrate.specs.declared.fault.MigrateFault.TheVariants.{Log, Memory}

-- out of memory is one fault, whoever answers it
abbrev pub fault_of_log : LogFault → MigrateFault
fault_of_log log.Version = Log log.Version
fault_of_log log.Header = Log log.Header
fault_of_log (log.Line n) = Log (log.Line n)
fault_of_log log.Cut = Log log.Cut
fault_of_log log.Read = Log log.Read
fault_of_log log.Memory = Memory
