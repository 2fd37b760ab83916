-- Faults of the input, as faults of the log.
use Rattle.bp_reader.specs.declared.input.Fault.{Fault}
use Rattle.bp_reader.specs.declared.input.Fault.TheVariants as input
use Rattle.bp_reader.specs.declared.fault.LogFault.{LogFault}
use Rattle.bp_reader.specs.declared.fault.LogFault.TheVariants as fault

abbrev pub fault_of : Fault → LogFault
fault_of input.Read = fault.Read
fault_of input.Memory = fault.Memory
