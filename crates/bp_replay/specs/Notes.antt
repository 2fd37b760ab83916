-- What is said of a log that is not that of a run.
use Rattle.std.specs.Prelude.{ℕ, List, ◌++◌, Option, Some, None, decimal, codes}
use Rattle.bp_log.specs.Logs.{record_text}
use Rattle.bp_log.specs.declared.record.Record.{Record}
use Rattle.bp_reader.specs.declared.fault.LogFault.{LogFault}
use Rattle.bp_reader.specs.declared.fault.LogFault.TheVariants as log
use Rattle.bp_replay.specs.declared.fault.ReplayFault.{ReplayFault}
use Rattle.bp_replay.specs.declared.fault.ReplayFault.TheVariants.{Log, Differs, Program, Write, Memory}

-- the record that the run makes, or that it waits
abbrev pub expected_text : Option Record → List ℕ
expected_text None = codes "wait"
expected_text (Some r) = record_text r

-- the record of this number is not the one that is expected
abbrev pub differing : ℕ → Option Record → Record → List ℕ
differing number expected found =
    codes "record " ++ (decimal number
    ++ (codes " expected " ++ (expected_text expected ++ (codes " found " ++ record_text found))))

-- why bytes are not a log
abbrev pub log_detail : LogFault → List ℕ
log_detail log.Version = codes "version"
log_detail log.Header = codes "header"
log_detail (log.Line n) = codes "line " ++ decimal n
log_detail log.Cut = codes "cut"
log_detail log.Read = codes "read fault"
log_detail log.Memory = codes "memory"

-- why a log is bad
abbrev pub detail_of : ReplayFault → List ℕ
detail_of (Log fault) = log_detail fault
detail_of (Differs number expected other) = differing number expected other
detail_of Program = codes "program"
detail_of Write = codes "write fault"
detail_of Memory = codes "memory"

abbrev pub bad_log_note : ReplayFault → List ℕ
bad_log_note fault = codes "bad log: " ++ detail_of fault
