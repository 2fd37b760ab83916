-- The two outlets of a run, from one moment to the next.
use Rattle.std.specs.Prelude.{Result, Ok, Err, ◌≡◌, ◌⊎◌, ◌≤◌, Option, Some, None, IfSome}
use Rattle.bp_base.specs.Counts.{Rose}
use Rattle.bp_base.specs.declared.outside.Sink.{Ghosts}
use Rattle.bp_told.specs.Logging.{LogFails, LogStays}
use Rattle.bp_told.specs.Told.{Given, Waiting, given, WritesOut}
use Rattle.bp_told.specs.declared.fault.RunFault.{RunFault}
use Rattle.bp_told.specs.declared.fault.RunFault.TheVariants as fault
use Rattle.bp_session.specs.declared.outlets.Outlets.{Outlets}
use Rattle.bp_session.specs.declared.report.Ending.{Ending}
use Rattle.bp_session.specs.declared.report.Ending.TheVariants.{Verdict, Read, Write, LogWrite, Memory}
use Rattle.bp_session.specs.declared.stop.Stop.{Stop}
use Rattle.bp_session.specs.declared.stop.Stop.TheVariants as stop

-- ---- the fault that something ended with, if it ended with one: of the output, of the log, or out of memory

-- telling the run
abbrev pub told_fault : {V : Type 0} → Result V RunFault → Option RunFault
told_fault (Ok v) = None
told_fault (Err f) = Some f

-- serving the run, where it stopped
abbrev pub stop_fault : Stop → Option RunFault
stop_fault (stop.Read j) = None
stop_fault (stop.Broken f) = Some f
stop_fault (stop.Unwritten f) = Some f

-- serving the run
abbrev pub served_fault : {V : Type 0} → Result V Stop → Option RunFault
served_fault (Ok v) = None
served_fault (Err s) = stop_fault s

-- the whole session
abbrev pub ended_fault : Ending → Option RunFault
ended_fault (Verdict v) = None
ended_fault (Read j) = None
ended_fault Write = Some fault.Write
ended_fault LogWrite = Some fault.LogWrite
ended_fault Memory = Some fault.Memory

-- ---- what comes of writing

-- what the two were given
abbrev pub given_to : {K L : Type 0} → Ghosts K → Outlets K L → Given L
given_to k o = given k.written o.out.now o.log.now

module _ {K L : Type 0} (k : Ghosts K) (l : Ghosts L) where
  -- A fault of the output or of the log comes only where that failed; out of memory needs no cause.
  abbrev pub IsCaused : K → K → Option L → Option L → RunFault → Type 0
  IsCaused out_old out_new old new fault.Write = Rose (k.faults out_old) (k.faults out_new)
  IsCaused out_old out_new old new fault.LogWrite = LogFails l.faults old new
  IsCaused out_old out_new old new fault.Memory = Unit {0}

  -- No count of faults fell, and the log keeps its name. If a fault ended it, what the fault names has
  -- failed.
  pub record WritesOn (out_old out_new : K) (old new : Option L) (ended : Option RunFault)
      : Type 0 where
    pub counts : k.faults out_old ≤ k.faults out_new
    pub stays : LogStays l.made_as l.faults old new
    pub cause : IfSome ended (IsCaused out_old out_new old new)

  -- The outlets are the same two as before, and WritesOn holds of them.
  pub record WritesTo (old new : Outlets K L) (ended : Option RunFault) : Type 0 where
    pub out_same : new.out.ghost_name ≡ old.out.ghost_name
    pub log_same : new.log.ghost_name ≡ old.log.ghost_name
    pub writes : WritesOn old.out.now new.out.now old.log.now new.log.now ended

  -- what waited was written, or the output or the log failed
  abbrev pub WritesRest : Outlets K L → Waiting → Outlets K L → Type 0
  WritesRest old w new =
      WritesOut l.written (given_to k old) w (given_to k new)
      ⊎ Rose (k.faults old.out.now) (k.faults new.out.now)
      ⊎ LogFails l.faults old.log.now new.log.now
