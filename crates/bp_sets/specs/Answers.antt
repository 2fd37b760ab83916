-- When the answer to whether a set has an event is as the definition says.
use Rattle.std.specs.Prelude.{◌≡◌, Bool, Result, Ok, Err}
use Rattle.bp_run.specs.Bodies as run
use Rattle.bp_meaning.specs.Membership.{Membership}
use Rattle.bp_sets.specs.declared.fault.SetFault.{SetFault}
use Rattle.bp_sets.specs.declared.fault.SetFault.TheVariants as set_fault

-- yes, no, or the fault, unless memory ran out
abbrev pub TellsAs : Membership → Result Bool SetFault → Type 0
TellsAs m (Ok b) = m ≡ Ok b
TellsAs m (Err (set_fault.Broken f line)) = m ≡ Err (run.SetFault.Broken f line)
TellsAs m (Err set_fault.Spent) = m ≡ Err run.SetFault.Spent
TellsAs m (Err (set_fault.NotTruth line)) = m ≡ Err (run.SetFault.NotTruth line)
TellsAs m (Err set_fault.Memory) = Unit {0}
