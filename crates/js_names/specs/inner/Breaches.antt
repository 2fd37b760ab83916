-- The rule that a mention breaks, as a fault with the mention's name.
use Rattle.std.specs.Prelude.{Option, Some, None}
use Rattle.js_tree.specs.declared.tree.Name.{Name}
use Rattle.js_names.specs.declared.mention.NameFault.{NameFault}
use Rattle.js_names.specs.declared.mention.NameFault.TheVariants as fault
use Rattle.js_names.specs.declared.breach.Breach.{Breach}
use Rattle.js_names.specs.declared.breach.Breach.TheVariants.{Unknown, Twice, AssignConst, Capture, LoopWord, ReturnPlace, Slots}
use Rattle.js_names.specs.declared.breach.Found.{Found}

abbrev pub fault_of : Breach → Name → NameFault
fault_of Unknown name = fault.Unknown name
fault_of Twice name = fault.Twice name
fault_of AssignConst name = fault.AssignConst name
fault_of Capture name = fault.Capture name
fault_of LoopWord name = fault.LoopWord name
fault_of ReturnPlace name = fault.ReturnPlace name
fault_of Slots name = fault.Slots name

-- the fault of a mention with this name, where it breaks a rule
abbrev pub told : Option Breach → Name → Option NameFault
told None name = None
told (Some b) name = Some (fault_of b name)

abbrev pub fault_in : Option Found → Option NameFault
fault_in None = None
fault_in (Some f) = Some (fault_of f.breach f.mention.now.name)
