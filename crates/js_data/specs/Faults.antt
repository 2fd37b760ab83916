-- The printed name of each fault of a running script.
use Rattle.std.specs.Prelude.{ℕ, List, codes}
use Rattle.js_data.specs.declared.fault.Fault.{Fault}
use Rattle.js_data.specs.declared.fault.Fault.TheVariants as fault

abbrev pub fault_name : Fault → List ℕ
fault_name fault.Whole = codes "whole"
fault_name fault.Fraction = codes "fraction"
fault_name fault.Zero = codes "zero"
fault_name fault.Mistyped = codes "type"
fault_name fault.Early = codes "early"
fault_name fault.Index = codes "index"
fault_name fault.Weight = codes "weight"
fault_name fault.Nesting = codes "nesting"
fault_name fault.Depth = codes "depth"
fault_name fault.Mode = codes "mode"
fault_name fault.Statement = codes "statement"
fault_name fault.Truth = codes "truth"
