-- What reading a program refuses.
use Rattle.std.specs.Prelude.{ℕ, List}
use Rattle.js_parser.specs.declared.fault.ParseFault.{ParseFault}
use Rattle.js_names.specs.declared.mention.NameFault.{NameFault}
use Rattle.js_tree.specs.declared.tree.Name.{Name}
use Rattle.bp_script.specs.declared.refusal.Kind.{Kind}
use Rattle.bp_script.specs.declared.refusal.Rule.{Rule}
use Rattle.bp_script.specs.declared.refusal.Refusal.{Refusal}
use Rattle.bp_script.specs.declared.reading.ScriptFault.{ScriptFault}
use Rattle.bp_script.specs.Programs.{IsRefused}

abbrev pub IsScriptFault : List ℕ → ScriptFault → Type 0
IsScriptFault bytes (ScriptFault.Refused refusal) = IsRefused bytes refusal
IsScriptFault bytes ScriptFault.Memory = Unit {0}

abbrev pub fault_of_parse : ParseFault → ScriptFault
fault_of_parse (ParseFault.Unsupported line) =
    ScriptFault.Refused (Refusal.OnLine line Kind.Unsupported)
fault_of_parse (ParseFault.NoTree line) = ScriptFault.Refused (Refusal.OnLine line Kind.NoTree)
fault_of_parse ParseFault.Memory = ScriptFault.Memory

abbrev pub of_name : Rule → Name → ScriptFault
of_name rule name = ScriptFault.Refused (Refusal.OfName name.spot.line rule name.text)

abbrev pub of_line : Kind → Name → ScriptFault
of_line kind name = ScriptFault.Refused (Refusal.OnLine name.spot.line kind)

abbrev pub fault_of_names : NameFault → ScriptFault
fault_of_names (NameFault.Unknown name) = of_name Rule.Unknown name
fault_of_names (NameFault.Twice name) = of_name Rule.Twice name
fault_of_names (NameFault.AssignConst name) = of_name Rule.Const name
fault_of_names (NameFault.Capture name) = of_name Rule.Capture name
fault_of_names (NameFault.LoopWord name) = of_line Kind.LoopWord name
fault_of_names (NameFault.ReturnPlace name) = of_line Kind.ReturnPlace name
fault_of_names (NameFault.Slots name) = of_line Kind.Slots name
fault_of_names NameFault.Memory = ScriptFault.Memory
