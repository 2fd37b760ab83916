-- How runs end, in memory and in the definitions.
use Rattle.std.specs.Prelude.{◌≡◌, ℕ, List, Some}
use Rattle.js_program.specs.PlainProgram.{PlainProgram}
use Rattle.bp_log.specs.Options.{PlainOptions}
use Rattle.bp_script.specs.Programs.{IsProgram}
use Rattle.bp_code.specs.Code.{code_of}
use Rattle.bp_explain.specs.Seeds.{kind_text, kind_alone, under_seed}
use Rattle.bp_seeds.specs.declared.ending.End.{End}

-- the run of the program without injectors ends so
abbrev pub EndsSo : PlainProgram → PlainOptions → End → Type 0
EndsSo program options end =
    kind_alone (code_of program options) options ≡ Some (kind_text end.alive end.verdict)

-- under this seed the run of the program that the bytes are ends in a way of this kind
abbrev pub IsKind : List ℕ → PlainOptions → ℕ → List ℕ → Type 0
IsKind bytes options seed kind =
    (program : PlainProgram) → IsProgram bytes program → under_seed program options seed ≡ Some kind
