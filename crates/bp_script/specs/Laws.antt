-- What is true of accepting and refusing.
use Rattle.std.specs.Prelude.{ℕ, ◌≡◌, ◌⊎◌, List}
use Rattle.bp_script.specs.declared.refusal.Kind.{Kind}
use Rattle.bp_script.specs.declared.refusal.Refusal.{Refusal}
use Rattle.js_program.specs.PlainProgram.{PlainProgram}
use Rattle.bp_script.specs.Programs.{IsProgram, IsRefused}

-- the refusal, with line 1 in place of any where no tree is spelled
abbrev pub but_for_line : Refusal → Refusal
but_for_line (Refusal.OnLine line Kind.NoTree) = Refusal.OnLine 1 Kind.NoTree
but_for_line refusal = refusal

-- bytes are refused in one way, but for the line of a text that spells no tree
abbrev pub OneRefusal : List ℕ → Type 0
OneRefusal bytes = (a b : Refusal) → IsRefused bytes a → IsRefused bytes b → but_for_line a ≡ but_for_line b

-- bytes are a program, or they are refused
abbrev pub ProgramOrRefused : List ℕ → Type 0
ProgramOrRefused bytes =
    ((program : PlainProgram) × IsProgram bytes program)
    ⊎ ((refusal : Refusal) × IsRefused bytes refusal)
