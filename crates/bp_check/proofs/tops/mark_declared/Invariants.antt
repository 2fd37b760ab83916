use Rattle.std.proofs.Common.{◌≡◌, ℕ, ◌<◌, ◌||◌, false, length, get_or, drop, map}
use Rattle.std.specs.List.{filter_map}
use Rattle.js_program.specs.PlainProgram.{PlainDeclared}
use Rattle.js_program.specs.Views.{plain_declared}
use Rattle.bp_check.specs.Tops.{has}
use Rattle.bp_check.proofs.tops.mark_declared.Given as goal

abbrev pub invariant-loop-variable : goal.invariant-loop-variable
invariant-loop-variable l =
    (k : ℕ) → k < length l.initial.marks → (get_or l.initial.marks k false || has (filter_map (λ (d : PlainDeclared). d.value) (map plain_declared l.declared)) k)
    ≡ (get_or l.marks k false || has (filter_map (λ (d : PlainDeclared). d.value) (map plain_declared (drop l.variable-index l.declared))) k)
