-- The rows of forms in memory tell what the rows of the definition do.
use Rattle.std.proofs.Common.{◌≡◌, ◌∙◌, List, map, get_or, refl, sym, ap, true}
use Rattle.std.proofs.Math.ListN.{get_or-map}
use Rattle.std.specs.List.{list_any}
use Rattle.js_program.specs.declared.builtin.Mode.{Mode}
use Rattle.js_program.specs.declared.builtin.Mode.TheVariants.{Top, Thread, Handler, Predicate}
use Rattle.js_program.specs.declared.builtin.Builtin.{Builtin}
use Rattle.js_program.specs.declared.builtin.FormRow.{FormRow}
use Rattle.js_program.specs.Builtins.{Row, builtins, everywhere, form_number, form_row, modes_in_row, modes_of, same_mode}

-- what has its effect everywhere has it in each mode
pub has_anywhere : (mode : Mode) → list_any (same_mode mode) everywhere ≡ true
has_anywhere Top = refl
has_anywhere Thread = refl
has_anywhere Handler = refl
has_anywhere Predicate = refl

-- the row of the definition at the number of a form has its modes
row_at : (form : Builtin) (d : Row) → (get_or builtins (form_number form) d).modes ≡ modes_of form
row_at Builtin.RegisterBThread d = refl
row_at Builtin.Sync d = refl
row_at Builtin.Event d = refl
row_at Builtin.EventSet d = refl
row_at Builtin.All d = refl
row_at Builtin.Nothing d = refl
row_at Builtin.Assert d = refl
row_at Builtin.EnqueueExternalEvent d = refl
row_at Builtin.SetInterruptHandler d = refl
row_at Builtin.LogInfo d = refl
row_at Builtin.Floor d = refl

-- and so does the row in memory
pub modes_at : (rows : List FormRow) (form : Builtin) (d : FormRow) → map form_row rows ≡ builtins → modes_in_row (get_or rows (form_number form) d).modes ≡ modes_of form
modes_at rows form d h =
    ap (λ (r : Row). r.modes) (sym (get_or-map form_row rows (form_number form) d))
    ∙ (ap (λ (rs : List Row). (get_or rs (form_number form) (form_row d)).modes) h ∙ row_at form (form_row d))
