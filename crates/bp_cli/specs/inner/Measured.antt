-- What is printed of a run that is measured.
use Rattle.std.specs.Prelude.{◌≡◌, ℕ, List, Option, Some}
use Rattle.js_program.specs.PlainProgram.{PlainProgram}
use Rattle.bp_log.specs.Options.{default_options}
use Rattle.bp_code.specs.Code.{text_alone}
use Rattle.bp_cli.specs.declared.conclusion.Conclusion.{Conclusion}
use Rattle.bp_cli.specs.declared.conclusion.Conclusion.TheVariants.{Ran}
use Rattle.bp_cli.specs.Outside.{Outside}

-- the whole text of a run that came to a verdict was written
abbrev pub IsPrintedWhole : PlainProgram → List ℕ → Conclusion → Type 0
IsPrintedWhole program written (Ran v) = text_alone program default_options ≡ Some written
IsPrintedWhole program written _ = Unit {0}

-- the outside, once this was printed and printing has failed this often
abbrev pub printing : Outside → Option (List ℕ) → ℕ → Outside
printing outside printed faults = record outside { printed = printed; print_faults = faults }
