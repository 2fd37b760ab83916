-- What is printed of the large program.
use Rattle.std.specs.Prelude.{◌≡◌, ◌==◌, ℕ, Bool, true, false, List, ◌++◌, length, count_by, decimal, codes, Some, IsSomeAnd}
use mathlib.Core.List.{IsPrefix}
use Rattle.js_program.specs.PlainProgram.{PlainProgram}
use Rattle.bp_log.specs.Options.{default_options}
use Rattle.bp_log.specs.declared.record.Record.{Record}
use Rattle.bp_log.specs.declared.record.Record.TheVariants.{Sel}
use Rattle.bp_log.specs.Records.{verdict_of}
use Rattle.bp_code.specs.Code.{records_alone, text_alone}
use Rattle.bp_script.specs.Programs.{IsProgram}
use Rattle.bp_large.specs.Large.{large_program}
use Rattle.bp_cli.specs.declared.conclusion.Conclusion.{Conclusion}
use Rattle.bp_cli.specs.declared.conclusion.Conclusion.TheVariants.{Ran, NotWritten, NoMemory}
use Rattle.bp_cli.specs.Outside.{Outside}
use Rattle.bp_cli.specs.Texts.{LineEnds}

abbrev pub is_selection : Record → Bool
is_selection (Sel e) = true
is_selection _ = false

-- the number of b-threads, and the selected events, the lines and the bytes of the text of a run
unfoldable pub large_line : ℕ → List Record → List ℕ → List ℕ
large_line n records text =
    codes "large " ++ (decimal n ++ (codes " events " ++ (decimal (count_by is_selection records)
    ++ (codes " lines " ++ (decimal (count_by (λ byte. byte == 10) text)
    ++ (codes " bytes " ++ (decimal (length text) ++ codes "\n")))))))

-- the line of the one run of the program under the default options
abbrev pub line_of : ℕ → PlainProgram → List ℕ → List ℕ
line_of n program text = large_line n (records_alone program default_options) text

-- a run that came to a verdict is the one run; else writing failed or memory ran out
abbrev pub IsOneRun : PlainProgram → List Record → Conclusion → Type 0
IsOneRun program records (Ran v) =
    (verdict_of records ≡ Some v) × (records ≡ records_alone program default_options)
IsOneRun program records NotWritten = Unit {0}
IsOneRun program records NoMemory = Unit {0}
IsOneRun program records _ = ⊥

-- How measuring the program of this many b-threads ends, which is accepted: these are the records of
-- its run, or the first of them, and the line of the one run was printed as that ends.
pub record Measures (n : ℕ) (records : List Record) (before after : Outside)
    (conclusion : Conclusion) : Type 0 where
  pub program : PlainProgram
  pub is_program : IsProgram (large_program n) program
  pub begins : IsPrefix records (records_alone program default_options)
  pub one_run : IsOneRun program records conclusion
  pub prints : IsSomeAnd (text_alone program default_options)
      (λ text. LineEnds (line_of n program text) before after conclusion)
  pub holds : after.holds ≡ before.holds
