-- Accepted programs, and what is printed of them.
use Rattle.std.specs.Prelude.{◌≡◌, ◌⊎◌, ℕ, List, Option, codes}
use Rattle.bp_base.specs.Pieces.{Appends, AppendsFront}
use Rattle.bp_base.specs.Worlds.{Holdings}
use Rattle.js_program.specs.PlainProgram.{PlainProgram}
use Rattle.bp_script.specs.Programs.{IsProgram}
use Rattle.bp_loading.specs.Loading.{IsUnder}
use Rattle.bp_cli.specs.declared.conclusion.Conclusion.{Conclusion}
use Rattle.bp_cli.specs.declared.conclusion.Conclusion.TheVariants.{Accepted, Ran, NotWritten, NoMemory}
use Rattle.bp_cli.specs.Outside.{Outside, WriteFailed}

-- the bytes are an accepted program
abbrev pub IsAccepted : List ℕ → Type 0
IsAccepted bytes = (program : PlainProgram) × IsProgram bytes program

-- what the world holds under the name is one, where it tells it
abbrev pub IsAcceptedUnder : Option Holdings → List ℕ → Type 0
IsAcceptedUnder holds name = (bytes : List ℕ) × IsUnder holds name bytes × IsAccepted bytes

abbrev pub accepted_line : List ℕ
accepted_line = codes "accepted\n"

-- how printing a line ends: all of it was printed; or writing failed, and a front of it was; or
-- memory ran out, and nothing was, unless writing failed too
abbrev pub LineEnds : List ℕ → Outside → Outside → Conclusion → Type 0
LineEnds line before after Accepted = Appends before.printed line after.printed
LineEnds line before after (Ran v) = Appends before.printed line after.printed
LineEnds line before after NotWritten = AppendsFront before.printed line after.printed
LineEnds line before after NoMemory =
    (after.printed ≡ before.printed)
    ⊎ (WriteFailed before after × AppendsFront before.printed line after.printed)
LineEnds line before after _ = ⊥

-- how a command ends that says of these bytes that they are accepted: it never runs them
abbrev pub SaysAccepted : List ℕ → Outside → Outside → Conclusion → Type 0
SaysAccepted bytes before after (Ran v) = ⊥
SaysAccepted bytes before after conclusion =
    IsAccepted bytes × LineEnds accepted_line before after conclusion × (after.holds ≡ before.holds)
