-- Pieces of programs; each begins with the node of the given number.
use Rattle.std.proofs.Common.{ℕ, ◌+◌, List, [], ◌∷◌, Option}
use Rattle.std.specs.Prelude.{codes}
use Rattle.js_program.specs.declared.builtin.Builtin.TheVariants as form
use Rattle.js_program.specs.PlainProgram as p
use Rattle.js_program.specs.PlainProgram.{PlainNode, PlainBody, PlainProgram}
use Rattle.js_meaning.proofs.Small.{one, statements, program}
use Rattle.bp_log.specs.Options.{PlainOptions}
use Rattle.bp_log.specs.declared.record.Record.{Record}
use Rattle.js_value.specs.Value.{PlainSet}
use Rattle.js_meaning.specs.Bodies.{Origin}
use Rattle.bp_run.specs.Bodies.{Code}
use Rattle.bp_run.specs.Story.{alone}
use Rattle.bp_run.specs.Text.{text}
use Rattle.bp_code.specs.Code.{code_of}

-- 4 nodes: bp.registerBThread(name, the function of this number);
abbrev pub registers : ℕ → List ℕ → ℕ → List PlainNode
registers k name code =
    one (p.text name) ∷ one (p.function code) ∷ one (p.builtin form.RegisterBThread (k ∷ (k + 1) ∷ [])) ∷ one (p.expression (k + 2)) ∷ []

-- 5 nodes: bp.sync({request: bp.Event(name)});
abbrev pub requests : ℕ → List ℕ → List PlainNode
requests k name =
    one (p.text name) ∷ one (p.builtin form.Event (k ∷ [])) ∷ one (p.fields (codes "request" ∷ []) ((k + 1) ∷ []))
    ∷ one (p.builtin form.Sync ((k + 2) ∷ [])) ∷ one (p.expression (k + 3)) ∷ []

-- 7 nodes: bp.sync({waitFor: bp.Event(first), key: bp.Event(second)});
abbrev pub waits : ℕ → List ℕ → List ℕ → List ℕ → List PlainNode
waits k first key second =
    one (p.text first) ∷ one (p.builtin form.Event (k ∷ [])) ∷ one (p.text second) ∷ one (p.builtin form.Event ((k + 2) ∷ []))
    ∷ one (p.fields (codes "waitFor" ∷ key ∷ []) ((k + 1) ∷ (k + 3) ∷ [])) ∷ one (p.builtin form.Sync ((k + 4) ∷ [])) ∷ one (p.expression (k + 5)) ∷ []

-- 3 nodes: bp.log.info(text);
abbrev pub logs : ℕ → List ℕ → List PlainNode
logs k text = one (p.text text) ∷ one (p.builtin form.LogInfo (k ∷ [])) ∷ one (p.expression (k + 1)) ∷ []

-- the code of a program, with the number n for the word at place n
abbrev pub counting : PlainProgram → PlainOptions → Code Origin PlainSet
counting program options = record (code_of program options) { word = λ n. n }

abbrev pub counted : PlainProgram → PlainOptions → List Record → Option (List ℕ)
counted program options records = text (counting program options) options records

abbrev pub counted_alone : PlainProgram → PlainOptions → Option (List ℕ)
counted_alone program options = counted program options (alone (counting program options) options)

abbrev pub printed : PlainOptions → List PlainNode → List PlainBody → List ℕ → Option (List ℕ)
printed options nodes functions top = counted_alone (program nodes functions [] (statements 0 top)) options
