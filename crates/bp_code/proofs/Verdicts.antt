-- Runs to each verdict, and a run with an injector, computed to the text that is printed.
use Rattle.std.proofs.Common.{◌≡◌, [], ◌∷◌, ◌++◌, Some, None, refl, true, false}
use Rattle.std.specs.Prelude.{codes}
use Rattle.std.specs.Fmt.{digits}
use Rattle.js_tree.specs.declared.tree.Operator.TheVariants as op
use Rattle.js_tree.specs.declared.tree.DeclareKind.TheVariants.{Const, Let}
use Rattle.js_data.specs.Event.{PlainEvent}
use Rattle.js_data.proofs.Shared.{named}
use Rattle.bp_log.specs.declared.record.Record.TheVariants.{In, Eof, Sel, End}
use Rattle.bp_log.specs.declared.verdict.Verdict.TheVariants as verdict
use Rattle.js_tree.specs.declared.tree.Step.TheVariants.{Increment}
use Rattle.js_tree.specs.declared.tree.Fix.TheVariants.{After}
use Rattle.js_program.specs.declared.builtin.Builtin.TheVariants as form
use Rattle.js_program.specs.PlainProgram as p
use Rattle.js_program.specs.PlainProgram.{PlainProgram}
use Rattle.js_meaning.specs.Meaning.{within, eval, iterations_of}
use Rattle.js_meaning.specs.Bodies.{evaluation, ground_of}
use Rattle.js_meaning.proofs.Small.{one, whole, slot, given, body, statements, program}
use Rattle.bp_log.specs.Options.{default_options}
use Rattle.bp_run.specs.Settling.{turn, settle_in, settle, initial}
use Rattle.bp_run.specs.Selecting.{selectable}
use Rattle.bp_run.specs.Choosing.{choice, reach}
use Rattle.bp_run.specs.Story.{step, next, after_record, story_from, story, alone_from, alone}
use Rattle.bp_log.specs.Texts.{line_text, lines_text}
use Rattle.bp_run.specs.Text.{text}
use Rattle.bp_code.proofs.Pieces.{counted, counted_alone, registers, requests, waits, logs, printed}

-- a budget of 9 is spent in a body of twelve nodes
pub spent_ends_the_run : printed (record default_options { budget = 9 })
    (registers 0 (codes "A") 0 ++ logs 4 (codes "1") ++ logs 7 (codes "2") ++ logs 10 (codes "3") ++ logs 13 (codes "4"))
    (statements 0 (6 ∷ 9 ∷ 12 ∷ 15 ∷ []) ∷ []) (3 ∷ [])
    ≡ Some (codes "log \"A\" \"1\"\nlog \"A\" \"2\"\nlog \"A\" \"3\"\nverdict spent \"A\"\n")
unfolding turn settle_in settle initial selectable choice reach step next after_record story_from story alone_from alone line_text lines_text text digits evaluation ground_of eval within iterations_of
spent_ends_the_run = refl

-- 1 / 0 at the top level
pub fault_at_the_top : printed default_options (whole 1 ∷ whole 0 ∷ one (p.binary op.Divide 0 1) ∷ one (p.expression 2) ∷ []) [] (3 ∷ [])
    ≡ Some (codes "verdict fault top 1 zero\n")
unfolding turn settle_in settle initial selectable choice reach step next after_record story_from story alone_from alone line_text lines_text text digits evaluation ground_of eval within iterations_of
fault_at_the_top = refl

-- bp.sync({request: bp.Event("t")}) again and again, with at most 5 steps
pub steps_end_the_run : printed (record default_options { steps = 5 })
    (registers 0 (codes "A") 0 ++ one (p.truth true) ∷ [] ++ requests 5 (codes "t") ++ one (p.while_of 4 9) ∷ [])
    (statements 0 (10 ∷ []) ∷ []) (3 ∷ [])
    ≡ Some (codes "event [\"t\"]\nevent [\"t\"]\nevent [\"t\"]\nevent [\"t\"]\nevent [\"t\"]\nverdict limit steps 5\n")
unfolding turn settle_in settle initial selectable choice reach step next after_record story_from story alone_from alone line_text lines_text text digits evaluation ground_of eval within iterations_of
steps_end_the_run = refl

-- A: for (let i = 0; i < 50; i++) {} bp.ASSERT(false, "first"); B: bp.ASSERT(false, "second")
pub first_violation : printed default_options
    (registers 0 (codes "A") 0 ++ registers 4 (codes "B") 1
    ++ whole 0 ∷ one (p.declaration Let (given 0 8 ∷ [])) ∷ slot 0 ∷ whole 50 ∷ one (p.binary op.Less 10 11) ∷ one (p.update Increment After 0)
    ∷ one (p.block [] []) ∷ one (p.for_three (0 ∷ []) (Some 9) (Some 12) (Some 13) 14)
    ∷ one (p.truth false) ∷ one (p.text (codes "first")) ∷ one (p.builtin form.Assert (16 ∷ 17 ∷ [])) ∷ one (p.expression 18)
    ∷ one (p.truth false) ∷ one (p.text (codes "second")) ∷ one (p.builtin form.Assert (20 ∷ 21 ∷ [])) ∷ one (p.expression 22) ∷ [])
    (statements 1 (15 ∷ 19 ∷ []) ∷ statements 0 (23 ∷ []) ∷ []) (3 ∷ 7 ∷ [])
    ≡ Some (codes "verdict violated \"A\" \"first\"\n")
unfolding turn settle_in settle initial selectable choice reach step next after_record story_from story alone_from alone line_text lines_text text digits evaluation ground_of eval within iterations_of
first_violation = refl

-- bp.sync({request: bp.Event("e"), block: bp.EventSet("p", e => 1)})
pub untrue_predicate : printed default_options
    (registers 0 (codes "A") 0
    ++ one (p.text (codes "e")) ∷ one (p.builtin form.Event (4 ∷ [])) ∷ one (p.text (codes "p")) ∷ one (p.function 1) ∷ one (p.builtin form.EventSet (6 ∷ 7 ∷ []))
    ∷ one (p.fields (codes "request" ∷ codes "block" ∷ []) (5 ∷ 8 ∷ [])) ∷ one (p.builtin form.Sync (9 ∷ [])) ∷ one (p.expression 10) ∷ whole 1 ∷ [])
    (statements 0 (11 ∷ []) ∷ body 1 1 (p.one_value 12) ∷ []) (3 ∷ [])
    ≡ Some (codes "verdict fault \"A\" 1 truth\n")
unfolding turn settle_in settle initial selectable choice reach step next after_record story_from story alone_from alone line_text lines_text text digits evaluation ground_of eval within iterations_of
untrue_predicate = refl

-- for (let i = 0; i < 3; i++) { const k = i; bp.registerBThread("t" + k, () => { bp.log.info(k) }) }
pub each_turn_has_its_own : counted_alone (program
    (whole 0 ∷ one (p.declaration Let (given 0 0 ∷ [])) ∷ slot 0 ∷ whole 3 ∷ one (p.binary op.Less 2 3) ∷ one (p.update Increment After 0)
    ∷ slot 0 ∷ one (p.declaration Const (given 1 6 ∷ []))
    ∷ one (p.text (codes "t")) ∷ slot 1 ∷ one (p.binary op.Add 8 9) ∷ one (p.function 0) ∷ one (p.builtin form.RegisterBThread (10 ∷ 11 ∷ [])) ∷ one (p.expression 12)
    ∷ one (p.block (1 ∷ []) (7 ∷ 13 ∷ [])) ∷ one (p.for_three (0 ∷ []) (Some 1) (Some 4) (Some 5) 14)
    ∷ slot 0 ∷ one (p.builtin form.LogInfo (16 ∷ [])) ∷ one (p.expression 17) ∷ [])
    (record { parameters = 0; slots = 1; captures = 1 ∷ []; vars = []; content = p.statements (18 ∷ []); line = 1 } ∷ []) [] (statements 2 (15 ∷ []))) default_options
    ≡ Some (codes "log \"t0\" \"0\"\ndone \"t0\"\nlog \"t1\" \"1\"\ndone \"t1\"\nlog \"t2\" \"2\"\ndone \"t2\"\nverdict quiet 0\n")
unfolding turn settle_in settle initial selectable choice reach step next after_record story_from story alone_from alone line_text lines_text text digits evaluation ground_of eval within iterations_of
each_turn_has_its_own = refl

-- ---- an injector: B waits for go and blocks x, C waits for x; the blocked event keeps its place and
-- is overtaken

abbrev got : PlainProgram
got =
    program
    (registers 0 (codes "B") 0 ++ registers 4 (codes "C") 1
    ++ waits 8 (codes "go") (codes "block") (codes "x")
    ++ one (p.text (codes "x")) ∷ one (p.builtin form.Event (15 ∷ [])) ∷ one (p.fields (codes "waitFor" ∷ []) (16 ∷ [])) ∷ one (p.builtin form.Sync (17 ∷ [])) ∷ one (p.expression 18) ∷ []
    ++ logs 20 (codes "got"))
    (statements 0 (14 ∷ []) ∷ statements 0 (19 ∷ 22 ∷ []) ∷ []) [] (statements 0 (3 ∷ 7 ∷ []))

abbrev x : PlainEvent
x = named (codes "x")

abbrev go : PlainEvent
go = named (codes "go")

pub blocked_event_is_overtaken :
    counted got (record default_options { injectors = 1 }) (In 0 x ∷ In 0 go ∷ Eof 0 ∷ Sel go ∷ Sel x ∷ End (verdict.Quiet 2) ∷ [])
    ≡ Some (codes "external [\"go\"]\ndone \"B\"\nexternal [\"x\"]\nlog \"C\" \"got\"\ndone \"C\"\nverdict quiet 2\n")
unfolding turn settle_in settle initial selectable choice reach step next after_record story_from story alone_from alone line_text lines_text text digits evaluation ground_of eval within iterations_of
blocked_event_is_overtaken = refl

pub blocked_event_is_not_selected :
    counted got (record default_options { injectors = 1 }) (In 0 x ∷ In 0 go ∷ Eof 0 ∷ Sel x ∷ []) ≡ None
unfolding turn settle_in settle initial selectable choice reach step next after_record story_from story alone_from alone line_text lines_text text digits evaluation ground_of eval within iterations_of
blocked_event_is_not_selected = refl
