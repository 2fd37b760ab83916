-- Whole runs of programs, computed to the text that is printed.
use Rattle.std.proofs.Common.{◌≡◌, List, [], ◌∷◌, ◌++◌, Some, refl, true}
use Rattle.std.specs.Prelude.{codes}
use Rattle.std.specs.Fmt.{digits}
use Rattle.js_tree.specs.declared.tree.Operator.TheVariants as op
use Rattle.js_tree.specs.declared.tree.DeclareKind.TheVariants.{Const, Let}
use Rattle.js_tree.specs.declared.tree.Step.TheVariants.{Increment}
use Rattle.js_tree.specs.declared.tree.Fix.TheVariants.{After}
use Rattle.js_program.specs.declared.builtin.Builtin.TheVariants as form
use Rattle.js_program.specs.declared.node.Variable.TheVariants.{Constant}
use Rattle.js_program.specs.PlainProgram as p
use Rattle.js_program.specs.PlainProgram.{PlainNode}
use Rattle.js_meaning.specs.Meaning.{within, eval, iterations_of}
use Rattle.js_meaning.specs.Bodies.{evaluation, ground_of}
use Rattle.js_meaning.proofs.Small.{one, whole, slot, constant, given, body, statements, program}
use Rattle.bp_log.specs.Options.{default_options}
use Rattle.bp_log.specs.declared.options.Strategy.TheVariants.{Ordered}
use Rattle.bp_run.specs.Settling.{turn, settle_in, settle, initial}
use Rattle.bp_run.specs.Selecting.{selectable}
use Rattle.bp_run.specs.Choosing.{choice, reach}
use Rattle.bp_run.specs.Story.{step, next, after_record, story_from, story, alone_from, alone}
use Rattle.bp_log.specs.Texts.{line_text, lines_text}
use Rattle.bp_run.specs.Text.{text}
use Rattle.bp_code.proofs.Pieces.{counted_alone, registers, requests, waits, logs, printed}

-- ---- the empty program

pub nothing_is_quiet : printed default_options [] [] [] ≡ Some (codes "verdict quiet 0\n")
unfolding turn settle_in settle initial selectable choice reach step next after_record story_from story alone_from alone line_text lines_text text digits evaluation ground_of eval within iterations_of
nothing_is_quiet = refl

-- ---- hot and cold water, three times each, in turns

pub hot_and_cold : printed default_options
    (registers 0 (codes "Add hot") 0 ++ registers 4 (codes "Add cold") 1 ++ registers 8 (codes "Interleave") 2
    ++ requests 12 (codes "hot") ++ requests 17 (codes "hot") ++ requests 22 (codes "hot")
    ++ requests 27 (codes "cold") ++ requests 32 (codes "cold") ++ requests 37 (codes "cold")
    ++ one (p.truth true) ∷ [] ++ waits 43 (codes "hot") (codes "block") (codes "cold") ++ waits 50 (codes "cold") (codes "block") (codes "hot")
    ++ one (p.block [] (49 ∷ 56 ∷ [])) ∷ one (p.while_of 42 57) ∷ [])
    (statements 0 (16 ∷ 21 ∷ 26 ∷ []) ∷ statements 0 (31 ∷ 36 ∷ 41 ∷ []) ∷ statements 0 (58 ∷ []) ∷ [])
    (3 ∷ 7 ∷ 11 ∷ [])
    ≡ Some (codes "event [\"hot\"]\nevent [\"cold\"]\nevent [\"hot\"]\nevent [\"cold\"]\nevent [\"hot\"]\ndone \"Add hot\"\nevent [\"cold\"]\ndone \"Add cold\"\nverdict quiet 6\n")
unfolding turn settle_in settle initial selectable choice reach step next after_record story_from story alone_from alone line_text lines_text text digits evaluation ground_of eval within iterations_of
hot_and_cold = refl

-- ---- two b-threads request one event

pub both_advance : printed default_options
    (registers 0 (codes "A") 0 ++ registers 4 (codes "B") 1 ++ requests 8 (codes "e") ++ requests 13 (codes "e"))
    (statements 0 (12 ∷ []) ∷ statements 0 (17 ∷ []) ∷ []) (3 ∷ 7 ∷ [])
    ≡ Some (codes "event [\"e\"]\ndone \"A\"\ndone \"B\"\nverdict quiet 1\n")
unfolding turn settle_in settle initial selectable choice reach step next after_record story_from story alone_from alone line_text lines_text text digits evaluation ground_of eval within iterations_of
both_advance = refl

-- ---- an interrupt whose handler logs: bp.setInterruptHandler(e => { bp.log.info("stop " + e.name) })

pub handler_logs : printed default_options
    (registers 0 (codes "A") 0 ++ registers 4 (codes "B") 1
    ++ one (p.function 2) ∷ one (p.builtin form.SetInterruptHandler (8 ∷ [])) ∷ one (p.expression 9) ∷ []
    ++ waits 11 (codes "e") (codes "interrupt") (codes "e") ++ logs 18 (codes "never")
    ++ requests 21 (codes "e")
    ++ one (p.text (codes "stop ")) ∷ slot 0 ∷ one (p.member 27 (codes "name")) ∷ one (p.binary op.Add 26 28) ∷ one (p.builtin form.LogInfo (29 ∷ [])) ∷ one (p.expression 30) ∷ [])
    (statements 0 (10 ∷ 17 ∷ 20 ∷ []) ∷ statements 0 (25 ∷ []) ∷ body 1 1 (p.statements (31 ∷ [])) ∷ []) (3 ∷ 7 ∷ [])
    ≡ Some (codes "event [\"e\"]\nlog \"A\" \"stop e\"\ninterrupted \"A\"\ndone \"B\"\nverdict quiet 1\n")
unfolding turn settle_in settle initial selectable choice reach step next after_record story_from story alone_from alone line_text lines_text text digits evaluation ground_of eval within iterations_of
handler_logs = refl

-- ---- registration in waves: A registers B and C after its event, and B registers D

pub wave_after_wave : printed default_options
    (registers 0 (codes "A") 0
    ++ requests 4 (codes "a") ++ registers 9 (codes "B") 1 ++ registers 13 (codes "C") 2
    ++ logs 17 (codes "b") ++ registers 20 (codes "D") 3
    ++ logs 24 (codes "c") ++ logs 27 (codes "d"))
    (statements 0 (8 ∷ 12 ∷ 16 ∷ []) ∷ statements 0 (19 ∷ 23 ∷ []) ∷ statements 0 (26 ∷ []) ∷ statements 0 (29 ∷ []) ∷ []) (3 ∷ [])
    ≡ Some (codes "event [\"a\"]\ndone \"A\"\nlog \"B\" \"b\"\ndone \"B\"\nlog \"C\" \"c\"\ndone \"C\"\nlog \"D\" \"d\"\ndone \"D\"\nverdict quiet 1\n")
unfolding turn settle_in settle initial selectable choice reach step next after_record story_from story alone_from alone line_text lines_text text digits evaluation ground_of eval within iterations_of
wave_after_wave = refl

-- ---- strategy `ordered` takes the first request: bp.sync({request: [a, b, c]})

abbrev three_requests : List PlainNode
three_requests =
    registers 0 (codes "A") 0
    ++ one (p.text (codes "a")) ∷ one (p.builtin form.Event (4 ∷ [])) ∷ one (p.text (codes "b")) ∷ one (p.builtin form.Event (6 ∷ []))
    ∷ one (p.text (codes "c")) ∷ one (p.builtin form.Event (8 ∷ [])) ∷ one (p.list (5 ∷ 7 ∷ 9 ∷ [])) ∷ one (p.fields (codes "request" ∷ []) (10 ∷ []))
    ∷ one (p.builtin form.Sync (11 ∷ [])) ∷ one (p.expression 12) ∷ []

pub ordered_takes_the_first : printed (record default_options { strategy = Ordered }) three_requests (statements 0 (13 ∷ []) ∷ []) (3 ∷ [])
    ≡ Some (codes "event [\"a\"]\ndone \"A\"\nverdict quiet 1\n")
unfolding turn settle_in settle initial selectable choice reach step next after_record story_from story alone_from alone line_text lines_text text digits evaluation ground_of eval within iterations_of
ordered_takes_the_first = refl

-- a program whose constants its b-threads read: const x = bp.Event("x");
-- bp.registerBThread("A", () => { bp.sync({request: x}) })
pub constants_are_seen :
    counted_alone (program
    (one (p.text (codes "x")) ∷ one (p.builtin form.Event (0 ∷ [])) ∷ one (p.declaration Const (record { variable = Constant 0; value = Some 1 } ∷ []))
    ∷ registers 3 (codes "A") 0
    ++ constant 0 ∷ one (p.fields (codes "request" ∷ []) (7 ∷ [])) ∷ one (p.builtin form.Sync (8 ∷ [])) ∷ one (p.expression 9) ∷ [])
    (statements 0 (10 ∷ []) ∷ []) (p.undeclared ∷ []) (statements 0 (2 ∷ 6 ∷ []))) default_options
    ≡ Some (codes "event [\"x\"]\ndone \"A\"\nverdict quiet 1\n")
unfolding turn settle_in settle initial selectable choice reach step next after_record story_from story alone_from alone line_text lines_text text digits evaluation ground_of eval within iterations_of
constants_are_seen = refl

-- and their predicates: const open = true; bp.registerBThread("A", () => { bp.sync({request: bp.Event("e")}) });
-- bp.registerBThread("B", () => { bp.sync({waitFor: bp.EventSet("s", e => open)}) })
pub predicates_see_constants :
    counted_alone (program
    (one (p.truth true) ∷ one (p.declaration Const (record { variable = Constant 0; value = Some 0 } ∷ []))
    ∷ registers 2 (codes "A") 0 ++ registers 6 (codes "B") 1 ++ requests 10 (codes "e")
    ++ one (p.text (codes "s")) ∷ one (p.function 2) ∷ one (p.builtin form.EventSet (15 ∷ 16 ∷ [])) ∷ one (p.fields (codes "waitFor" ∷ []) (17 ∷ []))
    ∷ one (p.builtin form.Sync (18 ∷ [])) ∷ one (p.expression 19) ∷ constant 0 ∷ [])
    (statements 0 (14 ∷ []) ∷ statements 0 (20 ∷ []) ∷ body 1 1 (p.one_value 21) ∷ []) (p.undeclared ∷ []) (statements 0 (1 ∷ 5 ∷ 9 ∷ []))) default_options
    ≡ Some (codes "event [\"e\"]\ndone \"A\"\ndone \"B\"\nverdict quiet 1\n")
unfolding turn settle_in settle initial selectable choice reach step next after_record story_from story alone_from alone line_text lines_text text digits evaluation ground_of eval within iterations_of
predicates_see_constants = refl

-- ---- captured values, and words drawn among two events: the words are 0, 1, 2 ..
-- const make = i => () => { for (let r = 0; r < 4; r++) bp.sync({request: bp.Event("e", i)}) }
-- for (let i = 0; i < 2; i++) bp.registerBThread("t" + i, make(i))

pub large_two :
    counted_alone (program
    (one (p.function 0) ∷ one (p.declaration Const (record { variable = Constant 0; value = Some 0 } ∷ []))
    ∷ whole 0 ∷ one (p.declaration Let (given 0 2 ∷ [])) ∷ slot 0 ∷ whole 2 ∷ one (p.binary op.Less 4 5) ∷ one (p.update Increment After 0)
    ∷ one (p.text (codes "t")) ∷ slot 0 ∷ one (p.binary op.Add 8 9) ∷ constant 0 ∷ slot 0 ∷ one (p.call 11 (12 ∷ []))
    ∷ one (p.builtin form.RegisterBThread (10 ∷ 13 ∷ [])) ∷ one (p.expression 14) ∷ one (p.for_three (0 ∷ []) (Some 3) (Some 6) (Some 7) 15)
    ∷ one (p.function 1)
    ∷ whole 0 ∷ one (p.declaration Let (given 1 18 ∷ [])) ∷ slot 1 ∷ whole 4 ∷ one (p.binary op.Less 20 21) ∷ one (p.update Increment After 1)
    ∷ one (p.text (codes "e")) ∷ slot 0 ∷ one (p.builtin form.Event (24 ∷ 25 ∷ [])) ∷ one (p.fields (codes "request" ∷ []) (26 ∷ [])) ∷ one (p.builtin form.Sync (27 ∷ [])) ∷ one (p.expression 28)
    ∷ one (p.for_three (1 ∷ []) (Some 19) (Some 22) (Some 23) 29) ∷ [])
    (body 1 1 (p.one_value 17) ∷ record { parameters = 0; slots = 2; captures = 0 ∷ []; vars = []; content = p.statements (30 ∷ []); line = 1 } ∷ [])
    (p.undeclared ∷ []) (statements 1 (1 ∷ 16 ∷ []))) default_options
    ≡ Some (codes "event [\"e\",0]\nevent [\"e\",1]\nevent [\"e\",0]\nevent [\"e\",1]\nevent [\"e\",0]\nevent [\"e\",1]\nevent [\"e\",0]\ndone \"t0\"\nevent [\"e\",1]\ndone \"t1\"\nverdict quiet 8\n")
unfolding turn settle_in settle initial selectable choice reach step next after_record story_from story alone_from alone line_text lines_text text digits evaluation ground_of eval within iterations_of
large_two = refl

-- ---- a bare return: const f = () => { return
-- 1 }; const h = (x => x)(2); bp.registerBThread("A", () => { bp.log.info(f()); bp.log.info(h) })

pub returns_nothing :
    counted_alone (program
    (one (p.function 0) ∷ one (p.declaration Const (record { variable = Constant 0; value = Some 0 } ∷ []))
    ∷ one (p.function 1) ∷ whole 2 ∷ one (p.call 2 (3 ∷ [])) ∷ one (p.declaration Const (record { variable = Constant 1; value = Some 4 } ∷ []))
    ∷ registers 6 (codes "A") 2
    ++ one p.return_nothing ∷ whole 1 ∷ one (p.expression 11) ∷ slot 0
    ∷ constant 0 ∷ one (p.call 14 []) ∷ one (p.builtin form.LogInfo (15 ∷ [])) ∷ one (p.expression 16)
    ∷ constant 1 ∷ one (p.builtin form.LogInfo (18 ∷ [])) ∷ one (p.expression 19) ∷ [])
    (statements 0 (10 ∷ 12 ∷ []) ∷ body 1 1 (p.one_value 13) ∷ statements 0 (17 ∷ 20 ∷ []) ∷ [])
    (p.undeclared ∷ p.undeclared ∷ []) (statements 0 (1 ∷ 5 ∷ 9 ∷ []))) default_options
    ≡ Some (codes "log \"A\" \"undefined\"\nlog \"A\" \"2\"\ndone \"A\"\nverdict quiet 0\n")
unfolding turn settle_in settle initial selectable choice reach step next after_record story_from story alone_from alone line_text lines_text text digits evaluation ground_of eval within iterations_of
returns_nothing = refl

-- ---- with one step at most, each predicate and each body has the whole budget all the same

-- const open = true; bp.registerBThread("A", () => { bp.sync({request: bp.Event("e")}) });
-- bp.registerBThread("B", () => { bp.sync({waitFor: bp.EventSet("s", e => open === true)}) })
pub predicates_have_the_budget :
    counted_alone (program
    (one (p.truth true) ∷ one (p.declaration Const (record { variable = Constant 0; value = Some 0 } ∷ []))
    ∷ registers 2 (codes "A") 0 ++ registers 6 (codes "B") 1 ++ requests 10 (codes "e")
    ++ one (p.text (codes "s")) ∷ one (p.function 2) ∷ one (p.builtin form.EventSet (15 ∷ 16 ∷ [])) ∷ one (p.fields (codes "waitFor" ∷ []) (17 ∷ []))
    ∷ one (p.builtin form.Sync (18 ∷ [])) ∷ one (p.expression 19) ∷ constant 0 ∷ one (p.binary op.Same 21 0) ∷ [])
    (statements 0 (14 ∷ []) ∷ statements 0 (20 ∷ []) ∷ body 1 1 (p.one_value 22) ∷ []) (p.undeclared ∷ []) (statements 0 (1 ∷ 5 ∷ 9 ∷ []))) (record default_options { steps = 1 })
    ≡ Some (codes "event [\"e\"]\ndone \"A\"\ndone \"B\"\nverdict quiet 1\n")
unfolding turn settle_in settle initial selectable choice reach step next after_record story_from story alone_from alone line_text lines_text text digits evaluation ground_of eval within iterations_of
predicates_have_the_budget = refl

-- a handler that is a constant: function stop(e) { bp.log.info("stop") }, and bp.setInterruptHandler(stop)
pub handler_is_a_constant :
    counted_alone (program
    (registers 0 (codes "A") 0 ++ registers 4 (codes "B") 1
    ++ constant 0 ∷ one (p.builtin form.SetInterruptHandler (8 ∷ [])) ∷ one (p.expression 9) ∷ []
    ++ waits 11 (codes "e") (codes "interrupt") (codes "e") ++ requests 18 (codes "e") ++ logs 23 (codes "stop"))
    (statements 0 (10 ∷ 17 ∷ []) ∷ statements 0 (22 ∷ []) ∷ body 1 1 (p.statements (25 ∷ [])) ∷ []) (p.of_function 2 ∷ []) (statements 0 (3 ∷ 7 ∷ []))) (record default_options { steps = 1 })
    ≡ Some (codes "event [\"e\"]\nlog \"A\" \"stop\"\ninterrupted \"A\"\ndone \"B\"\nverdict quiet 1\n")
unfolding turn settle_in settle initial selectable choice reach step next after_record story_from story alone_from alone line_text lines_text text digits evaluation ground_of eval within iterations_of
handler_is_a_constant = refl
