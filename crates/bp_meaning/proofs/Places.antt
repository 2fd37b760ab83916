-- Statements and the places of bodies compute.
use Rattle.std.proofs.Common.{◌≡◌, ℕ, List, [], ◌∷◌, Some, None, refl}
use Rattle.std.specs.Prelude.{pos, negsuc, codes}
use Rattle.js_data.specs.declared.fault.Fault.TheVariants as fault
use Rattle.js_data.specs.Event.{PlainEvent}
use Rattle.js_data.proofs.Shared.{named}
use Rattle.js_tree.specs.declared.tree.Sign.TheVariants.{Minus}
use Rattle.js_value.specs.Value as v
use Rattle.js_value.specs.Value.{PlainValue}
use Rattle.js_program.specs.declared.builtin.Builtin.TheVariants as form
use Rattle.js_program.specs.declared.builtin.Mode.TheVariants.{Thread, Handler}
use Rattle.js_program.specs.PlainProgram as p
use Rattle.js_program.specs.PlainProgram.{PlainNode}
use Rattle.js_meaning.specs.State.{Ground}
use Rattle.js_meaning.specs.Meaning.{within, eval}
use Rattle.js_meaning.specs.Bodies.{Origin, the_top, function, bare, evaluation}
use Rattle.js_meaning.proofs.Small.{on, one, whole, statements, program, of_functions}
use Rattle.bp_run.specs.Bodies as run
use Rattle.bp_meaning.specs.Statements.{statement_of}
use Rattle.bp_meaning.specs.After.{after, handler, handling}

-- ---- statements

abbrev a : PlainEvent
a = named (codes "a")

abbrev b : PlainEvent
b = named (codes "b")

abbrev one_field : List ℕ → PlainValue → PlainValue
one_field key x = v.fields (v.field key x v.no_fields)

-- {} with no priority
pub empty_statement : statement_of (v.fields v.no_fields) v.undefined
    ≡ Some (record { request = []; wait_for = v.any v.no_sets; block = v.any v.no_sets; interrupt = v.any v.no_sets; priority = pos 0 })
empty_statement = refl

-- {request: [a, b], block: [[a], bp.all]} with priority 3
pub nested_block : statement_of
    (v.fields (v.field (codes "block") (v.list (v.value (v.list (v.value (v.event a) v.no_values)) (v.value (v.set v.all) v.no_values)))
    (v.field (codes "request") (v.list (v.value (v.event a) (v.value (v.event b) v.no_values))) v.no_fields))) (v.whole (pos 3))
    ≡ Some (record {
      request = a ∷ b ∷ [];
      wait_for = v.any v.no_sets;
      block = v.any (v.set_in (v.any (v.set_in (v.only a) v.no_sets)) (v.set_in v.all v.no_sets));
      interrupt = v.any v.no_sets;
      priority = pos 3;
    })
nested_block = refl

-- {requests: a}: a word that is no key; {request: [[a]]}: a list in a list; {request: bp.all}: a set;
-- and what is no fields
pub unknown_key : statement_of (one_field (codes "requests") (v.event a)) v.undefined ≡ None
unknown_key = refl

pub nested_request : statement_of (one_field (codes "request") (v.list (v.value (v.list (v.value (v.event a) v.no_values)) v.no_values))) v.undefined ≡ None
nested_request = refl

pub requested_set : statement_of (one_field (codes "request") (v.set v.all)) v.undefined ≡ None
requested_set = refl

pub no_fields_at_all : statement_of v.undefined v.undefined ≡ None
no_fields_at_all = refl

pub wrong_priority : statement_of (v.fields v.no_fields) (v.text (codes "1")) ≡ None
wrong_priority = refl

-- {request: a, waitFor: b, block: [a], interrupt: bp.all} with priority -2
pub all_keys : statement_of
    (v.fields (v.field (codes "block") (v.list (v.value (v.event a) v.no_values)) (v.field (codes "interrupt") (v.set v.all)
    (v.field (codes "request") (v.event a) (v.field (codes "waitFor") (v.event b) v.no_fields))))) (v.whole (negsuc 1))
    ≡ Some (record { request = a ∷ []; wait_for = v.only b; block = v.any (v.set_in (v.only a) v.no_sets); interrupt = v.all; priority = negsuc 1 })
all_keys = refl

-- {request: undefined, waitFor: undefined}: as if they were absent
pub undefined_keys : statement_of (v.fields (v.field (codes "request") v.undefined (v.field (codes "waitFor") v.undefined v.no_fields))) v.undefined
    ≡ Some (record { request = []; wait_for = v.any v.no_sets; block = v.any v.no_sets; interrupt = v.any v.no_sets; priority = pos 0 })
undefined_keys = refl

-- {block: 1}, {request: [a, 1]}, {interrupt: [undefined]}: what is no event and no set
pub blocked_number : statement_of (one_field (codes "block") (v.whole (pos 1))) v.undefined ≡ None
blocked_number = refl

pub requested_number : statement_of (one_field (codes "request") (v.list (v.value (v.event a) (v.value (v.whole (pos 1)) v.no_values)))) v.undefined ≡ None
requested_number = refl

pub interrupting_undefined : statement_of (one_field (codes "interrupt") (v.list (v.value v.undefined v.no_values))) v.undefined ≡ None
interrupting_undefined = refl

-- ---- bodies

-- bp.log.info("1"); bp.sync({}); bp.log.info("2"); bp.setInterruptHandler(f); bp.sync({});
-- bp.setInterruptHandler(g); bp.sync({requests: 1});  (the last on line 7)
abbrev two_stops : List PlainNode
two_stops =
    one (p.text (codes "1")) ∷ one (p.builtin form.LogInfo (0 ∷ [])) ∷ one (p.expression 1)
    ∷ one (p.fields [] []) ∷ one (p.builtin form.Sync (3 ∷ [])) ∷ one (p.expression 4)
    ∷ one (p.text (codes "2")) ∷ one (p.builtin form.LogInfo (6 ∷ [])) ∷ one (p.expression 7)
    ∷ one (p.function 1) ∷ one (p.builtin form.SetInterruptHandler (9 ∷ [])) ∷ one (p.expression 10)
    ∷ one (p.fields [] []) ∷ one (p.builtin form.Sync (12 ∷ [])) ∷ one (p.expression 13)
    ∷ one (p.function 2) ∷ one (p.builtin form.SetInterruptHandler (15 ∷ [])) ∷ one (p.expression 16)
    ∷ whole 1 ∷ one (p.fields (codes "requests" ∷ []) (18 ∷ [])) ∷ on 7 (p.builtin form.Sync (19 ∷ [])) ∷ on 7 (p.expression 20)
    ∷ []

abbrev base : Ground
base = of_functions two_stops (statements 0 (2 ∷ 5 ∷ 8 ∷ 11 ∷ 14 ∷ 17 ∷ 21 ∷ []) ∷ statements 0 [] ∷ statements 0 [] ∷ [])

abbrev body : Origin
body = function Thread (v.function 0 v.no_values) []

abbrev nothing_stated : run.Statement v.PlainSet
nothing_stated = record { request = []; wait_for = v.any v.no_sets; block = v.any v.no_sets; interrupt = v.any v.no_sets; priority = pos 0 }

pub before_replies : after base 20 body [] ≡ record { effects = run.Effect.Says (codes "1") ∷ []; outcome = run.Outcome.Stopped nothing_stated }
unfolding evaluation eval within
before_replies = refl

-- only what came after the last reply; and the budget is whole again at each
pub after_one_reply : after base 9 body (a ∷ []) ≡ record { effects = run.Effect.Says (codes "2") ∷ run.Effect.Handler ∷ []; outcome = run.Outcome.Stopped nothing_stated }
unfolding evaluation eval within
after_one_reply = refl

-- the third statement has a word that is not a key
pub after_two_replies : after base 20 body (a ∷ b ∷ []) ≡ record { effects = run.Effect.Handler ∷ []; outcome = run.Outcome.Broken fault.Statement 7 }
unfolding evaluation eval within
after_two_replies = refl

-- what a top level registers, a b-thread runs; and a failed assertion is a violation
pub registered :
    after (bare (program (one (p.text (codes "n")) ∷ one (p.function 0) ∷ one (p.builtin form.RegisterBThread (0 ∷ 1 ∷ [])) ∷ one (p.expression 2) ∷ []) (statements 0 [] ∷ []) [] (statements 0 (3 ∷ [])))) 20 the_top []
    ≡ record { effects = run.Effect.Register (codes "n") (function Thread (v.function 0 v.no_values) []) ∷ []; outcome = run.Outcome.Ended }
unfolding evaluation eval within
registered = refl

pub violated :
    after (bare (program (whole 0 ∷ one (p.text (codes "no")) ∷ one (p.builtin form.Assert (0 ∷ 1 ∷ [])) ∷ one (p.expression 2) ∷ []) [] [] (statements 0 (3 ∷ [])))) 20 the_top []
    ≡ record { effects = []; outcome = run.Outcome.Violated (codes "no") }
unfolding evaluation eval within
violated = refl

-- no handler, the first one, and the one that replaced it
pub no_handler : handling base 20 body [] b ≡ None
unfolding evaluation eval within
no_handler = refl

pub first_handler : handling base 20 body (a ∷ []) b ≡ Some (function Handler (v.function 1 v.no_values) (v.event b ∷ []))
unfolding evaluation eval within
first_handler = refl

pub replaced_handler : handler base 20 body (a ∷ b ∷ []) ≡ Some (v.function 2 v.no_values)
unfolding evaluation eval within
replaced_handler = refl

-- ---- effects and ends

-- bp.enqueueExternalEvent(bp.Event("a"))
pub enqueued :
    after (bare (program (one (p.text (codes "a")) ∷ one (p.builtin form.Event (0 ∷ [])) ∷ one (p.builtin form.EnqueueExternalEvent (1 ∷ [])) ∷ one (p.expression 2) ∷ []) [] [] (statements 0 (3 ∷ [])))) 20 the_top []
    ≡ record { effects = run.Effect.Enqueue a ∷ []; outcome = run.Outcome.Ended }
unfolding evaluation eval within
enqueued = refl

-- a top level of two nodes with a budget of one
pub spent : after (bare (program (one (p.text (codes "a")) ∷ one (p.expression 0) ∷ []) [] [] (statements 0 (1 ∷ [])))) 1 the_top [] ≡ record { effects = []; outcome = run.Outcome.Spent }
unfolding evaluation eval within
spent = refl

-- -"a", on line 3
pub broken : after (bare (program (one (p.text (codes "a")) ∷ on 3 (p.unary Minus 0) ∷ one (p.expression 1) ∷ []) [] [] (statements 0 (2 ∷ [])))) 9 the_top [] ≡ record { effects = []; outcome = run.Outcome.Broken fault.Mistyped 3 }
unfolding evaluation eval within
broken = refl

-- bp.setInterruptHandler(f); bp.sync({}); bp.log.info("1"); bp.sync({}): a handler stays over further
-- effects and replies
pub kept_handler :
    handler
    (of_functions
    (one (p.function 1) ∷ one (p.builtin form.SetInterruptHandler (0 ∷ [])) ∷ one (p.expression 1) ∷ one (p.fields [] []) ∷ one (p.builtin form.Sync (3 ∷ [])) ∷ one (p.expression 4)
    ∷ one (p.text (codes "1")) ∷ one (p.builtin form.LogInfo (6 ∷ [])) ∷ one (p.expression 7) ∷ [])
    (statements 0 (2 ∷ 5 ∷ 8 ∷ 5 ∷ []) ∷ statements 0 [] ∷ []))
    20 body (a ∷ [])
    ≡ Some (v.function 1 v.no_values)
unfolding evaluation eval within
kept_handler = refl
