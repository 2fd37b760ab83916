-- Why events were selected, computed at runs of the small language that were worked out by hand.
use Rattle.std.proofs.Common.{◌≡◌, ℕ, List, [], ◌∷◌, refl}
use Rattle.std.specs.Prelude.{pos, Option, Some, None, codes}
use Rattle.std.specs.Fmt.{digits}
use Rattle.js_data.specs.Event.{PlainEvent}
use Rattle.js_data.specs.declared.fault.Fault.TheVariants.{Zero}
use Rattle.bp_log.specs.Logs.{record_text}
use Rattle.bp_log.specs.Options.{PlainOptions, default_options}
use Rattle.bp_log.specs.Texts.{line_text}
use Rattle.bp_log.specs.declared.options.Strategy.{Strategy}
use Rattle.bp_log.specs.declared.options.Strategy.TheVariants.{Simple, Ordered, Priority}
use Rattle.bp_log.specs.declared.record.Record.{Record}
use Rattle.bp_log.specs.declared.record.Record.TheVariants.{In, Eof, Sel, End}
use Rattle.bp_log.specs.declared.verdict.Place.TheVariants.{Thread as Named}
use Rattle.bp_log.specs.declared.verdict.Verdict.TheVariants as verdict
use Rattle.bp_run.specs.Bodies.{Part}
use Rattle.bp_run.specs.Bodies.Effect.{Register}
use Rattle.bp_run.specs.Bodies.Outcome.{Broken}
use Rattle.bp_run.specs.Settling.{turn, settle_in, settle, initial}
use Rattle.bp_run.specs.Selecting.{selectable}
use Rattle.bp_run.specs.Choosing.{choice, reach}
use Rattle.bp_run.specs.Story.{step, next, after_record, story_from, story}
use Rattle.bp_run.proofs.Rows.{Small, All, Nothing, Only, Fails, Body, Main, A, B, C, x, y, go, at_point, asking, doing, code, with_injectors, one_blocked, one_overtaken, interrupted_by_x, outcome_of_A}
use Rattle.bp_explain.specs.Whys.{why_text, why, asked_text, why_not}

abbrev reason : (Body → List PlainEvent → Part Body Small) → PlainOptions → ℕ → List Record → Option (List ℕ)
reason body o n records = why (code body) o n records

abbrev under : Strategy → PlainOptions
under s = record default_options { strategy = s }

-- ---- the word of a place is 5 more than the place

-- x and y are requested by A, y and go by B, and C blocks x and waits for all
abbrev many_ask : Body → List PlainEvent → Part Body Small
many_ask Main replies = doing (Register (codes "A") A ∷ Register (codes "B") B ∷ Register (codes "C") C ∷ [])
many_ask A [] = at_point (x ∷ y ∷ []) Nothing Nothing Nothing
many_ask B [] = asking (pos 2) (y ∷ go ∷ []) Nothing Nothing Nothing
many_ask C [] = at_point [] All (Only x) Nothing
many_ask _ replies = doing []

pub a_word_is_drawn : reason many_ask default_options 0 (Sel go ∷ [])
    ≡ Some (codes "selection 1, record 1\ncandidate [\"x\"], requested by \"A\", blocked by \"C\"\ncandidate [\"y\"], requested by \"A\", \"B\"\ncandidate [\"go\"], requested by \"B\"\nstrategy simple leaves [\"y\"], [\"go\"]\nword 5 mod 2 is 1\nselected [\"go\"]\nmoved \"B\", \"C\"\n")
unfolding turn settle_in settle initial selectable choice reach step next after_record story_from story record_text digits why_text why
a_word_is_drawn = refl

-- B's first request is A's second, whose first is blocked
pub one_event_is_left : reason many_ask (under Ordered) 0 (Sel y ∷ [])
    ≡ Some (codes "selection 1, record 1\ncandidate [\"x\"], requested by \"A\", blocked by \"C\"\ncandidate [\"y\"], requested by \"A\", \"B\"\ncandidate [\"go\"], requested by \"B\"\nstrategy ordered leaves [\"y\"]\nselected [\"y\"]\nmoved \"A\", \"B\", \"C\"\n")
unfolding turn settle_in settle initial selectable choice reach step next after_record story_from story record_text digits why_text why
one_event_is_left = refl

-- B and C have ended
pub the_next_word_is_drawn : reason many_ask default_options 1 (Sel go ∷ Sel x ∷ [])
    ≡ Some (codes "selection 2, record 2\ncandidate [\"x\"], requested by \"A\"\ncandidate [\"y\"], requested by \"A\"\nstrategy simple leaves [\"x\"], [\"y\"]\nword 6 mod 2 is 0\nselected [\"x\"]\nmoved \"A\"\n")
unfolding turn settle_in settle initial selectable choice reach step next after_record story_from story record_text digits why_text why
the_next_word_is_drawn = refl

-- ---- A requests x, B requests y and go with more priority

abbrev three_ways : Body → List PlainEvent → Part Body Small
three_ways Main replies = doing (Register (codes "A") A ∷ Register (codes "B") B ∷ [])
three_ways A [] = asking (pos 1) (x ∷ []) Nothing Nothing Nothing
three_ways B [] = asking (pos 3) (y ∷ go ∷ []) Nothing Nothing Nothing
three_ways _ replies = doing []

pub simple_leaves_all : reason three_ways (under Simple) 0 (Sel go ∷ [])
    ≡ Some (codes "selection 1, record 1\ncandidate [\"x\"], requested by \"A\"\ncandidate [\"y\"], requested by \"B\"\ncandidate [\"go\"], requested by \"B\"\nstrategy simple leaves [\"x\"], [\"y\"], [\"go\"]\nword 5 mod 3 is 2\nselected [\"go\"]\nmoved \"B\"\n")
unfolding turn settle_in settle initial selectable choice reach step next after_record story_from story record_text digits why_text why
simple_leaves_all = refl

pub ordered_leaves_the_firsts : reason three_ways (under Ordered) 0 (Sel y ∷ [])
    ≡ Some (codes "selection 1, record 1\ncandidate [\"x\"], requested by \"A\"\ncandidate [\"y\"], requested by \"B\"\ncandidate [\"go\"], requested by \"B\"\nstrategy ordered leaves [\"x\"], [\"y\"]\nword 5 mod 2 is 1\nselected [\"y\"]\nmoved \"B\"\n")
unfolding turn settle_in settle initial selectable choice reach step next after_record story_from story record_text digits why_text why
ordered_leaves_the_firsts = refl

pub priority_leaves_the_greatest : reason three_ways (under Priority) 0 (Sel go ∷ [])
    ≡ Some (codes "selection 1, record 1\ncandidate [\"x\"], requested by \"A\"\ncandidate [\"y\"], requested by \"B\"\ncandidate [\"go\"], requested by \"B\"\nstrategy priority leaves [\"y\"], [\"go\"]\nword 5 mod 2 is 1\nselected [\"go\"]\nmoved \"B\"\n")
unfolding turn settle_in settle initial selectable choice reach step next after_record story_from story record_text digits why_text why
priority_leaves_the_greatest = refl

-- B has ended
pub a_single_candidate_needs_no_word : reason three_ways (under Priority) 1 (Sel go ∷ Sel x ∷ [])
    ≡ Some (codes "selection 2, record 2\ncandidate [\"x\"], requested by \"A\"\nstrategy priority leaves [\"x\"]\nselected [\"x\"]\nmoved \"A\"\n")
unfolding turn settle_in settle initial selectable choice reach step next after_record story_from story record_text digits why_text why
a_single_candidate_needs_no_word = refl

-- ---- events from outside

pub one_that_waits_is_overtaken : reason one_overtaken (with_injectors 1) 0 (In 0 x ∷ In 0 go ∷ Sel go ∷ [])
    ≡ Some (codes "selection 1, record 3\nwaiting [\"x\"], blocked by \"B\"\nselected [\"go\"], from the queue\nmoved \"B\"\n")
unfolding turn settle_in settle initial selectable choice reach step next after_record story_from story record_text digits why_text why
one_that_waits_is_overtaken = refl

-- B no longer blocks x then, and C hears it
pub later_selections_are_counted : reason one_overtaken (with_injectors 1) 1 (In 0 x ∷ In 0 go ∷ Sel go ∷ Eof 0 ∷ Sel x ∷ [])
    ≡ Some (codes "selection 2, record 5\nselected [\"x\"], from the queue\nmoved \"C\"\n")
unfolding turn settle_in settle initial selectable choice reach step next after_record story_from story record_text digits why_text why
later_selections_are_counted = refl

-- A requests x, which B and C block; B blocks it for itself, and C hears all
abbrev held : Body → List PlainEvent → Part Body Small
held Main replies = doing (Register (codes "A") A ∷ Register (codes "B") B ∷ Register (codes "C") C ∷ [])
held A [] = at_point (x ∷ []) Nothing Nothing Nothing
held B [] = at_point (x ∷ []) Nothing (Only x) Nothing
held C [] = at_point [] All (Only x) Nothing
held _ replies = doing []

pub everyone_who_blocks_a_request_is_named : reason held (with_injectors 1) 0 (In 0 go ∷ Sel go ∷ [])
    ≡ Some (codes "selection 1, record 2\ncandidate [\"x\"], requested by \"A\", \"B\", blocked by \"B\", \"C\"\nselected [\"go\"], from the queue\nmoved \"C\"\n")
unfolding turn settle_in settle initial selectable choice reach step next after_record story_from story record_text digits why_text why
everyone_who_blocks_a_request_is_named = refl

-- A has ended, and B waits for nothing
pub nobody_is_reached : reason one_blocked (with_injectors 1) 1 (Sel y ∷ In 0 go ∷ Sel go ∷ [])
    ≡ Some (codes "selection 2, record 3\nselected [\"go\"], from the queue\n")
unfolding turn settle_in settle initial selectable choice reach step next after_record story_from story record_text digits why_text why
nobody_is_reached = refl

-- ---- interrupted

pub who_is_interrupted_is_named : reason interrupted_by_x default_options 0 (Sel x ∷ [])
    ≡ Some (codes "selection 1, record 1\ncandidate [\"x\"], requested by \"B\"\nstrategy simple leaves [\"x\"]\nselected [\"x\"]\nmoved \"B\"\ninterrupted \"A\"\n")
unfolding turn settle_in settle initial selectable choice reach step next after_record story_from story record_text digits why_text why
who_is_interrupted_is_named = refl

-- A requests what interrupts it, and waits for it: it is interrupted, and C, which waits, moves
abbrev own_interrupt : Body → List PlainEvent → Part Body Small
own_interrupt Main replies = doing (Register (codes "A") A ∷ Register (codes "B") B ∷ Register (codes "C") C ∷ [])
own_interrupt A [] = at_point (x ∷ []) All Nothing (Only x)
own_interrupt B [] = at_point [] Nothing Nothing All
own_interrupt C [] = at_point [] (Only x) Nothing (Only y)
own_interrupt _ replies = doing []

pub interrupts_come_first : reason own_interrupt default_options 0 (Sel x ∷ [])
    ≡ Some (codes "selection 1, record 1\ncandidate [\"x\"], requested by \"A\"\nstrategy simple leaves [\"x\"]\nselected [\"x\"]\nmoved \"C\"\ninterrupted \"A\", \"B\"\n")
unfolding turn settle_in settle initial selectable choice reach step next after_record story_from story record_text digits why_text why
interrupts_come_first = refl

-- ---- there is no such selection, or it was not made

pub there_is_no_such_selection : reason many_ask default_options 1 (Sel go ∷ []) ≡ None
unfolding turn settle_in settle initial selectable choice reach step next after_record story_from story record_text digits why_text why
there_is_no_such_selection = refl

pub nothing_was_selected : reason many_ask default_options 0 (End (verdict.Quiet 0) ∷ []) ≡ None
unfolding turn settle_in settle initial selectable choice reach step next after_record story_from story record_text digits why_text why
nothing_was_selected = refl

-- x is blocked
pub what_was_not_selected_has_no_reason : reason many_ask default_options 0 (Sel x ∷ []) ≡ None
unfolding turn settle_in settle initial selectable choice reach step next after_record story_from story record_text digits why_text why
what_was_not_selected_has_no_reason = refl

-- ---- an event where the run ends

abbrev asked : (Body → List PlainEvent → Part Body Small) → PlainOptions → PlainEvent → List Record → Option (List ℕ)
asked body o e records = why_not (code body) o e records

pub who_requests_and_who_blocks : asked held default_options x []
    ≡ Some (codes "before the first record\nevent [\"x\"], requested by \"A\", \"B\", blocked by \"B\", \"C\"\n")
unfolding turn settle_in settle initial selectable choice reach step next after_record story_from story record_text line_text digits asked_text why_not
who_requests_and_who_blocks = refl

pub nobody_blocks_it : asked one_blocked default_options y []
    ≡ Some (codes "before the first record\nevent [\"y\"], requested by \"A\", blocked by nobody\n")
unfolding turn settle_in settle initial selectable choice reach step next after_record story_from story record_text line_text digits asked_text why_not
nobody_blocks_it = refl

-- A has ended
pub nobody_requests_it : asked one_blocked default_options x (Sel y ∷ End (verdict.Quiet 1) ∷ [])
    ≡ Some (codes "after record 2: end quiet 1\nevent [\"x\"], requested by nobody, blocked by \"B\"\nverdict quiet 1\n")
unfolding turn settle_in settle initial selectable choice reach step next after_record story_from story record_text line_text digits asked_text why_not
nobody_requests_it = refl

pub nobody_knows_it : asked one_blocked default_options go []
    ≡ Some (codes "before the first record\nevent [\"go\"], requested by nobody, blocked by nobody\n")
unfolding turn settle_in settle initial selectable choice reach step next after_record story_from story record_text line_text digits asked_text why_not
nobody_knows_it = refl

-- A requests x, and B blocks what it cannot tell
abbrev faulty : Body → List PlainEvent → Part Body Small
faulty Main replies = doing (Register (codes "A") A ∷ Register (codes "B") B ∷ [])
faulty A [] = at_point (x ∷ []) Nothing Nothing Nothing
faulty B [] = at_point [] Nothing (Fails 7 x) Nothing
faulty _ replies = doing []

pub a_set_at_fault_blocks_nothing : asked faulty default_options x []
    ≡ Some (codes "before the first record\nevent [\"x\"], requested by \"A\", blocked by nobody\n")
unfolding turn settle_in settle initial selectable choice reach step next after_record story_from story record_text line_text digits asked_text why_not
a_set_at_fault_blocks_nothing = refl

pub where_a_fault_is_the_verdict_nothing_is_said_of_it : asked (outcome_of_A (Broken Zero 7)) default_options x (End (verdict.Fault (Named (codes "A")) 7 Zero) ∷ [])
    ≡ Some (codes "after record 1: end fault \"A\" 7 zero\nthe run ended before its b-threads stood\nverdict fault \"A\" 7 zero\n")
unfolding turn settle_in settle initial selectable choice reach step next after_record story_from story record_text line_text digits asked_text why_not
where_a_fault_is_the_verdict_nothing_is_said_of_it = refl

pub records_that_are_no_story_say_nothing_of_it : asked many_ask default_options x (Sel x ∷ []) ≡ None
unfolding turn settle_in settle initial selectable choice reach step next after_record story_from story record_text line_text digits asked_text why_not
records_that_are_no_story_say_nothing_of_it = refl
