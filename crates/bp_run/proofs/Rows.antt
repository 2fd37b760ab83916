-- A small language, and the definitions computed at programs of it.
use Rattle.std.proofs.Common.{◌≡◌, ℕ, ◌+◌, Bool, true, false, List, [], ◌∷◌, ◌++◌, length, refl}
use Rattle.std.specs.Prelude.{ℤ, pos, negsuc, Option, Some, None, Result, Ok, Err, codes, replicate, option_map, if◌then◌else◌}
use Rattle.std.specs.Fmt.{digits}
use Rattle.js_data.specs.Data.{null, truth, whole, text as words, list, fields, no_data, item, no_fields, field}
use Rattle.js_data.specs.Event.{PlainEvent, same_event}
use Rattle.js_data.specs.declared.fault.Fault.TheVariants.{Zero}
use Rattle.js_data.proofs.Shared.{named}
use Rattle.bp_log.specs.Options.{PlainOptions, default_options}
use Rattle.bp_log.specs.Texts.{line_text, lines_text}
use Rattle.bp_log.specs.declared.options.Strategy.{Strategy}
use Rattle.bp_log.specs.declared.options.Strategy.TheVariants.{Simple, Ordered, Priority}
use Rattle.bp_log.specs.declared.record.Record.{Record}
use Rattle.bp_log.specs.declared.record.Record.TheVariants.{In, Bad, Eof, Sel, End}
use Rattle.bp_log.specs.declared.verdict.Verdict.TheVariants as verdict
use Rattle.bp_run.specs.Bodies.{Code, Part, Outcome, Effect, SetFault}
use Rattle.bp_run.specs.Bodies.Outcome.{Stopped, Ended, Broken, Violated, Spent}
use Rattle.bp_run.specs.Bodies.Effect.{Says, Enqueue, Register, Handler}
use Rattle.bp_run.specs.Configuration.{Configuration}
use Rattle.bp_run.specs.Settling.{turn, settle_in, settle, initial}
use Rattle.bp_run.specs.Selecting.{selectable}
use Rattle.bp_run.specs.Choosing.{choice, reach}
use Rattle.bp_run.specs.Story.{step, next, after_record, story_from, story, alone_from, alone}
use Rattle.bp_run.specs.Story.Next.{Waits}
use Rattle.bp_run.specs.Text.{text}

-- ---- the language

-- sets
pub data Small : Type 0 where
  All : Small
  Nothing : Small
  Only : PlainEvent → Small
  Untrue : Small
  -- at fault on this event alone
  Fails : ℕ → PlainEvent → Small

abbrev pub has : Small → PlainEvent → Result Bool SetFault
has All e = Ok true
has Nothing e = Ok false
has (Only f) e = Ok (same_event f e)
has Untrue e = Err (SetFault.NotTruth 1)
has (Fails n f) e = if same_event e f then Err (SetFault.NotTruth n) else Ok false

-- bodies
pub data Body : Type 0 where
  Main : Body
  A : Body
  B : Body
  C : Body
  D : Body

abbrev pub asking : ℤ → List PlainEvent → Small → Small → Small → Part Body Small
asking priority request wait_for block interrupt =
    record { effects = []; outcome = Stopped (record { request = request; wait_for = wait_for; block = block; interrupt = interrupt; priority = priority }) }

abbrev pub at_point : List PlainEvent → Small → Small → Small → Part Body Small
at_point = asking (pos 0)

abbrev pub first : List (Effect Body) → Part Body Small → Part Body Small
first effects part = record part { effects = effects }

abbrev pub doing : List (Effect Body) → Part Body Small
doing effects = record { effects = effects; outcome = Ended }

abbrev pub no_handler : Body → List PlainEvent → PlainEvent → Option Body
no_handler o replies e = None

abbrev pub code : (Body → List PlainEvent → Part Body Small) → Code Body Small
code after = record { top = Main; after = after; handling = no_handler; has = has; word = λ n. n + 5 }

-- with this many injectors
abbrev pub with_injectors : ℕ → PlainOptions
with_injectors n = record default_options { injectors = n }

abbrev pub x : PlainEvent
x = named (codes "x")

abbrev pub y : PlainEvent
y = named (codes "y")

abbrev pub go : PlainEvent
go = named (codes "go")

abbrev pub printed : (Body → List PlainEvent → Part Body Small) → PlainOptions → Option (List ℕ)
printed body o = text (code body) o (alone (code body) o)

-- ---- nothing

abbrev pub nothing_at_all : Body → List PlainEvent → Part Body Small
nothing_at_all o replies = doing []

pub empty_program_is_quiet : printed nothing_at_all default_options ≡ Some (codes "verdict quiet 0\n")
unfolding turn settle_in settle initial selectable choice reach step next after_record story_from story alone_from alone line_text lines_text text digits
empty_program_is_quiet = refl

-- ---- A requests x and y, B blocks x

abbrev pub one_blocked : Body → List PlainEvent → Part Body Small
one_blocked Main replies = doing (Register (codes "A") A ∷ Register (codes "B") B ∷ [])
one_blocked A [] = at_point (x ∷ y ∷ []) Nothing Nothing Nothing
one_blocked A (e ∷ es) = doing []
one_blocked B replies = at_point [] Nothing (Only x) Nothing
one_blocked _ replies = doing []

-- every word is 0, which draws the first of several
abbrev drawing_the_first : Code Body Small
drawing_the_first = record (code one_blocked) { word = λ n. 0 }

-- x is the first candidate, and would be drawn if it were not blocked
pub blocked_request_is_not_selected :
    text drawing_the_first default_options (alone drawing_the_first default_options) ≡ Some (codes "event [\"y\"]\ndone \"A\"\nverdict quiet 1\n")
unfolding turn settle_in settle initial selectable choice reach step next after_record story_from story alone_from alone line_text lines_text text digits
blocked_request_is_not_selected = refl

-- ---- B waits for go and blocks x, C waits for x

abbrev pub one_overtaken : Body → List PlainEvent → Part Body Small
one_overtaken Main replies = doing (Register (codes "B") B ∷ Register (codes "C") C ∷ [])
one_overtaken B [] = at_point [] (Only go) (Only x) Nothing
one_overtaken B (e ∷ es) = doing []
one_overtaken C [] = at_point [] (Only x) Nothing Nothing
one_overtaken C (e ∷ es) = doing (Says (codes "got") ∷ [])
one_overtaken _ replies = doing []

abbrev pub overtaking : List Record
overtaking = In 0 x ∷ In 0 go ∷ Eof 0 ∷ Sel go ∷ Sel x ∷ End (verdict.Quiet 2) ∷ []

pub blocked_external_keeps_its_place :
    text (code one_overtaken) (with_injectors 1) overtaking
    ≡ Some (codes "external [\"go\"]\ndone \"B\"\nexternal [\"x\"]\nlog \"C\" \"got\"\ndone \"C\"\nverdict quiet 2\n")
unfolding turn settle_in settle initial selectable choice reach step next after_record story_from story alone_from alone line_text lines_text text digits
blocked_external_keeps_its_place = refl

pub blocked_external_is_not_selected : story (code one_overtaken) (with_injectors 1) (In 0 x ∷ In 0 go ∷ Eof 0 ∷ Sel x ∷ []) ≡ None
unfolding turn settle_in settle initial selectable choice reach step next after_record story_from story
blocked_external_is_not_selected = refl

-- ---- injectors

pub waits_for_its_injector : next (code one_overtaken) (with_injectors 1) (initial (code one_overtaken) 1) ≡ Waits
unfolding turn settle_in settle initial selectable choice reach step next
waits_for_its_injector = refl

-- the same run, which doesn't wait
abbrev unwaiting : PlainOptions
unwaiting = record (with_injectors 1) { wait = false }

pub ends_where_it_would_wait : text (code one_overtaken) unwaiting (End (verdict.Quiet 0) ∷ []) ≡ Some (codes "verdict quiet 0\n")
unfolding turn settle_in settle initial selectable choice reach step next after_record story_from story line_text lines_text text digits
ends_where_it_would_wait = refl

-- what came before is taken, and what comes too late is in no record
pub takes_what_came : text (code one_overtaken) unwaiting (In 0 go ∷ Sel go ∷ End (verdict.Quiet 1) ∷ []) ≡ Some (codes "external [\"go\"]\ndone \"B\"\nverdict quiet 1\n")
unfolding turn settle_in settle initial selectable choice reach step next after_record story_from story line_text lines_text text digits
takes_what_came = refl

-- a bad line still ends it
pub bad_line_ends_it : text (code one_overtaken) unwaiting (Bad 0 2 ∷ End (verdict.Bad 0 2) ∷ []) ≡ Some (codes "verdict bad 0 2\n")
unfolding turn settle_in settle initial selectable choice reach step next after_record story_from story line_text lines_text text digits
bad_line_ends_it = refl

pub nothing_comes_after_the_end_of_input : story (code one_overtaken) (with_injectors 2) (In 1 x ∷ Eof 1 ∷ In 1 x ∷ []) ≡ None
unfolding turn settle_in settle initial selectable choice reach step next after_record story_from story
nothing_comes_after_the_end_of_input = refl

pub nothing_comes_of_an_unknown_injector : story (code one_overtaken) (with_injectors 2) (In 2 x ∷ []) ≡ None
unfolding turn settle_in settle initial selectable choice reach step next after_record story_from story
nothing_comes_of_an_unknown_injector = refl

pub injectors_end_once : story (code one_overtaken) (with_injectors 2) (Eof 0 ∷ Bad 0 7 ∷ []) ≡ None
unfolding turn settle_in settle initial selectable choice reach step next after_record story_from story
injectors_end_once = refl

pub first_bad_line_is_the_verdict :
    text (code one_overtaken) (with_injectors 3) (In 1 go ∷ Bad 1 2 ∷ Bad 0 5 ∷ Sel go ∷ End (verdict.Bad 1 2) ∷ [])
    ≡ Some (codes "external [\"go\"]\ndone \"B\"\nverdict bad 1 2\n")
unfolding turn settle_in settle initial selectable choice reach step next after_record story_from story alone_from alone line_text lines_text text digits
first_bad_line_is_the_verdict = refl

pub nothing_follows_the_verdict : story (code one_overtaken) (with_injectors 1) (Bad 0 2 ∷ End (verdict.Bad 0 2) ∷ End (verdict.Bad 0 2) ∷ []) ≡ None
unfolding turn settle_in settle initial selectable choice reach step next after_record story_from story
nothing_follows_the_verdict = refl

-- ---- A and B request the same event

abbrev pub both_ask : Body → List PlainEvent → Part Body Small
both_ask Main replies = doing (Register (codes "A") A ∷ Register (codes "B") B ∷ [])
both_ask A [] = at_point (x ∷ []) Nothing Nothing Nothing
both_ask B [] = at_point (x ∷ []) Nothing Nothing Nothing
both_ask _ replies = doing []

pub one_event_moves_both : printed both_ask default_options ≡ Some (codes "event [\"x\"]\ndone \"A\"\ndone \"B\"\nverdict quiet 1\n")
unfolding turn settle_in settle initial selectable choice reach step next after_record story_from story alone_from alone line_text lines_text text digits
one_event_moves_both = refl

pub one_candidate_draws_nothing : option_map (λ (c : Configuration Body). c.drawn) (story (code both_ask) default_options (Sel x ∷ [])) ≡ Some 0
unfolding turn settle_in settle initial selectable choice reach step next after_record story_from story
one_candidate_draws_nothing = refl

-- one move for the transition, and one for each that receives the event
pub weight_of_a_transition : option_map (λ (c : Configuration Body). c.stand.weight) (story (code both_ask) default_options (Sel x ∷ [])) ≡ Some 9
unfolding turn settle_in settle initial selectable choice reach step next after_record story_from story
weight_of_a_transition = refl

-- ---- A sets a handler and is interrupted by x, which B requests

abbrev pub interrupted_by_x : Body → List PlainEvent → Part Body Small
interrupted_by_x Main replies = doing (Register (codes "A") A ∷ Register (codes "B") B ∷ [])
interrupted_by_x A [] = first (Handler ∷ []) (at_point [] (Only x) Nothing (Only x))
interrupted_by_x A (e ∷ es) = doing (Says (codes "never") ∷ [])
interrupted_by_x B [] = at_point (x ∷ []) Nothing Nothing Nothing
interrupted_by_x B (e ∷ es) = doing []
interrupted_by_x C replies = doing (Says (codes "stop x") ∷ [])
interrupted_by_x D replies = doing []

abbrev pub handler_of_A : Body → List PlainEvent → PlainEvent → Option Body
handler_of_A A replies e = Some C
handler_of_A o replies e = None

abbrev pub interrupting : Code Body Small
interrupting = record (code interrupted_by_x) { handling = handler_of_A }

pub interrupted_runs_its_handler_only :
    text interrupting default_options (alone interrupting default_options)
    ≡ Some (codes "event [\"x\"]\nlog \"A\" \"stop x\"\ninterrupted \"A\"\ndone \"B\"\nverdict quiet 1\n")
unfolding turn settle_in settle initial selectable choice reach step next after_record story_from story alone_from alone line_text lines_text text digits
interrupted_runs_its_handler_only = refl

pub interrupted_ends_without_handler : printed interrupted_by_x default_options ≡ Some (codes "event [\"x\"]\ninterrupted \"A\"\ndone \"B\"\nverdict quiet 1\n")
unfolding turn settle_in settle initial selectable choice reach step next after_record story_from story alone_from alone line_text lines_text text digits
interrupted_ends_without_handler = refl

-- ---- A registers B and C, and B registers D

abbrev pub in_waves : Body → List PlainEvent → Part Body Small
in_waves Main replies = doing (Register (codes "A") A ∷ [])
in_waves A [] = at_point (x ∷ []) Nothing Nothing Nothing
in_waves A (e ∷ es) = doing (Register (codes "B") B ∷ Register (codes "C") C ∷ [])
in_waves B replies = doing (Says (codes "b") ∷ Register (codes "D") D ∷ [])
in_waves C replies = doing (Says (codes "c") ∷ [])
in_waves D replies = doing (Says (codes "d") ∷ [])

pub waves_run_in_order :
    printed in_waves default_options
    ≡ Some (codes "event [\"x\"]\ndone \"A\"\nlog \"B\" \"b\"\ndone \"B\"\nlog \"C\" \"c\"\ndone \"C\"\nlog \"D\" \"d\"\ndone \"D\"\nverdict quiet 1\n")
unfolding turn settle_in settle initial selectable choice reach step next after_record story_from story alone_from alone line_text lines_text text digits
waves_run_in_order = refl

-- ---- A writes and violates, and so does B

abbrev pub violations : Body → List PlainEvent → Part Body Small
violations Main replies = doing (Register (codes "A") A ∷ Register (codes "B") B ∷ [])
violations A replies = record { effects = Says (codes "still") ∷ []; outcome = Violated (codes "first") }
violations B replies = record { effects = Says (codes "never") ∷ []; outcome = Violated (codes "second") }
violations _ replies = doing []

pub first_violation_is_the_verdict : printed violations default_options ≡ Some (codes "log \"A\" \"still\"\nverdict violated \"A\" \"first\"\n")
unfolding turn settle_in settle initial selectable choice reach step next after_record story_from story alone_from alone line_text lines_text text digits
first_violation_is_the_verdict = refl

-- ---- choosing

abbrev pub three_asked : Body → List PlainEvent → Part Body Small
three_asked Main replies = doing (Register (codes "A") A ∷ Register (codes "B") B ∷ Register (codes "C") C ∷ [])
three_asked A replies = asking (pos 1) (x ∷ y ∷ []) Nothing Nothing Nothing
three_asked B replies = asking (negsuc 4) (y ∷ go ∷ []) Nothing Nothing Nothing
three_asked C replies = asking (pos 1) (go ∷ x ∷ []) Nothing Nothing Nothing
three_asked _ replies = doing []

abbrev pub strategic : Strategy → PlainOptions
strategic s = record default_options { strategy = s; steps = 2 }

-- the words 5 and 6 draw the third and the first of x, y, go
pub simple_draws_of_all : alone (code three_asked) (strategic Simple) ≡ Sel go ∷ Sel x ∷ End (verdict.Steps 2) ∷ []
unfolding turn settle_in settle initial selectable choice reach step next after_record story_from story alone_from alone
simple_draws_of_all = refl

-- x, y and go are each the first of a b-thread
pub ordered_draws_of_first : alone (code three_asked) (strategic Ordered) ≡ Sel go ∷ Sel x ∷ End (verdict.Steps 2) ∷ []
unfolding turn settle_in settle initial selectable choice reach step next after_record story_from story alone_from alone
ordered_draws_of_first = refl

-- A asks for x and y, B for x alone: y is the first of nobody
abbrev pub two_asked : Body → List PlainEvent → Part Body Small
two_asked Main replies = doing (Register (codes "A") A ∷ Register (codes "B") B ∷ [])
two_asked A replies = asking (pos 0) (x ∷ y ∷ []) Nothing Nothing Nothing
two_asked B replies = asking (pos 3) (x ∷ []) Nothing Nothing Nothing
two_asked _ replies = doing []

-- the words 5 and 6 draw the second and the first of x, y
pub simple_draws_the_second : alone (code two_asked) (strategic Simple) ≡ Sel y ∷ Sel x ∷ End (verdict.Steps 2) ∷ []
unfolding turn settle_in settle initial selectable choice reach step next after_record story_from story alone_from alone
simple_draws_the_second = refl

pub ordered_leaves_what_is_first_of_nobody : alone (code two_asked) (strategic Ordered) ≡ Sel x ∷ Sel x ∷ End (verdict.Steps 2) ∷ []
unfolding turn settle_in settle initial selectable choice reach step next after_record story_from story alone_from alone
ordered_leaves_what_is_first_of_nobody = refl

pub priority_takes_the_greatest : alone (code two_asked) (strategic Priority) ≡ Sel x ∷ Sel x ∷ End (verdict.Steps 2) ∷ []
unfolding turn settle_in settle initial selectable choice reach step next after_record story_from story alone_from alone
priority_takes_the_greatest = refl

-- ---- steps

-- A requests x for ever
abbrev pub endless : Body → List PlainEvent → Part Body Small
endless Main replies = doing (Register (codes "A") A ∷ [])
endless A replies = at_point (x ∷ []) Nothing Nothing Nothing
endless _ replies = doing []

pub steps_are_limited :
    printed endless (record default_options { steps = 5 })
    ≡ Some (codes "event [\"x\"]\nevent [\"x\"]\nevent [\"x\"]\nevent [\"x\"]\nevent [\"x\"]\nverdict limit steps 5\n")
unfolding turn settle_in settle initial selectable choice reach step next after_record story_from story alone_from alone line_text lines_text text digits
steps_are_limited = refl

-- A requests x five times
abbrev pub five_times : Body → List PlainEvent → Part Body Small
five_times Main replies = doing (Register (codes "A") A ∷ [])
five_times A (a ∷ b ∷ c ∷ d ∷ e ∷ rest) = doing []
five_times A replies = at_point (x ∷ []) Nothing Nothing Nothing
five_times _ replies = doing []

pub last_step_may_be_the_end :
    printed five_times (record default_options { steps = 5 })
    ≡ Some (codes "event [\"x\"]\nevent [\"x\"]\nevent [\"x\"]\nevent [\"x\"]\nevent [\"x\"]\ndone \"A\"\nverdict quiet 5\n")
unfolding turn settle_in settle initial selectable choice reach step next after_record story_from story alone_from alone line_text lines_text text digits
last_step_may_be_the_end = refl

-- ---- faults of sets

-- a block set that answers no truth
abbrev pub untrue_block : Body → List PlainEvent → Part Body Small
untrue_block Main replies = doing (Register (codes "A") A ∷ [])
untrue_block A replies = at_point (x ∷ []) Nothing Untrue Nothing
untrue_block _ replies = doing []

pub untrue_block_is_the_verdict : printed untrue_block default_options ≡ Some (codes "verdict fault \"A\" 1 truth\n")
unfolding turn settle_in settle initial selectable choice reach step next after_record story_from story alone_from alone line_text lines_text text digits
untrue_block_is_the_verdict = refl

-- A's waitFor set answers no truth
abbrev pub untrue_wait : Body → List PlainEvent → Part Body Small
untrue_wait Main replies = doing (Register (codes "A") A ∷ Register (codes "B") B ∷ [])
untrue_wait A [] = at_point [] Untrue Nothing Nothing
untrue_wait B [] = at_point (y ∷ []) Nothing Nothing Nothing
untrue_wait _ replies = doing []

pub untrue_wait_is_the_verdict : printed untrue_wait default_options ≡ Some (codes "verdict fault \"A\" 1 truth\n")
unfolding turn settle_in settle initial selectable choice reach step next after_record story_from story alone_from alone line_text lines_text text digits
untrue_wait_is_the_verdict = refl

-- A requests the event itself
abbrev pub unasked_wait : Body → List PlainEvent → Part Body Small
unasked_wait Main replies = doing (Register (codes "A") A ∷ [])
unasked_wait A [] = at_point (x ∷ []) Untrue Nothing Nothing
unasked_wait _ replies = doing []

pub set_that_is_not_needed_is_not_asked : printed unasked_wait default_options ≡ Some (codes "event [\"x\"]\ndone \"A\"\nverdict quiet 1\n")
unfolding turn settle_in settle initial selectable choice reach step next after_record story_from story alone_from alone line_text lines_text text digits
set_that_is_not_needed_is_not_asked = refl

-- ---- names and data

-- the fields a and b
abbrev pub with_data : PlainEvent
with_data =
    record {
      name = codes "x";
      extra = Some (fields (field (codes "a") (whole (pos 1)) (field (codes "b") (list (item null (item (truth true) (item (whole (negsuc 1)) (item (words (codes "q")) no_data))))) no_fields)));
    }

-- A's name has a quote, a backslash, a line feed and a control character
abbrev pub odd_names : Body → List PlainEvent → Part Body Small
odd_names Main replies = doing (Register (codes "a\"b\\" ++ 10 ∷ 1 ∷ []) A ∷ [])
odd_names A [] = at_point (with_data ∷ []) Nothing Nothing Nothing
odd_names _ replies = doing []

pub names_and_data_are_compact_json :
    printed odd_names default_options
    ≡ Some (codes "event [\"x\",{\"a\":1,\"b\":[null,true,-2,\"q\"]}]\ndone \"a\\\"b\\\\\\n\\u0001\"\nverdict quiet 1\n")
unfolding turn settle_in settle initial selectable choice reach step next after_record story_from story alone_from alone line_text lines_text text digits
names_and_data_are_compact_json = refl

-- events of one name and other data are two events
abbrev pub other_data : Body → List PlainEvent → Part Body Small
other_data Main replies = doing (Register (codes "A") A ∷ Register (codes "B") B ∷ [])
other_data A [] = at_point (with_data ∷ []) Nothing Nothing Nothing
other_data B [] = at_point [] (Only x) Nothing Nothing
other_data _ replies = doing []

pub data_tells_events_apart : printed other_data default_options ≡ Some (codes "event [\"x\",{\"a\":1,\"b\":[null,true,-2,\"q\"]}]\ndone \"A\"\nverdict quiet 1\n")
unfolding turn settle_in settle initial selectable choice reach step next after_record story_from story alone_from alone line_text lines_text text digits
data_tells_events_apart = refl

-- ---- the queue, and many b-threads

-- the top level puts two events into the queue
abbrev pub own_queue : Body → List PlainEvent → Part Body Small
own_queue Main replies = doing (Enqueue x ∷ Enqueue y ∷ Register (codes "A") A ∷ [])
own_queue A [] = at_point [] (Only y) Nothing Nothing
own_queue _ replies = doing []

pub queue_is_in_order : printed own_queue default_options ≡ Some (codes "external [\"x\"]\nexternal [\"y\"]\ndone \"A\"\nverdict quiet 2\n")
unfolding turn settle_in settle initial selectable choice reach step next after_record story_from story alone_from alone line_text lines_text text digits
queue_is_in_order = refl

-- the top level registers n b-threads that end at once
abbrev pub many : ℕ → Body → List PlainEvent → Part Body Small
many n Main replies = doing (replicate n (Register (codes "t") B))
many n _ replies = doing []

pub many_end_at_once : option_map length (printed (many 40) default_options) ≡ Some 376
unfolding turn settle_in settle initial selectable choice reach step next after_record story_from story alone_from alone line_text lines_text text digits
many_end_at_once = refl

-- ---- outcomes that are the verdict

-- the body of A, after the top level registered it, has this outcome
abbrev pub outcome_of_A : Outcome Small → Body → List PlainEvent → Part Body Small
outcome_of_A outcome Main replies = doing (Register (codes "A") A ∷ [])
outcome_of_A outcome _ replies = record { effects = []; outcome = outcome }

pub spent_body_is_the_verdict : printed (outcome_of_A Spent) default_options ≡ Some (codes "verdict spent \"A\"\n")
unfolding turn settle_in settle initial selectable choice reach step next after_record story_from story alone_from alone line_text lines_text text digits
spent_body_is_the_verdict = refl

pub broken_body_is_the_verdict : printed (outcome_of_A (Broken Zero 7)) default_options ≡ Some (codes "verdict fault \"A\" 7 zero\n")
unfolding turn settle_in settle initial selectable choice reach step next after_record story_from story alone_from alone line_text lines_text text digits
broken_body_is_the_verdict = refl

-- of the top level `top` stands in place of a name
abbrev pub top_violates : Body → List PlainEvent → Part Body Small
top_violates o replies = record { effects = Says (codes "t") ∷ []; outcome = Violated (codes "no") }

pub top_has_no_name : printed top_violates default_options ≡ Some (codes "log top \"t\"\nverdict violated top \"no\"\n")
unfolding turn settle_in settle initial selectable choice reach step next after_record story_from story alone_from alone line_text lines_text text digits
top_has_no_name = refl

-- ---- A receives y, sets a handler then, and is interrupted by x; up to there B blocks its request of go

abbrev pub interrupted_later : Body → List PlainEvent → Part Body Small
interrupted_later Main replies = doing (Register (codes "B") B ∷ Register (codes "A") A ∷ [])
interrupted_later A [] = at_point (y ∷ []) Nothing Nothing Nothing
interrupted_later A (e ∷ es) = first (Handler ∷ []) (at_point (go ∷ []) Nothing Nothing (Only x))
interrupted_later B [] = at_point [] (Only y) Nothing Nothing
interrupted_later B (e ∷ []) = at_point (x ∷ []) Nothing (Only go) Nothing
interrupted_later B (e ∷ f ∷ es) = doing []
interrupted_later C [] = doing (Says (codes "stop") ∷ [])
interrupted_later C (e ∷ es) = doing (Says (codes "never") ∷ [])
interrupted_later D replies = doing []

-- it is set after y, and not after y and x
abbrev pub handler_after_one : Body → List PlainEvent → PlainEvent → Option Body
handler_after_one A (e ∷ []) f = Some C
handler_after_one o replies f = None

abbrev interrupting_later : Code Body Small
interrupting_later = record (code interrupted_later) { handling = handler_after_one }

abbrev three_steps : PlainOptions
three_steps = record default_options { steps = 3 }

-- the handler is the one that A had when x came, it receives nothing, and A requests nothing any more
pub interrupted_one_asks_no_more :
    text interrupting_later three_steps (alone interrupting_later three_steps)
    ≡ Some (codes "event [\"y\"]\nevent [\"x\"]\ndone \"B\"\nlog \"A\" \"stop\"\ninterrupted \"A\"\nverdict quiet 2\n")
unfolding turn settle_in settle initial selectable choice reach step next after_record story_from story alone_from alone line_text lines_text text digits
interrupted_one_asks_no_more = refl

-- ---- records that are no story

-- a bad line ends its injector
pub nothing_comes_after_a_bad_line : story (code one_overtaken) (with_injectors 2) (Bad 1 2 ∷ In 1 x ∷ []) ≡ None
unfolding turn settle_in settle initial selectable choice reach step next after_record story_from story
nothing_comes_after_a_bad_line = refl

-- an end with another verdict, before an event, and while an injector is read
pub another_verdict_is_no_end : story (code nothing_at_all) default_options (End (verdict.Quiet 1) ∷ []) ≡ None
unfolding turn settle_in settle initial selectable choice reach step next after_record story_from story
another_verdict_is_no_end = refl

pub no_end_before_an_event : story (code both_ask) default_options (End (verdict.Quiet 0) ∷ []) ≡ None
unfolding turn settle_in settle initial selectable choice reach step next after_record story_from story
no_end_before_an_event = refl

pub no_end_while_waiting : story (code one_overtaken) (with_injectors 1) (End (verdict.Quiet 0) ∷ []) ≡ None
unfolding turn settle_in settle initial selectable choice reach step next after_record story_from story
no_end_while_waiting = refl

-- an end leaves its verdict
pub end_leaves_its_verdict : option_map (λ (c : Configuration Body). c.stand.verdict) (story (code nothing_at_all) default_options (End (verdict.Quiet 0) ∷ [])) ≡ Some (Some (verdict.Quiet 0))
unfolding turn settle_in settle initial selectable choice reach step next after_record story_from story
end_leaves_its_verdict = refl
