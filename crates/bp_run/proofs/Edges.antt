-- The definitions computed at single places, where a wrong line would show.
use Rattle.std.proofs.Common.{◌≡◌, ℕ, ◌+◌, Bool, true, false, List, [], ◌∷◌, length, map, refl, nat_eq}
use Rattle.std.proofs.lemmas.Bool.{eq-eqb}
use Rattle.std.specs.Prelude.{ℤ, pos, negsuc, Some, None, Ok, Err, codes, option_map, slice_get}
use Rattle.js_data.specs.Event.{PlainEvent}
use Rattle.js_data.specs.declared.fault.Fault.TheVariants.{Zero, Truth}
use Rattle.bp_log.specs.Options.{PlainOptions, default_options}
use Rattle.bp_log.specs.declared.limits.TheConstants.{MOST_WAITING, MOST_THREADS}
use Rattle.bp_log.specs.declared.options.Strategy.TheVariants.{Ordered, Priority}
use Rattle.bp_log.specs.declared.record.Record.{Record}
use Rattle.bp_log.specs.declared.record.Record.TheVariants.{In, Bad, Eof, Sel, End}
use Rattle.bp_log.specs.declared.trace.Line.TheVariants.{Log}
use Rattle.bp_log.specs.declared.verdict.Place.{Place}
use Rattle.bp_log.specs.declared.verdict.Place.TheVariants.{Thread as Named}
use Rattle.bp_log.specs.declared.verdict.Verdict.TheVariants as verdict
use Rattle.bp_run.specs.Bodies.{Code, Part, SetFault}
use Rattle.bp_run.specs.Bodies.Outcome.{Broken, Ended}
use Rattle.bp_run.specs.Bodies.Effect.{Says, Enqueue, Register}
use Rattle.bp_run.specs.Configuration.{Configuration, Stand, Thread, empty, not_ended}
use Rattle.bp_run.specs.Settling.{Pair, with_effect, with_part, stopped, turn, settle_in, settle, initial}
use Rattle.bp_run.specs.Settling.Entry.{Runs, Stops}
use Rattle.bp_run.specs.Selecting.{Live, Enabled, selectable, blocker, requested}
use Rattle.bp_run.specs.Choosing.{choice, remaining, reach}
use Rattle.bp_run.specs.Choosing.Touched.{Moves, Interrupts}
use Rattle.bp_run.specs.Story.{next, next_idle, fault_verdict, weight_after, after_record, story_from, story}
use Rattle.bp_run.specs.Story.Next.{Ends, Selects, Waits}
use Rattle.bp_run.specs.Injectors.{has_last_of, has_bad}
use Rattle.bp_run.proofs.Rows.{Small, All, Nothing, Only, Untrue, Fails, has, Body, A, B, x, y, go, at_point, doing, code, violations, with_injectors}

-- a live b-thread: its number, requests, waitFor, block and interrupt sets, and priority
abbrev states : ℕ → List PlainEvent → Small → Small → Small → ℤ → Live Small
states n request wait_for block interrupt priority =
    record { number = n; statement = record { request = request; wait_for = wait_for; block = block; interrupt = interrupt; priority = priority } }

abbrev asks : ℕ → List PlainEvent → Live Small
asks n request = states n request Nothing Nothing Nothing (pos 0)

abbrev blocks : ℕ → Small → Live Small
blocks n set = states n [] Nothing set Nothing (pos 0)

abbrev word : ℕ → ℕ
word n = n + 5

abbrev only : List PlainEvent → Enabled
only es = record { inner = es; outer = None }

abbrev queued : ℕ → Enabled
queued place = record { inner = []; outer = Some place }

-- ---- block sets

-- 0 blocks its own request, and 1 is asked all the same
pub yes_hides_no_fault : selectable has (states 0 (x ∷ []) Nothing (Only x) Nothing (pos 0) ∷ blocks 1 Untrue ∷ []) [] ≡ Err (1, SetFault.NotTruth 1)
unfolding selectable
yes_hides_no_fault = refl

-- x is the first candidate, so 1 is at fault before 0
pub candidates_before_threads : selectable has (states 0 (x ∷ y ∷ []) Nothing (Fails 7 y) Nothing (pos 0) ∷ blocks 1 (Fails 8 x) ∷ []) [] ≡ Err (1, SetFault.NotTruth 8)
unfolding selectable
candidates_before_threads = refl

pub first_fault_counts : selectable has (states 0 (x ∷ []) Nothing (Fails 7 x) Nothing (pos 0) ∷ blocks 1 (Fails 8 x) ∷ []) [] ≡ Err (0, SetFault.NotTruth 7)
unfolding selectable
first_fault_counts = refl

-- y, after x, is not asked for
pub queue_is_asked_up_to_the_first : selectable has (blocks 0 (Fails 7 y) ∷ []) (x ∷ y ∷ []) ≡ Ok (queued 0)
unfolding selectable
queue_is_asked_up_to_the_first = refl

pub blocked_places_are_counted : selectable has (blocks 0 (Only x) ∷ []) (x ∷ x ∷ y ∷ []) ≡ Ok (queued 2)
unfolding selectable
blocked_places_are_counted = refl

-- the queue is asked only where no candidate is left
pub queue_comes_after_candidates : selectable has (asks 0 (x ∷ []) ∷ []) (y ∷ []) ≡ Ok (only (x ∷ []))
unfolding selectable
queue_comes_after_candidates = refl

pub candidates_stand_once_in_order : selectable has (asks 0 (y ∷ x ∷ y ∷ []) ∷ asks 1 (x ∷ go ∷ []) ∷ []) [] ≡ Ok (only (y ∷ x ∷ go ∷ []))
unfolding selectable
candidates_stand_once_in_order = refl

-- 1 is the first that blocks x, and 2 is not asked
pub blocker_is_the_first : blocker has (asks 0 (x ∷ []) ∷ blocks 1 (Only x) ∷ blocks 2 Untrue ∷ []) x ≡ Ok (Some 1)
unfolding blocker
blocker_is_the_first = refl

pub fault_before_the_blocker : blocker has (blocks 0 Untrue ∷ blocks 1 (Only x) ∷ []) x ≡ Err (0, SetFault.NotTruth 1)
unfolding blocker
fault_before_the_blocker = refl

pub nobody_blocks : blocker has (asks 0 (x ∷ []) ∷ blocks 1 (Only y) ∷ []) x ≡ Ok None
unfolding blocker
nobody_blocks = refl

pub requested_by_some : requested (asks 0 (x ∷ []) ∷ asks 1 (y ∷ go ∷ []) ∷ []) go ≡ true
requested_by_some = refl

pub waited_for_is_not_requested : requested (states 0 (x ∷ []) (Only y) Nothing Nothing (pos 0) ∷ []) y ≡ false
waited_for_is_not_requested = refl

-- ---- strategies

-- 0 asks for x and y, 1 for y and go with priority 2, and 2 blocks x
abbrev three : List (Live Small)
three = asks 0 (x ∷ y ∷ []) ∷ states 1 (y ∷ go ∷ []) Nothing Nothing Nothing (pos 2) ∷ blocks 2 (Only x) ∷ []

pub three_enabled : selectable has three [] ≡ Ok (only (y ∷ go ∷ []))
unfolding selectable
three_enabled = refl

pub ordered_leaves_one : choice has word Ordered three [] 0 ≡ Ok (Some (record { event = y; place = None; drawn = 0 }))
unfolding choice selectable
ordered_leaves_one = refl

-- the word 5 draws the second of two
pub priority_leaves_both : choice has word Priority three [] 0 ≡ Ok (Some (record { event = go; place = None; drawn = 1 }))
unfolding choice selectable
priority_leaves_both = refl

pub candidates_come_before_the_queue : choice has word Ordered three (x ∷ go ∷ []) 0 ≡ Ok (Some (record { event = y; place = None; drawn = 0 }))
unfolding choice selectable
candidates_come_before_the_queue = refl

-- with 0 and 1 ended; an event of the queue draws nothing
pub queue_draws_nothing : choice has word Ordered (blocks 2 (Only x) ∷ []) (x ∷ go ∷ []) 3 ≡ Ok (Some (record { event = go; place = Some 1; drawn = 3 }))
unfolding choice selectable
queue_draws_nothing = refl

-- x is blocked, so y is the first request of 0 that can be selected
pub ordered_passes_what_is_blocked : remaining Ordered (asks 0 (x ∷ y ∷ []) ∷ asks 1 (go ∷ []) ∷ blocks 2 (Only x) ∷ []) (y ∷ go ∷ []) ≡ y ∷ go ∷ []
ordered_passes_what_is_blocked = refl

-- the greatest requester of y has priority -1, that of x -2
pub greatest_requester_counts :
    remaining Priority
    (states 0 (x ∷ y ∷ []) Nothing Nothing Nothing (negsuc 2) ∷ states 1 (y ∷ []) Nothing Nothing Nothing (negsuc 0) ∷ states 2 (x ∷ []) Nothing Nothing Nothing (negsuc 1) ∷ [])
    (x ∷ y ∷ []) ≡ y ∷ []
greatest_requester_counts = refl

pub ties_are_left : remaining Priority (states 0 (x ∷ []) Nothing Nothing Nothing (pos 3) ∷ states 1 (y ∷ []) Nothing Nothing Nothing (pos 3) ∷ asks 2 (go ∷ []) ∷ []) (x ∷ y ∷ go ∷ []) ≡ x ∷ y ∷ []
ties_are_left = refl

-- ---- reach

-- it requests x too
pub interrupt_comes_first : reach has x (states 4 (x ∷ []) (Only x) Nothing (Only x) (pos 0) ∷ []) ≡ Ok (Interrupts 4 ∷ [])
unfolding reach
interrupt_comes_first = refl

pub reached_in_order :
    reach has x (asks 0 (y ∷ []) ∷ states 1 [] (Only x) Nothing Nothing (pos 0) ∷ states 3 [] Nothing Nothing All (pos 0) ∷ asks 4 (y ∷ x ∷ []) ∷ [])
    ≡ Ok (Moves 1 ∷ Interrupts 3 ∷ Moves 4 ∷ [])
unfolding reach
reached_in_order = refl

-- neither its own request nor an interrupt lets waitFor be asked
pub sets_that_decide_nothing_are_not_asked :
    reach has x (states 0 (x ∷ []) Untrue Nothing Nothing (pos 0) ∷ states 1 [] Untrue Nothing (Only x) (pos 0) ∷ []) ≡ Ok (Moves 0 ∷ Interrupts 1 ∷ [])
unfolding reach
sets_that_decide_nothing_are_not_asked = refl

pub first_fault_of_the_reach : reach has x (states 0 [] (Fails 7 x) Nothing Nothing (pos 0) ∷ states 1 (x ∷ []) Nothing Nothing (Fails 8 x) (pos 0) ∷ []) ≡ Err (0, SetFault.NotTruth 7)
unfolding reach
first_fault_of_the_reach = refl

-- ---- what is counted

abbrev thread : List ℕ → Body → Bool → Thread Body
thread name origin ended = record { name = name; origin = origin; replies = []; ended = ended }

-- A and B are registered, and A has ended
abbrev standing : Stand Body
standing = record empty { threads = thread (codes "A") A true ∷ thread (codes "B") B false ∷ []; weight = 100 }

-- x weighs 3: once for the transition, and once for the b-thread that moves
pub interrupted_ones_weigh_nothing : weight_after standing x (Moves 0 ∷ Interrupts 1 ∷ []) ≡ 106
interrupted_ones_weigh_nothing = refl

pub ended_ones_are_not_counted : not_ended standing ≡ 1
ended_ones_are_not_counted = refl

-- ---- merging

-- a handler of B that breaks writes no line for B
pub broken_handler_interrupts_nobody :
    with_part {Set = Small} (Stops 1 None) (record { effects = Says (codes "t") ∷ []; outcome = Broken Zero 3 }) (record { stand = standing; entries = [] })
    ≡ record { stand = record standing { lines = Log (Named (codes "B")) (codes "t") ∷ []; verdict = Some (verdict.Fault (Named (codes "B")) 3 Zero) }; entries = [] }
broken_handler_interrupts_nobody = refl

full : (n most : ℕ) → n ≡ most → nat_eq n most ≡ true
full n most h = eq-eqb n most h

pub queue_is_full : (at : Place) (e : PlainEvent) (p : Pair Body) → length p.stand.queue ≡ MOST_WAITING → with_effect at (Enqueue e) p ≡ stopped verdict.Queue p
queue_is_full at e p h = rw (full (length p.stand.queue) MOST_WAITING h) refl

pub threads_are_full : (at : Place) (name : List ℕ) (o : Body) (p : Pair Body) → length p.stand.threads ≡ MOST_THREADS → with_effect at (Register name o) p ≡ stopped verdict.Threads p
threads_are_full at name o p h = rw (full (length p.stand.threads) MOST_THREADS h) refl

-- ---- faults as verdicts

pub broken_set : fault_verdict standing (1, SetFault.Broken Zero 9) ≡ verdict.Fault (Named (codes "B")) 9 Zero
broken_set = refl

pub spent_set : fault_verdict standing (0, SetFault.Spent) ≡ verdict.Spent (Named (codes "A"))
spent_set = refl

pub untrue_set : fault_verdict standing (1, SetFault.NotTruth 4) ≡ verdict.Fault (Named (codes "B")) 4 Truth
untrue_set = refl

-- ---- what comes next

-- the first bad line, also where the queue is full and nothing is read any more
pub bad_line_comes_first : (o : PlainOptions) (c : Configuration Body) (j n : ℕ) → next_idle o c (Some (j, n)) ≡ Ends (verdict.Bad j n)
bad_line_comes_first o c j n = refl

-- also where every injector has ended
pub full_queue_comes_before_quiet : (o : PlainOptions) (c : Configuration Body) → length c.stand.queue ≡ MOST_WAITING → next_idle o c None ≡ Ends verdict.Queue
full_queue_comes_before_quiet o c h = rw (full (length c.stand.queue) MOST_WAITING h) refl

-- an injector that is still read is waited for, and one transition was made
pub reading_is_waited_for : (o : PlainOptions) → o.wait ≡ true → next_idle {Origin = Body} o (record { stand = record empty { transitions = 1 }; drawn = 0; reading = 1 ∷ []; bad = None }) None ≡ Waits
reading_is_waited_for o w = rw w refl

-- and by a run that doesn't wait it isn't
pub reading_is_not_waited_for : (o : PlainOptions) → o.wait ≡ false → next_idle {Origin = Body} o (record { stand = record empty { transitions = 1 }; drawn = 0; reading = 1 ∷ []; bad = None }) None ≡ Ends (verdict.Quiet 1)
reading_is_not_waited_for o w = rw w refl

pub quiet_where_all_have_ended : (o : PlainOptions) → next_idle {Origin = Body} o (record { stand = record empty { transitions = 1 }; drawn = 0; reading = []; bad = None }) None ≡ Ends (verdict.Quiet 1)
quiet_where_all_have_ended o = refl

-- A requests x, and what B waits for can't be told
abbrev faulty : Body → List PlainEvent → Part Body Small
faulty A replies = at_point (x ∷ []) Nothing Nothing Nothing
faulty B replies = at_point [] Untrue Nothing Nothing
faulty _ replies = doing []

-- A alone
abbrev sound : Body → List PlainEvent → Part Body Small
sound A replies = at_point (x ∷ []) Nothing Nothing Nothing
sound _ replies = doing []

abbrev at : ℕ → ℕ → Configuration Body
at transitions weight =
    record {
      stand = record empty { threads = thread (codes "A") A false ∷ thread (codes "B") B false ∷ []; transitions = transitions; weight = weight };
      drawn = 0;
      reading = 0 ∷ [];
      bad = Some (0, 1);
    }

abbrev few_steps : PlainOptions
few_steps = record default_options { steps = 5 }

pub steps_come_before_the_reach : next (code faulty) few_steps (at 5 0) ≡ Ends (verdict.Steps 5)
unfolding next choice selectable reach
steps_come_before_the_reach = refl

pub reach_comes_before_the_weight : next (code faulty) few_steps (at 4 16777216) ≡ Ends (verdict.Fault (Named (codes "B")) 1 Truth)
unfolding next choice selectable reach
reach_comes_before_the_weight = refl

-- x moves A, so it adds 6
pub weight_is_limited : next (code sound) few_steps (at 4 16777211) ≡ Ends verdict.Weight
unfolding next choice selectable reach
weight_is_limited = refl

pub weight_may_reach_its_limit : next (code sound) few_steps (at 4 16777210) ≡ Selects (record { event = x; place = None; drawn = 0 }) (Moves 0 ∷ [])
unfolding next choice selectable reach
weight_may_reach_its_limit = refl

-- ---- records

-- the first run violates, and no item comes after a verdict
pub nothing_comes_after_a_verdict : story (code violations) (with_injectors 1) (In 0 x ∷ []) ≡ None
unfolding turn settle_in settle initial after_record story_from story
nothing_comes_after_a_verdict = refl

pub items_need_room : (l : Code Body Small) (o : PlainOptions) (c : Configuration Body) (e : PlainEvent) → c.stand.verdict ≡ None → c.reading ≡ 0 ∷ [] → length c.stand.queue ≡ MOST_WAITING →
    after_record l o c (In 0 e) ≡ None
unfolding after_record
items_need_room l o c e v r h = rw (v, r, h) refl

-- that an injector has ended needs no room, and neither does a bad line
pub ends_need_no_room : (l : Code Body Small) (o : PlainOptions) (c : Configuration Body) → c.stand.verdict ≡ None → c.reading ≡ 0 ∷ 1 ∷ [] →
    after_record l o c (Eof 0) ≡ Some (record c { reading = 1 ∷ [] })
unfolding after_record
ends_need_no_room l o c v r = rw (v, r) refl

pub bad_lines_need_no_room : (l : Code Body Small) (o : PlainOptions) (c : Configuration Body) (n : ℕ) → c.stand.verdict ≡ None → c.reading ≡ 0 ∷ 1 ∷ [] → c.bad ≡ None →
    after_record l o c (Bad 1 n) ≡ Some (record c { reading = 0 ∷ []; bad = Some (1, n) })
unfolding after_record
bad_lines_need_no_room l o c n v r b = rw (v, r, b) refl

-- the last of 0 is its end, the last of 1 its bad line; 2 is still read, and no other record is a last one
abbrev heard : List Record
heard = In 2 x ∷ Eof 0 ∷ Sel x ∷ Bad 1 7 ∷ In 2 y ∷ End (verdict.Bad 1 7) ∷ []

pub last_records : map (λ j. has_last_of j heard) (0 ∷ 1 ∷ 2 ∷ []) ≡ true ∷ true ∷ false ∷ []
last_records = refl

pub bad_records : map has_bad (heard ∷ (In 0 x ∷ Eof 0 ∷ []) ∷ []) ≡ true ∷ false ∷ []
bad_records = refl

-- what a b-thread does after the queue was full is not merged: neither its text nor its end
pub nothing_is_merged_after_a_verdict : (e : PlainEvent) (p : Pair Body) → p.stand.verdict ≡ None → length p.stand.queue ≡ MOST_WAITING →
    with_part {Set = Small} (Runs 0) (record { effects = Enqueue e ∷ Says (codes "t") ∷ []; outcome = Ended }) p ≡ stopped verdict.Queue p
nothing_is_merged_after_a_verdict e p v h = rw (v, full (length p.stand.queue) MOST_WAITING h) refl

pub no_end_after_a_verdict : (e : PlainEvent) (p : Pair Body) → p.stand.verdict ≡ None → length p.stand.queue ≡ MOST_WAITING →
    with_part {Set = Small} (Runs 0) (record { effects = Enqueue e ∷ []; outcome = Ended }) p ≡ stopped verdict.Queue p
no_end_after_a_verdict e p v h = rw (v, full (length p.stand.queue) MOST_WAITING h) refl

-- a b-thread that came to its end has ended
pub end_is_kept : option_map (λ (t : Thread Body). t.ended) (slice_get (with_part {Set = Small} (Runs 1) (record { effects = []; outcome = Ended }) (record { stand = standing; entries = [] })).stand.threads 1) ≡ Some true
end_is_kept = refl
