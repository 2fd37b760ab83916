-- The definitions computed at sets and at states that were worked out by hand.
use Rattle.std.proofs.Common.{◌≡◌, ℕ, zero, suc, ◌+◌, Bool, true, false, List, [], ◌∷◌, map, refl}
use Rattle.std.specs.Prelude.{pos, Option, Some, None, codes}
use Rattle.std.specs.Fmt.{digits}
use Rattle.js_data.specs.Event.{PlainEvent}
use Rattle.js_data.specs.JsonText.{event_text}
use Rattle.js_data.specs.declared.fault.Fault.TheVariants.{Zero}
use Rattle.js_value.specs.Value as v
use Rattle.js_value.specs.Value.{PlainSet}
use Rattle.bp_log.specs.Logs.{record_text}
use Rattle.bp_log.specs.Options.{PlainOptions, default_options}
use Rattle.bp_log.specs.Texts.{line_text}
use Rattle.bp_log.specs.declared.record.Record.{Record}
use Rattle.bp_log.specs.declared.record.Record.TheVariants.{In, Sel, End}
use Rattle.bp_log.specs.declared.verdict.Place.TheVariants.{Top, Thread as Named}
use Rattle.bp_log.specs.declared.verdict.Verdict.TheVariants as verdict
use Rattle.bp_run.specs.Bodies.{Part}
use Rattle.bp_run.specs.Bodies.Effect.{Register}
use Rattle.bp_run.specs.Bodies.Outcome.{Broken}
use Rattle.bp_run.specs.Settling.{turn, settle_in, settle, initial}
use Rattle.bp_run.specs.Selecting.{selectable}
use Rattle.bp_run.specs.Choosing.{choice, reach}
use Rattle.bp_run.specs.Story.{step, next, after_record, story_from, story, alone_from, alone}
use Rattle.bp_run.proofs.Rows.{Small, All, Nothing, Only, Untrue, Fails, Body, Main, A, B, C, D, x, y, go, at_point, asking, doing, code, with_injectors, nothing_at_all, one_blocked, one_overtaken, outcome_of_A}
use Rattle.bp_explain.specs.Words.{Words}
use Rattle.bp_explain.specs.Sets.{set_words, is_no_set}
use Rattle.bp_explain.specs.Standing.{standing_text}
use Rattle.bp_explain.specs.States.{rest_text}
use Rattle.bp_explain.specs.Explained.{state_after}
use Rattle.bp_explain.specs.Seeds.{kind_text, kind_alone, seeds_text}

-- ---- sets

-- the functions 0 and 1 begin on the lines 5 and 16
abbrev line_of : ℕ → ℕ
line_of zero = 5
line_of (suc n) = 16

abbrev cars : PlainSet
cars = v.predicate (codes "cars") 0 v.no_values

abbrev far : PlainSet
far = v.predicate (codes "\"far\" away") 1 v.no_values

abbrev two : PlainSet → PlainSet → PlainSet
two a b = v.any (v.set_in a (v.set_in b v.no_sets))

pub sets_in_words :
    map (set_words line_of)
    (v.only x ∷ v.all ∷ v.nothing ∷ cars ∷ far ∷ v.any v.no_sets ∷ two (v.only x) cars ∷ two (two v.all v.nothing) (v.only y) ∷ v.or cars (v.only x) ∷ v.and cars (v.negate far)
    ∷ v.negate (v.xor cars (v.any (v.set_in (v.only x) v.no_sets))) ∷ [])
    ≡ codes "[\"x\"]" ∷ codes "all" ∷ codes "none" ∷ codes "\"cars\" of line 5" ∷ codes "\"\\\"far\\\" away\" of line 16" ∷ codes "[]" ∷ codes "[[\"x\"], \"cars\" of line 5]"
    ∷ codes "[[all, none], [\"y\"]]" ∷ codes "(\"cars\" of line 5 or [\"x\"])" ∷ codes "(\"cars\" of line 5 and not \"\\\"far\\\" away\" of line 16)"
    ∷ codes "not (\"cars\" of line 5 xor [[\"x\"]])" ∷ []
unfolding digits
sets_in_words = refl

-- `bp.none` is stated, the empty list is as nothing stated
pub absent_sets : map is_no_set (v.any v.no_sets ∷ v.nothing ∷ v.any (v.set_in v.nothing v.no_sets) ∷ []) ≡ true ∷ false ∷ false ∷ []
absent_sets = refl

-- ---- states of the small language: A stands at line 2, B at 3, C at 14

abbrev small_words : Small → List ℕ
small_words All = codes "all"
small_words Nothing = codes "none"
small_words (Only e) = event_text e
small_words Untrue = codes "untrue"
small_words (Fails n e) = codes "fails"

abbrev is_none : Small → Bool
is_none Nothing = true
is_none _ = false

abbrev line_at : Body → List PlainEvent → Option ℕ
line_at A replies = Some 2
line_at B replies = Some 3
line_at C replies = Some 14
line_at _ replies = None

abbrev words : Words Body Small
words = record { line = line_at; spelling = record { words = small_words; is_absent = is_none } }

abbrev told : (Body → List PlainEvent → Part Body Small) → PlainOptions → List Record → Option (List ℕ)
told body o records = state_after (code body) words o records

pub nobody_is_left : told nothing_at_all default_options (End (verdict.Quiet 0) ∷ [])
    ≡ Some (codes "after record 1: end quiet 0\nnothing can be selected: nothing is requested, and nothing waits\nverdict quiet 0\n")
unfolding turn settle_in settle initial selectable choice reach step next after_record story_from story line_text record_text digits standing_text rest_text state_after
nobody_is_left = refl

-- A requests x and y, and B blocks x: y can be selected
pub something_can_be_selected : told one_blocked default_options []
    ≡ Some (codes "before the first record\nb-thread \"A\" at line 2\n  request [\"x\"], [\"y\"]\nb-thread \"B\" at line 3\n  block [\"x\"]\n")
unfolding turn settle_in settle initial selectable choice reach step next after_record story_from story line_text record_text digits standing_text rest_text state_after
something_can_be_selected = refl

pub who_has_ended_stands_nowhere : told one_blocked default_options (Sel y ∷ [])
    ≡ Some (codes "after record 1: sel [\"y\"]\nb-thread \"B\" at line 3\n  block [\"x\"]\nnothing can be selected: nothing is requested, and nothing waits\n")
unfolding turn settle_in settle initial selectable choice reach step next after_record story_from story line_text record_text digits standing_text rest_text state_after
who_has_ended_stands_nowhere = refl

-- B waits for go and blocks x, C waits for x, which came from outside; the log ends here
pub what_waits_is_blocked : told one_overtaken (with_injectors 1) (In 0 x ∷ [])
    ≡ Some (codes "after record 1: in 0 [\"x\"]\nb-thread \"B\" at line 3\n  waitFor [\"go\"]\n  block [\"x\"]\nb-thread \"C\" at line 14\n  waitFor [\"x\"]\nwaiting [\"x\"]\ninjector 0 is read\nnothing can be selected:\n  [\"x\"], which waits, is blocked by \"B\"\n")
unfolding turn settle_in settle initial selectable choice reach step next after_record story_from story line_text record_text digits standing_text rest_text state_after
what_waits_is_blocked = refl

-- each of the three blocks what others want; B blocks its own requests too
abbrev deadlock : Body → List PlainEvent → Part Body Small
deadlock Main replies = doing (Register (codes "A") A ∷ Register (codes "B") B ∷ Register (codes "C") C ∷ [])
deadlock A replies = at_point (x ∷ y ∷ []) Nothing (Only go) Nothing
deadlock B replies = at_point (go ∷ x ∷ []) Nothing All Nothing
deadlock C replies = asking (pos 3) [] (Only y) (Only x) (Only go)
deadlock D replies = doing []

pub everyone_who_blocks_is_named : told deadlock default_options []
    ≡ Some (codes "before the first record\nb-thread \"A\" at line 2\n  request [\"x\"], [\"y\"]\n  block [\"go\"]\nb-thread \"B\" at line 3\n  request [\"go\"], [\"x\"]\n  block all\nb-thread \"C\" at line 14\n  priority 3\n  waitFor [\"y\"]\n  block [\"x\"]\n  interrupt [\"go\"]\nnothing can be selected:\n  [\"x\"], requested by \"A\", \"B\", is blocked by \"B\", \"C\"\n  [\"y\"], requested by \"A\", is blocked by \"B\"\n  [\"go\"], requested by \"B\", is blocked by \"A\", \"B\"\n")
unfolding turn settle_in settle initial selectable choice reach step next after_record story_from story line_text record_text digits standing_text rest_text state_after
everyone_who_blocks_is_named = refl

-- the others are in the middle of their turn
pub a_fault_is_the_verdict : told (outcome_of_A (Broken Zero 7)) default_options (End (verdict.Fault (Named (codes "A")) 7 Zero) ∷ [])
    ≡ Some (codes "after record 1: end fault \"A\" 7 zero\nthe run ended before its b-threads stood\nverdict fault \"A\" 7 zero\n")
unfolding turn settle_in settle initial selectable choice reach step next after_record story_from story line_text record_text digits standing_text rest_text state_after
a_fault_is_the_verdict = refl

-- A is at fault after x, in the turn in which B moves too
abbrev falling : Body → List PlainEvent → Part Body Small
falling Main replies = doing (Register (codes "A") A ∷ Register (codes "B") B ∷ [])
falling A [] = at_point (x ∷ []) Nothing Nothing Nothing
falling A (e ∷ es) = record { effects = []; outcome = Broken Zero 7 }
falling B [] = at_point [] All Nothing Nothing
falling _ replies = doing []

pub a_fault_within_a_turn_tells_the_state_before : told falling default_options (Sel x ∷ [])
    ≡ Some (codes "after record 1: sel [\"x\"]\nthe run ended within a turn: its b-threads stood last after record 0\nverdict fault \"A\" 7 zero\n")
unfolding turn settle_in settle initial selectable choice reach step next after_record story_from story line_text record_text digits standing_text rest_text state_after
a_fault_within_a_turn_tells_the_state_before = refl

pub records_that_are_no_story_have_no_state : told one_blocked default_options (Sel x ∷ []) ≡ None
unfolding turn settle_in settle initial selectable choice reach step next after_record story_from story line_text record_text digits standing_text rest_text state_after
records_that_are_no_story_have_no_state = refl

-- ---- seeds

-- A requests x and y, and B waits for x and for nothing else; the word of a place is the seed and the place
abbrev one_of_two : Body → List PlainEvent → Part Body Small
one_of_two Main replies = doing (Register (codes "A") A ∷ Register (codes "B") B ∷ [])
one_of_two A [] = at_point (x ∷ y ∷ []) Nothing Nothing Nothing
one_of_two B [] = at_point [] (Only x) Nothing Nothing
one_of_two _ replies = doing []

abbrev seeded : (Body → List PlainEvent → Part Body Small) → ℕ → Option (List ℕ)
seeded body seed = kind_alone (record (code body) { word = λ n. seed + n }) default_options

-- even words draw x, which B hears; odd ones y
pub ends_are_counted_by_kind : seeds_text (seeded one_of_two) 5 3 ≡ codes "3 quiet, some stand, first seed 3\n2 quiet, all ended, first seed 4\n"
unfolding turn settle_in settle initial selectable choice reach step next after_record story_from story alone_from alone line_text digits kind_alone seeds_text
ends_are_counted_by_kind = refl

pub no_seeds_have_no_ends : seeds_text (seeded one_of_two) 0 3 ≡ []
unfolding seeds_text
no_seeds_have_no_ends = refl

pub kinds_of_verdicts :
    map (kind_text true) (verdict.Quiet 7 ∷ verdict.Violated (Named (codes "A")) (codes "no") ∷ verdict.Fault Top 3 Zero ∷ verdict.Spent (Named (codes "A")) ∷ verdict.Steps 50 ∷ verdict.Queue ∷ [])
    ≡ codes "quiet, some stand" ∷ codes "violated \"A\"" ∷ codes "fault top 3 zero" ∷ codes "spent \"A\"" ∷ codes "limit steps" ∷ codes "limit queue 16384" ∷ []
unfolding digits
kinds_of_verdicts = refl
