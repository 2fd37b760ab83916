-- The state of a run at rest, in words: where its b-threads stand, what waits in the queue, which
-- injectors are read still, and why nothing can be selected, where that is so.
use Rattle.std.specs.Prelude.{ℕ, List, [], ◌++◌, flat_map, slice_get, decimal, codes, if◌then◌else◌}
use Rattle.js_data.specs.Event.{PlainEvent}
use Rattle.js_data.specs.JsonText.{quoted_text, event_text}
use Rattle.bp_run.specs.Bodies.{Code}
use Rattle.bp_run.specs.Configuration.{Configuration, Stand, name_in}
use Rattle.bp_run.specs.Selecting.{live, candidates, selectable}
use Rattle.bp_explain.specs.Words.{Words}
use Rattle.bp_explain.specs.Blocking.{blockers, requesters, is_nothing}
use Rattle.bp_explain.specs.Standing.{all_standing, standing_text}
use Rattle.bp_explain.specs.Listed.{listed}

abbrev pub waiting_text : PlainEvent → List ℕ
waiting_text e = codes "waiting " ++ (event_text e ++ codes "\n")

abbrev pub reading_text : ℕ → List ℕ
reading_text j = codes "injector " ++ (decimal j ++ codes " is read\n")

abbrev pub names_text : {Origin : Type 0} → Stand Origin → List ℕ → List ℕ
names_text s ns = listed (λ n. quoted_text (name_in (slice_get s.threads n))) ns

-- e, in words who asks for it, and everyone who blocks it
abbrev pub blocked_text : {Origin Set : Type 0} → Code Origin Set → Stand Origin → List ℕ →
    PlainEvent → List ℕ
blocked_text code s asked e =
    codes "  " ++ (event_text e ++ (asked
    ++ (codes ", is blocked by "
    ++ (names_text s (blockers code.has (live code s) e) ++ codes "\n"))))

abbrev pub request_blocked : {Origin Set : Type 0} → Code Origin Set → Stand Origin →
    PlainEvent → List ℕ
request_blocked code s e =
    blocked_text code s (codes ", requested by " ++ names_text s (requesters (live code s) e)) e

abbrev pub waiting_blocked : {Origin Set : Type 0} → Code Origin Set → Stand Origin →
    PlainEvent → List ℕ
waiting_blocked code s e = blocked_text code s (codes ", which waits") e

-- each requested or waiting event
abbrev pub each_blocked : {Origin Set : Type 0} → Code Origin Set → Stand Origin → List PlainEvent →
    List PlainEvent → List ℕ
each_blocked code s [] [] = codes ": nothing is requested, and nothing waits\n"
each_blocked code s asked queue =
    codes ":\n"
    ++ (flat_map (request_blocked code s) asked ++ flat_map (waiting_blocked code s) queue)

abbrev pub stuck_text : {Origin Set : Type 0} → Code Origin Set → Stand Origin → List ℕ
stuck_text code s =
    if is_nothing (selectable code.has (live code s) s.queue)
    then codes "nothing can be selected" ++ each_blocked code s (candidates (live code s)) s.queue
    else []

-- at rest: no b-thread has to run, and there is no verdict
unfoldable pub rest_text : {Origin Set : Type 0} → Code Origin Set → Words Origin Set →
    Configuration Origin → List ℕ
rest_text code w c =
    flat_map (standing_text w.spelling) (all_standing code w c.stand)
    ++ (flat_map waiting_text c.stand.queue
    ++ (flat_map reading_text c.reading ++ stuck_text code c.stand))
