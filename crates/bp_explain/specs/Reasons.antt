-- What is said of a selection, and of an event that is asked about, over the b-threads as the code
-- has them.
use Rattle.std.specs.Prelude.{ℕ, List, [], ◌∷◌, ◌++◌, map, filter, take, flat_map, Option, Some, None, codes}
use Rattle.js_data.specs.Event.{PlainEvent}
use Rattle.js_data.specs.JsonText.{quoted_text, event_text}
use Rattle.js_value.specs.Value.{PlainSet}
use Rattle.bp_log.specs.declared.options.Strategy.{Strategy}
use Rattle.bp_run.specs.Selecting.{Has, candidates}
use Rattle.bp_run.specs.Choosing.{remaining}
use Rattle.bp_explain.specs.declared.stops.Stop.{Stop}
use Rattle.bp_explain.specs.Reaching.{interrupts, moves}
use Rattle.bp_explain.specs.Listed.{listed}
use Rattle.bp_explain.specs.Stops.{live_of, name_of, blocker_names, requester_names}
use Rattle.bp_explain.specs.Whys.{drawn_text, left_text, source_of}

-- those that go on at e, and those that it interrupts, by name
abbrev pub moved_names : Has PlainSet → List Stop → PlainEvent → List (List ℕ)
moved_names has ss e = map name_of (filter (λ s. moves has e (live_of s)) ss)

abbrev pub interrupted_names : Has PlainSet → List Stop → PlainEvent → List (List ℕ)
interrupted_names has ss e = map name_of (filter (λ s. interrupts has e (live_of s)) ss)

-- a word and names after it, in a line or as one; nothing where there are no names
abbrev pub with_words : List ℕ → List (List ℕ) → List ℕ
with_words word [] = []
with_words word (n ∷ ns) = word ++ listed quoted_text (n ∷ ns)

abbrev pub names_line : List ℕ → List (List ℕ) → List ℕ
names_line word [] = []
names_line word (n ∷ ns) = word ++ (listed quoted_text (n ∷ ns) ++ codes "\n")

abbrev pub blocked_words : Has PlainSet → List Stop → PlainEvent → List ℕ
blocked_words has ss e = with_words (codes ", blocked by ") (blocker_names has ss e)

abbrev pub candidate_line : Has PlainSet → List Stop → PlainEvent → List ℕ
candidate_line has ss e =
    codes "candidate " ++ (event_text e
    ++ (with_words (codes ", requested by ") (requester_names ss e)
    ++ (blocked_words has ss e ++ codes "\n")))

abbrev pub passed_line : Has PlainSet → List Stop → PlainEvent → List ℕ
passed_line has ss e = codes "waiting " ++ (event_text e ++ (blocked_words has ss e ++ codes "\n"))

-- what the strategy left, and the word that was drawn
abbrev pub left_lines : (ℕ → ℕ) → Strategy → List Stop → List PlainEvent → ℕ → List ℕ
left_lines word strategy ss inner drawn =
    let left = remaining strategy (map live_of ss) inner in
    left_text strategy left ++ drawn_text word drawn left

abbrev pub reached_lines : Has PlainSet → List Stop → PlainEvent → List ℕ
reached_lines has ss e =
    names_line (codes "moved ") (moved_names has ss e)
    ++ names_line (codes "interrupted ") (interrupted_names has ss e)

-- the event, in words where it comes from, and whom it reached
abbrev pub selected_from : Has PlainSet → List Stop → PlainEvent → List ℕ → List ℕ
selected_from has ss e source =
    codes "selected " ++ (event_text e ++ (source ++ (codes "\n" ++ reached_lines has ss e)))

abbrev pub selected_lines : Has PlainSet → List Stop → PlainEvent → Option ℕ → List ℕ
selected_lines has ss e place = selected_from has ss e (source_of place)

abbrev pub candidate_lines : Has PlainSet → List Stop → List ℕ
candidate_lines has ss = flat_map (candidate_line has ss) (candidates (map live_of ss))

-- what was overtaken in the queue
abbrev pub passed_lines : Has PlainSet → List Stop → List PlainEvent → ℕ → List ℕ
passed_lines has ss queue place = flat_map (passed_line has ss) (take place queue)

abbrev pub choice_lines : (ℕ → ℕ) → Strategy → Has PlainSet → List Stop → List PlainEvent →
    List PlainEvent → ℕ → Option ℕ → List ℕ
choice_lines word strategy has ss queue inner drawn None = left_lines word strategy ss inner drawn
choice_lines word strategy has ss queue inner drawn (Some place) = passed_lines has ss queue place

-- all that is said of a selection of e from this place
abbrev pub why_lines : (ℕ → ℕ) → Strategy → Has PlainSet → List Stop → List PlainEvent →
    List PlainEvent → ℕ → PlainEvent → Option ℕ → List ℕ
why_lines word strategy has ss queue inner drawn e place =
    candidate_lines has ss
    ++ (choice_lines word strategy has ss queue inner drawn place ++ selected_lines has ss e place)

abbrev pub listed_or_nobody : List (List ℕ) → List ℕ
listed_or_nobody [] = codes "nobody"
listed_or_nobody (n ∷ ns) = listed quoted_text (n ∷ ns)

abbrev pub held_words : Has PlainSet → List Stop → PlainEvent → List ℕ
held_words has ss e =
    codes ", blocked by " ++ (listed_or_nobody (blocker_names has ss e) ++ codes "\n")

-- an event that is asked about
abbrev pub asked_line : Has PlainSet → List Stop → PlainEvent → List ℕ
asked_line has ss e =
    codes "event " ++ (event_text e
    ++ (codes ", requested by "
    ++ (listed_or_nobody (requester_names ss e) ++ held_words has ss e)))
