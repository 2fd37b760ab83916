-- The b-threads that stand at a `bp.sync`, as the code has them, and what is said of them.
use Rattle.std.specs.Prelude.{ℕ, Bool, List, [], ◌++◌, map, filter, flat_map, codes, if◌then◌else◌}
use Rattle.js_data.specs.Event.{PlainEvent}
use Rattle.js_data.specs.JsonText.{quoted_text, event_text}
use Rattle.js_value.specs.Value.{PlainSet}
use Rattle.bp_run.specs.Selecting.{Has, Live, candidates, requests}
use Rattle.bp_thread.specs.Views.{plain_statement}
use Rattle.bp_explain.specs.declared.stops.Stop.{Stop}
use Rattle.bp_explain.specs.Words.{Spelling}
use Rattle.bp_explain.specs.Listed.{listed}
use Rattle.bp_explain.specs.Blocking.{says_yes}
use Rattle.bp_explain.specs.Standing.{Standing, standing_text}
use Rattle.bp_explain.specs.States.{waiting_text, reading_text}

abbrev pub live_of : Stop → Live PlainSet
live_of s = record { number = s.number; statement = plain_statement s.statement.now }

abbrev pub standing_of : Stop → Standing PlainSet
standing_of s =
    record { name = s.name.now; line = s.line; statement = plain_statement s.statement.now }

abbrev pub name_of : Stop → List ℕ
name_of s = s.name.now

abbrev pub is_blocker : Has PlainSet → PlainEvent → Stop → Bool
is_blocker has e s = says_yes (has (plain_statement s.statement.now).block e)

-- everyone who blocks e, and everyone who requests it, by name
abbrev pub blocker_names : Has PlainSet → List Stop → PlainEvent → List (List ℕ)
blocker_names has ss e = map name_of (filter (is_blocker has e) ss)

abbrev pub requester_names : List Stop → PlainEvent → List (List ℕ)
requester_names ss e = map name_of (filter (λ s. requests e (live_of s)) ss)

abbrev pub blocked_by : Has PlainSet → List Stop → PlainEvent → List ℕ
blocked_by has ss e =
    codes ", is blocked by " ++ (listed quoted_text (blocker_names has ss e) ++ codes "\n")

abbrev pub blocked_line : Has PlainSet → List Stop → List ℕ → PlainEvent → List ℕ
blocked_line has ss asked e = codes "  " ++ (event_text e ++ (asked ++ blocked_by has ss e))

abbrev pub request_line : Has PlainSet → List Stop → PlainEvent → List ℕ
request_line has ss e =
    blocked_line has ss (codes ", requested by " ++ listed quoted_text (requester_names ss e)) e

abbrev pub waiting_line : Has PlainSet → List Stop → PlainEvent → List ℕ
waiting_line has ss e = blocked_line has ss (codes ", which waits") e

abbrev pub each_line : Has PlainSet → List Stop → List PlainEvent → List PlainEvent → List ℕ
each_line has ss [] [] = codes ": nothing is requested, and nothing waits\n"
each_line has ss asked queue =
    codes ":\n" ++ (flat_map (request_line has ss) asked ++ flat_map (waiting_line has ss) queue)

-- what is said where nothing can be selected, and else
abbrev pub stuck_lines : Has PlainSet → Bool → List Stop → List PlainEvent → List ℕ
stuck_lines has nothing ss queue =
    if nothing
    then codes "nothing can be selected" ++ each_line has ss (candidates (map live_of ss)) queue
    else []

-- where they stand, what waits, which injectors are read, and whether nothing can be selected
abbrev pub rest_lines : Spelling PlainSet → Has PlainSet → Bool → List Stop → List PlainEvent →
    List ℕ → List ℕ
rest_lines w has nothing ss queue reading =
    flat_map (λ s. standing_text w (standing_of s)) ss
    ++ (flat_map waiting_text queue
    ++ (flat_map reading_text reading ++ stuck_lines has nothing ss queue))
