-- Why an event was selected, in words: who requested what, who blocked it, what the strategy left,
-- the word that was drawn, and whom the event reached. And why an event is not selected where a run
-- ends: who requests it and who blocks it there.
use Rattle.std.specs.Prelude.{ℕ, zero, suc, ◌+◌, ◌%◌, List, [], ◌∷◌, ◌++◌, length, take, flat_map, Option, Some, None, Ok, Err, option_and_then, option_map, decimal, codes, if◌then◌else◌}
use Rattle.std.specs.List.{filter_map}
use Rattle.js_data.specs.Event.{PlainEvent, same_event}
use Rattle.js_data.specs.JsonText.{event_text}
use Rattle.js_program.specs.PlainProgram.{PlainProgram}
use Rattle.bp_log.specs.Logs.{strategy_name}
use Rattle.bp_log.specs.Options.{PlainOptions}
use Rattle.bp_log.specs.declared.options.Strategy.{Strategy}
use Rattle.bp_log.specs.declared.record.Record.{Record}
use Rattle.bp_log.specs.declared.record.Record.TheVariants.{Sel, End}
use Rattle.bp_run.specs.Bodies.{Code}
use Rattle.bp_run.specs.Configuration.{Configuration, Stand}
use Rattle.bp_run.specs.Selecting.{Asked, Enabled, live, candidates, selectable}
use Rattle.bp_run.specs.Choosing.{Choice, Touched, remaining}
use Rattle.bp_run.specs.Story.{Next, is_over, next, story}
use Rattle.bp_run.specs.Story.Next.{Ends, Selects, Waits}
use Rattle.bp_code.specs.Code.{code_of}
use Rattle.bp_select.specs.Answers.{move_of, interrupt_of}
use Rattle.bp_explain.specs.Blocking.{blockers, requesters}
use Rattle.bp_explain.specs.Explained.{before_end, heading, verdict_line, within_turn}
use Rattle.bp_explain.specs.Listed.{listed}
use Rattle.bp_explain.specs.States.{names_text}

-- a word and names after it; nothing where there are no names
abbrev pub with_names : {Origin : Type 0} → Stand Origin → List ℕ → List ℕ → List ℕ
with_names s word [] = []
with_names s word (n ∷ ns) = word ++ names_text s (n ∷ ns)

abbrev pub blocked_by : {Origin Set : Type 0} → Code Origin Set → Stand Origin → PlainEvent → List ℕ
blocked_by code s e = with_names s (codes ", blocked by ") (blockers code.has (live code s) e)

abbrev pub candidate_text : {Origin Set : Type 0} → Code Origin Set → Stand Origin → PlainEvent →
    List ℕ
candidate_text code s e =
    codes "candidate " ++ (event_text e
    ++ (with_names s (codes ", requested by ") (requesters (live code s) e)
    ++ (blocked_by code s e ++ codes "\n")))

-- one that waits before the selected event
abbrev pub passed_text : {Origin Set : Type 0} → Code Origin Set → Stand Origin → PlainEvent →
    List ℕ
passed_text code s e = codes "waiting " ++ (event_text e ++ (blocked_by code s e ++ codes "\n"))

abbrev pub inner_of : Asked Enabled → List PlainEvent
inner_of (Ok x) = x.inner
inner_of (Err f) = []

-- one event is selected without a word
abbrev pub drawn_text : (ℕ → ℕ) → ℕ → List PlainEvent → List ℕ
drawn_text word drawn (e ∷ f ∷ es) =
    let n = length (e ∷ f ∷ es) in
    codes "word " ++ (decimal (word drawn)
    ++ (codes " mod " ++ (decimal n ++ (codes " is " ++ (decimal (word drawn % n) ++ codes "\n")))))
drawn_text word drawn _ = []

abbrev pub left_text : Strategy → List PlainEvent → List ℕ
left_text strategy es =
    codes "strategy " ++ (strategy_name strategy
    ++ (codes " leaves " ++ (listed event_text es ++ codes "\n")))

-- what the strategy left and the word that was drawn; or, where it comes from the queue, what it
-- overtook there
abbrev pub choice_text : {Origin Set : Type 0} → Code Origin Set → PlainOptions →
    Configuration Origin → Option ℕ → List ℕ
choice_text code o c None =
    let ts = live code c.stand in
    let left = remaining o.strategy ts (inner_of (selectable code.has ts c.stand.queue)) in
    left_text o.strategy left ++ drawn_text code.word c.drawn left
choice_text code o c (Some place) = flat_map (passed_text code c.stand) (take place c.stand.queue)

abbrev pub line_of_names : {Origin : Type 0} → Stand Origin → List ℕ → List ℕ → List ℕ
line_of_names s word [] = []
line_of_names s word (n ∷ ns) = word ++ (names_text s (n ∷ ns) ++ codes "\n")

abbrev pub source_of : Option ℕ → List ℕ
source_of None = []
source_of (Some place) = codes ", from the queue"

-- the event, where it comes from, and whom it reached
abbrev pub selected_text : {Origin : Type 0} → Stand Origin → PlainEvent → Option ℕ → List Touched →
    List ℕ
selected_text s e place reached =
    codes "selected " ++ (event_text e ++ (source_of place ++ (codes "\n"
    ++ (line_of_names s (codes "moved ") (filter_map move_of reached)
    ++ line_of_names s (codes "interrupted ") (filter_map interrupt_of reached)))))

unfoldable pub why_text : {Origin Set : Type 0} → Code Origin Set → PlainOptions →
    Configuration Origin → Choice → List Touched → List ℕ
why_text code o c ch reached =
    flat_map (candidate_text code c.stand) (candidates (live code c.stand))
    ++ (choice_text code o c ch.place ++ selected_text c.stand ch.event ch.place reached)

-- the records before the selection of this number, counted from 0, and its event; nothing follows
-- an end
abbrev pub before_selection : ℕ → List Record → List Record → Option (List Record × PlainEvent)
before_selection n before [] = None
before_selection n before (End v ∷ rs) = None
before_selection zero before (Sel e ∷ rs) = Some (before, e)
before_selection (suc n) before (Sel e ∷ rs) = before_selection n (before ++ Sel e ∷ []) rs
before_selection n before (r ∷ rs) = before_selection n (before ++ r ∷ []) rs

-- this selection, counted from 0, is made after so many records
abbrev pub why_heading : ℕ → ℕ → List ℕ
why_heading n count =
    codes "selection " ++ (decimal (n + 1)
    ++ (codes ", record " ++ (decimal (count + 1) ++ codes "\n")))

-- where e is what comes next
abbrev pub why_next : {Origin Set : Type 0} → Code Origin Set → PlainOptions → ℕ → List Record →
    PlainEvent → Configuration Origin → Next → Option (List ℕ)
why_next code o n before e c (Selects ch reached) =
    if same_event e ch.event
    then Some (why_heading n (length before) ++ why_text code o c ch reached)
    else None
why_next code o n before e c (Ends v) = None
why_next code o n before e c Waits = None

-- of the selection of this number, counted from 0, where the records up to it are a story, and it
-- is what comes next
unfoldable pub why : {Origin Set : Type 0} → Code Origin Set → PlainOptions → ℕ → List Record →
    Option (List ℕ)
why code o n records =
    option_and_then
    (λ b. option_and_then (λ c. why_next code o n b.0 b.1 c (next code o c)) (story code o b.0))
    (before_selection n [] records)

-- ---- an event where a run ends

abbrev pub names_or_nobody : {Origin : Type 0} → Stand Origin → List ℕ → List ℕ
names_or_nobody s [] = codes "nobody"
names_or_nobody s (n ∷ ns) = names_text s (n ∷ ns)

-- who requests it, and everyone who blocks it
unfoldable pub asked_text : {Origin Set : Type 0} → Code Origin Set → Stand Origin → PlainEvent →
    List ℕ
asked_text code s e =
    codes "event " ++ (event_text e
    ++ (codes ", requested by " ++ (names_or_nobody s (requesters (live code s) e)
    ++ (codes ", blocked by "
    ++ (names_or_nobody s (blockers code.has (live code s) e) ++ codes "\n")))))

-- after this many records; where a b-thread's own doing is the verdict, nothing is said of the
-- others, as of a state
abbrev pub asked_at_rest : {Origin Set : Type 0} → Code Origin Set → PlainEvent → ℕ →
    Configuration Origin → List ℕ
asked_at_rest code e n c = if is_over c then within_turn n else asked_text code c.stand e

-- where the records are a story: the event in the state in which its end, if it has one, finds it,
-- and the verdict
unfoldable pub why_not : {Origin Set : Type 0} → Code Origin Set → PlainOptions → PlainEvent →
    List Record → Option (List ℕ)
why_not code o e records =
    option_and_then
    (λ found. option_map
    (λ c. heading records
    ++ (asked_at_rest code e (length (before_end records)) found ++ verdict_line c.stand.verdict))
    (story code o records))
    (story code o (before_end records))

-- ---- of a program

-- the selection of this number, counted from 1
abbrev pub why_of : PlainProgram → PlainOptions → ℕ → List Record → Option (List ℕ)
why_of program options zero records = None
why_of program options (suc n) records = why (code_of program options) options n records

abbrev pub why_not_of : PlainProgram → PlainOptions → PlainEvent → List Record → Option (List ℕ)
why_not_of program options e records = why_not (code_of program options) options e records
