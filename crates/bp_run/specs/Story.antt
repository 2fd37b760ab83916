-- Transitions, and the runs that a list of records tells.
use Rattle.std.specs.Prelude.{ℕ, zero, suc, ◌+◌, ◌*◌, Bool, true, false, not, ◌&&◌, ◌||◌, ◌==◌, nat_lt, nat_eq, List, [], ◌∷◌, ◌++◌, length, map, Option, Some, None, Ok, Err, filter, if◌then◌else◌, option_and_then, option_map, remove, count_by, slice_get}
use Rattle.std.specs.List.{list_any}
use Rattle.js_data.specs.Event.{PlainEvent, event_weight, same_event}
use Rattle.js_data.specs.declared.fault.Fault.TheVariants.{Truth}
use Rattle.bp_log.specs.Options.{PlainOptions}
use Rattle.bp_log.specs.Verdicts.{same_verdict}
use Rattle.bp_log.specs.declared.limits.TheConstants.{MOST_WAITING, MOST_WEIGHT}
use Rattle.bp_log.specs.declared.record.Record.{Record}
use Rattle.bp_log.specs.declared.record.Record.TheVariants.{In, Bad, Eof, Sel, End}
use Rattle.bp_log.specs.declared.trace.Line.{Line}
use Rattle.bp_log.specs.declared.trace.Line.TheVariants as trace
use Rattle.bp_log.specs.declared.verdict.Place.TheVariants.{Thread as Named}
use Rattle.bp_log.specs.declared.verdict.Verdict.{Verdict}
use Rattle.bp_log.specs.declared.verdict.Verdict.TheVariants as verdict
use Rattle.bp_run.specs.Bodies.{Code, SetFault}
use Rattle.bp_run.specs.Bodies.SetFault.{Broken, Spent, NotTruth}
use Rattle.bp_run.specs.Configuration.{Configuration, Stand, Thread, change, name_in}
use Rattle.bp_run.specs.Settling.{Body, Entry, Pair, settle, initial, queued}
use Rattle.bp_run.specs.Settling.Entry.{Runs, Stops}
use Rattle.bp_run.specs.Selecting.{live, Asked}
use Rattle.bp_run.specs.Choosing.{Choice, choice, Touched, reach}
use Rattle.bp_run.specs.Choosing.Touched.{Moves, Interrupts}

abbrev pub without : List PlainEvent → Option ℕ → List PlainEvent
without queue None = queue
without queue (Some place) = remove queue place

abbrev pub line_of_choice : PlainEvent → Option ℕ → Line
line_of_choice e None = trace.Event e
line_of_choice e (Some place) = trace.External e

abbrev pub is_move : Touched → Bool
is_move (Moves i) = true
is_move (Interrupts i) = false

-- a b-thread that moves receives e; one that is interrupted ends
abbrev pub touch : {Origin : Type 0} → PlainEvent → Touched → List (Thread Origin) →
    List (Thread Origin)
touch e (Moves i) ts = change (λ t. record t { replies = t.replies ++ e ∷ [] }) i ts
touch e (Interrupts i) ts = change (λ t. record t { ended = true }) i ts

abbrev pub touch_all : {Origin : Type 0} → PlainEvent → List Touched → List (Thread Origin) →
    List (Thread Origin)
touch_all e [] ts = ts
touch_all e (n ∷ ns) ts = touch_all e ns (touch e n ts)

-- the weight of the event counts once, and once for each b-thread that receives it
abbrev pub weight_after : {Origin : Type 0} → Stand Origin → PlainEvent → List Touched → ℕ
weight_after s e reached = s.weight + event_weight e * (1 + count_by is_move reached)

-- the transition itself, before anything runs
unfoldable pub step : {Origin : Type 0} → Stand Origin → PlainEvent → Option ℕ → List Touched →
    Stand Origin
step s e place reached =
    record s {
      threads = touch_all e reached s.threads;
      queue = without s.queue place;
      transitions = s.transitions + 1;
      weight = weight_after s e reached;
      lines = s.lines ++ line_of_choice e place ∷ [];
    }

-- the run of its handler at e, if it set one by then
abbrev pub handler_body : {Origin Set : Type 0} → Code Origin Set → PlainEvent →
    Option (Thread Origin) → Option (Body Origin)
handler_body code e None = None
handler_body code e (Some t) =
    option_map (λ o. record { origin = o; replies = [] }) (code.handling t.origin t.replies e)

abbrev pub entry_of : {Origin Set : Type 0} → Code Origin Set → Stand Origin → PlainEvent → Touched →
    Entry Origin
entry_of code s e (Moves i) = Runs i
entry_of code s e (Interrupts i) = Stops i (handler_body code e (slice_get s.threads i))

-- the transition, and what is to be run after it
abbrev pub stepped : {Origin Set : Type 0} → Code Origin Set → Stand Origin → PlainEvent → Option ℕ →
    List Touched → Pair Origin
stepped code s e place reached =
    record { stand = step s e place reached; entries = map (entry_of code s e) reached }

-- the transition, and all that runs after it
abbrev pub move : {Origin Set : Type 0} → Code Origin Set → Configuration Origin → Choice →
    List Touched → Configuration Origin
move code c ch reached =
    record c {
      stand = settle code (stepped code c.stand ch.event ch.place reached);
      drawn = ch.drawn;
    }

-- what comes next
pub data Next : Type 0 where
  Ends : Verdict → Next
  Selects : Choice → List Touched → Next
  Waits : Next

-- a fault of a set, as the verdict in the name of the b-thread whose set it is
abbrev pub set_verdict : List ℕ → SetFault → Verdict
set_verdict name (Broken f line) = verdict.Fault (Named name) line f
set_verdict name Spent = verdict.Spent (Named name)
set_verdict name (NotTruth line) = verdict.Fault (Named name) line Truth

abbrev pub fault_verdict : {Origin : Type 0} → Stand Origin → ℕ × SetFault → Verdict
fault_verdict s x = set_verdict (name_in (slice_get s.threads x.0)) x.1

-- an event is chosen: its reach may be at fault, and the weight of the run may pass its limit
abbrev pub next_chosen : {Origin : Type 0} → Stand Origin → Choice → Asked (List Touched) → Next
next_chosen s ch (Err x) = Ends (fault_verdict s x)
next_chosen s ch (Ok reached) =
    if nat_lt MOST_WEIGHT (weight_after s ch.event reached) then Ends verdict.Weight
    else Selects ch reached

-- no item is waited for: every injector has ended, or the run does not wait
abbrev pub waits_for_none : {Origin : Type 0} → PlainOptions → Configuration Origin → Bool
waits_for_none o c = (length c.reading == 0) || not o.wait

-- nothing is selectable
abbrev pub next_idle : {Origin : Type 0} → PlainOptions → Configuration Origin → Option (ℕ × ℕ) →
    Next
next_idle o c (Some bad) = Ends (verdict.Bad bad.0 bad.1)
next_idle o c None =
    if length c.stand.queue == MOST_WAITING then Ends verdict.Queue
    else if waits_for_none o c then Ends (verdict.Quiet c.stand.transitions)
    else Waits

abbrev pub next_choice : {Origin Set : Type 0} → Code Origin Set → PlainOptions → Configuration Origin →
    Asked (Option Choice) → Next
next_choice code o c (Err x) = Ends (fault_verdict c.stand x)
next_choice code o c (Ok None) = next_idle o c c.bad
next_choice code o c (Ok (Some ch)) =
    if c.stand.transitions == o.steps then Ends (verdict.Steps o.steps)
    else next_chosen c.stand ch (reach code.has ch.event (live code c.stand))

abbrev pub next_unless : {Origin Set : Type 0} → Code Origin Set → PlainOptions → Configuration Origin →
    Option Verdict → Next
next_unless code o c (Some v) = Ends v
next_unless code o c None =
    next_choice code o c
    (choice code.has code.word o.strategy (live code c.stand) c.stand.queue c.drawn)

unfoldable pub next : {Origin Set : Type 0} → Code Origin Set → PlainOptions →
    Configuration Origin → Next
next code o c = next_unless code o c c.stand.verdict

abbrev pub is_over : {Origin : Type 0} → Configuration Origin → Bool
is_over c = elim c.stand.verdict [ None ↦ false | Some v ↦ true ]

-- an item of an injector that is still read may come while there is no verdict
abbrev pub may_come : {Origin : Type 0} → Configuration Origin → ℕ → Bool
may_come c j = not (is_over c) && list_any (nat_eq j) c.reading

-- fewer events wait than may
abbrev pub has_room : {Origin : Type 0} → Stand Origin → Bool
has_room s = nat_lt (length s.queue) MOST_WAITING

abbrev pub read_out : {Origin : Type 0} → Configuration Origin → ℕ → Configuration Origin
read_out c j = record c { reading = filter (λ k. not (nat_eq j k)) c.reading }

abbrev pub first_bad : Option (ℕ × ℕ) → ℕ → ℕ → Option (ℕ × ℕ)
first_bad None j n = Some (j, n)
first_bad (Some b) j n = Some b

abbrev pub if_selected : {Origin Set : Type 0} → Code Origin Set → Configuration Origin → PlainEvent →
    Next → Option (Configuration Origin)
if_selected code c e (Ends v) = None
if_selected code c e Waits = None
if_selected code c e (Selects ch reached) =
    if same_event e ch.event then Some (move code c ch reached) else None

abbrev pub over : {Origin : Type 0} → Stand Origin → Verdict → Stand Origin
over s v = record s { verdict = Some v; lines = s.lines ++ trace.Verdict v ∷ [] }

abbrev pub over_with : {Origin : Type 0} → Configuration Origin → Verdict → Configuration Origin
over_with c v = record c { stand = over c.stand v }

abbrev pub if_ended : {Origin : Type 0} → Configuration Origin → Verdict → Next →
    Option (Configuration Origin)
if_ended c v (Ends w) = if same_verdict v w then Some (over_with c v) else None
if_ended c v Waits = None
if_ended c v (Selects ch reached) = None

-- the configuration after one record
unfoldable pub after_record : {Origin Set : Type 0} → Code Origin Set → PlainOptions →
    Configuration Origin → Record → Option (Configuration Origin)
after_record code o c (In j e) =
    if may_come c j && has_room c.stand then Some (record c { stand = queued e c.stand }) else None
after_record code o c (Bad j n) =
    if may_come c j then Some (record (read_out c j) { bad = first_bad c.bad j n }) else None
after_record code o c (Eof j) = if may_come c j then Some (read_out c j) else None
after_record code o c (Sel e) = if_selected code c e (next code o c)
after_record code o c (End v) = if_ended c v (next code o c)

-- the records lead from a configuration to this one, or to nothing where they don't; nothing follows an end
unfoldable pub story_from : {Origin Set : Type 0} → Code Origin Set → PlainOptions → List Record →
    Configuration Origin → Option (Configuration Origin)
story_from code o [] c = Some c
story_from code o (End v ∷ r ∷ rs) c = None
story_from code o (r ∷ rs) c = option_and_then (story_from code o rs) (after_record code o c r)

unfoldable pub story : {Origin Set : Type 0} → Code Origin Set → PlainOptions → List Record →
    Option (Configuration Origin)
story code o records = story_from code o records (initial code o.injectors)

-- the run without injectors: at most the options' number of steps, then the end
unfoldable pub alone_from : {Origin Set : Type 0} → Code Origin Set → PlainOptions → ℕ →
    Configuration Origin → List Record
alone_from code o zero c = []
alone_from code o (suc steps) c =
    elim (next code o c) [
      | Ends v ↦ End v ∷ []
      | Selects ch reached ↦ Sel ch.event ∷ alone_from code o steps (move code c ch reached)
      | Waits ↦ []
    ]

unfoldable pub alone : {Origin Set : Type 0} → Code Origin Set → PlainOptions → List Record
alone code o = alone_from code o (o.steps + 1) (initial code o.injectors)

-- what is recorded of what comes next, and what it leads to
abbrev pub record_of : Next → Option Record
record_of (Ends v) = Some (End v)
record_of (Selects ch reached) = Some (Sel ch.event)
record_of Waits = None

abbrev pub after_next : {Origin Set : Type 0} → Code Origin Set → Configuration Origin → Next →
    Configuration Origin
after_next code c (Ends v) = over_with c v
after_next code c (Selects ch reached) = move code c ch reached
after_next code c Waits = c
