-- Why a line may not come where it stands: the first reason that holds.
use Rattle.std.specs.Prelude.{ℕ, Bool, false, List, [], ◌∷◌, Option, Some, None, Ok, Err, option_and_then, slice_get, codes, if◌then◌else◌}
use Rattle.js_data.specs.Event.{PlainEvent, same_event}
use Rattle.bp_log.specs.Options.{PlainOptions}
use Rattle.bp_log.specs.declared.trace.Line.{Line}
use Rattle.bp_log.specs.declared.trace.Line.TheVariants as trace
use Rattle.bp_run.specs.Bodies.{Code}
use Rattle.bp_run.specs.Configuration.{Stand, name_in}
use Rattle.bp_run.specs.Selecting.{Asked, Enabled, live, requested, blocker}
use Rattle.bp_reading.specs.Words.{behind, compact_event_at}
use Rattle.bp_reading.specs.Heads.{Front, nothing, partial, excess, whole, line_at}
use Rattle.bp_free.specs.declared.limits.TheConstants.{MOST_TRACE_LINE}
use Rattle.bp_free.specs.declared.answer.Reason.{Reason}
use Rattle.bp_free.specs.declared.answer.Reason.TheVariants.{Cut, Expected, NotRequested, Blocked, NotFirst, NotHere}
use Rattle.bp_free.specs.Due.{Due, Ends, Goes, Idles, due}

-- ---- what the line says

-- the line that the bytes begin with
abbrev pub line_in : List ℕ → Front
line_in bytes = line_at MOST_TRACE_LINE bytes

-- the event of the line, which begins with this word
abbrev pub event_behind : List ℕ → List ℕ → Option PlainEvent
event_behind word line = option_and_then compact_event_at (behind word line)

-- the events of `event E` and of `external E`
abbrev pub internal_in : List ℕ → Option PlainEvent
internal_in line = event_behind (codes "event ") line

abbrev pub external_in : List ℕ → Option PlainEvent
external_in line = event_behind (codes "external ") line

-- ---- all lines that are due were said

-- what else: the one verdict that may come, or nothing that could be named
abbrev pub or_verdict : Due → Reason
or_verdict (Ends v) = Expected (trace.Verdict v)
or_verdict (Idles v) = Expected (trace.Verdict v)
or_verdict (Goes x) = NotHere

abbrev pub blocked_by : {Origin : Type 0} → Stand Origin → Due → PlainEvent → Asked (Option ℕ) → Reason
blocked_by s d e (Ok (Some n)) = Blocked e (name_in (slice_get s.threads n))
blocked_by s d e (Ok None) = or_verdict d
blocked_by s d e (Err x) = or_verdict d

-- of `event E`: nobody requests E, or this one blocks it first
abbrev pub event_reason : {Origin Set : Type 0} → Code Origin Set → Stand Origin → Due → PlainEvent →
    Reason
event_reason l s d e =
    if requested (live l s) e then blocked_by s d e (blocker l.has (live l s) e) else NotRequested e

abbrev pub is_at : List PlainEvent → ℕ → PlainEvent → Bool
is_at queue place e = elim (slice_get queue place) [ None ↦ false | Some f ↦ same_event e f ]

-- nothing that is requested can be selected, and the first event of the queue that can is this one
abbrev pub is_first_queued : List PlainEvent → Option ℕ → List PlainEvent → PlainEvent → Bool
is_first_queued (c ∷ cs) outer queue e = false
is_first_queued [] None queue e = false
is_first_queued [] (Some place) queue e = is_at queue place e

-- of `external E`
abbrev pub external_reason : {Origin : Type 0} → Stand Origin → Due → PlainEvent → Reason
external_reason s (Ends v) e = Expected (trace.Verdict v)
external_reason s (Idles v) e = NotFirst e
external_reason s (Goes x) e =
    if is_first_queued x.inner x.outer s.queue e then NotHere else NotFirst e

abbrev pub unless_internal : {Origin Set : Type 0} → Code Origin Set → Stand Origin → Due →
    Option PlainEvent → Option PlainEvent → Reason
unless_internal l s d (Some e) other = event_reason l s d e
unless_internal l s d None (Some e) = external_reason s d e
unless_internal l s d None None = or_verdict d

-- only a verdict may come, or what the line says decides
abbrev pub rest_reason : {Origin Set : Type 0} → Code Origin Set → Stand Origin → Due →
    Option PlainEvent → Option PlainEvent → Reason
rest_reason l s (Ends v) inner outer = Expected (trace.Verdict v)
rest_reason l s (Idles v) inner outer = unless_internal l s (Idles v) inner outer
rest_reason l s (Goes x) inner outer = unless_internal l s (Goes x) inner outer

-- ---- the reason

-- another line is due, or none is
abbrev pub line_reason : {Origin Set : Type 0} → Code Origin Set → PlainOptions → Stand Origin →
    List Line → Option PlainEvent → Option PlainEvent → Reason
line_reason l o s (d ∷ ds) inner outer = Expected d
line_reason l o s [] inner outer = rest_reason l s (due l o s) inner outer

-- where these lines are due and the bytes begin so; a line that is too long is no line of a run
abbrev pub reason_of : {Origin Set : Type 0} → Code Origin Set → PlainOptions → Stand Origin →
    List Line → Front → Reason
reason_of l o s ds partial = Cut
reason_of l o s ds nothing = Cut
reason_of l o s ds excess = line_reason l o s ds None None
reason_of l o s ds (whole line rest) = line_reason l o s ds (internal_in line) (external_in line)

-- behind the line of the verdict nothing else is asked
abbrev pub reason_behind : Front → Reason
reason_behind partial = Cut
reason_behind nothing = Cut
reason_behind excess = NotHere
reason_behind (whole line rest) = NotHere
