-- Free runs: events, each of which could be selected where it came, and how such a run may end.
use Rattle.std.specs.Prelude.{◌≡◌, ℕ, List, [], ◌∷◌, nat_lt, Option, Some, None, Ok, Err, slice_get, option_and_then, if◌then◌else◌}
use Rattle.std.specs.List.{list_any}
use Rattle.js_data.specs.Event.{PlainEvent, same_event}
use Rattle.bp_log.specs.Options.{PlainOptions}
use Rattle.bp_log.specs.declared.limits.TheConstants.{MOST_WEIGHT}
use Rattle.bp_log.specs.declared.verdict.Verdict.{Verdict}
use Rattle.bp_log.specs.declared.verdict.Verdict.TheVariants as verdict
use Rattle.bp_run.specs.Bodies.{Code}
use Rattle.bp_run.specs.Configuration.{Stand}
use Rattle.bp_run.specs.Settling.{settle, opening}
use Rattle.bp_run.specs.Selecting.{Asked, Enabled, live}
use Rattle.bp_run.specs.Choosing.{Touched, reach}
use Rattle.bp_run.specs.Story.{stepped, weight_after, fault_verdict}
use Rattle.bp_free.specs.Due.{Due, Ends, Goes, Idles, due}

-- ---- an event that can be selected

-- where it comes from: from no place, if it is requested, and else from the first place of the queue
-- that can be selected
abbrev pub place_among : List PlainEvent → Option ℕ → List PlainEvent → PlainEvent → Option (Option ℕ)
place_among (c ∷ cs) outer queue e = if list_any (same_event e) (c ∷ cs) then Some None else None
place_among [] None queue e = None
place_among [] (Some i) queue e =
    option_and_then (λ f. if same_event e f then Some (Some i) else None) (slice_get queue i)

abbrev pub place_in : Enabled → List PlainEvent → PlainEvent → Option (Option ℕ)
place_in x queue e = place_among x.inner x.outer queue e

-- the verdict with which it stops the run, where its reach is at fault or the run would weigh too much
abbrev pub stop_at_reach : {Origin : Type 0} → Stand Origin → PlainEvent → Asked (List Touched) →
    Option Verdict
stop_at_reach s e (Err x) = Some (fault_verdict s x)
stop_at_reach s e (Ok xs) = if nat_lt MOST_WEIGHT (weight_after s e xs) then Some verdict.Weight else None

abbrev pub stop_of : {Origin Set : Type 0} → Code Origin Set → Stand Origin → PlainEvent → Option Verdict
stop_of l s e = stop_at_reach s e (reach l.has e (live l s))

-- ---- a further event

-- where it leads, unless it stops the run
abbrev pub if_reached : {Origin Set : Type 0} → Code Origin Set → Stand Origin → PlainEvent → Option ℕ →
    Asked (List Touched) → Option (Stand Origin)
if_reached l s e place (Err x) = None
if_reached l s e place (Ok xs) =
    if nat_lt MOST_WEIGHT (weight_after s e xs) then None else Some (settle l (stepped l s e place xs))

abbrev pub if_placed : {Origin Set : Type 0} → Code Origin Set → Stand Origin → PlainEvent →
    Option (Option ℕ) → Option (Stand Origin)
if_placed l s e None = None
if_placed l s e (Some place) = if_reached l s e place (reach l.has e (live l s))

abbrev pub if_goes : {Origin Set : Type 0} → Code Origin Set → Stand Origin → PlainEvent → Due →
    Option (Stand Origin)
if_goes l s e (Ends v) = None
if_goes l s e (Idles v) = None
if_goes l s e (Goes x) = if_placed l s e (place_in x s.queue e)

-- where the event leads, if it may come
unfoldable pub further : {Origin Set : Type 0} → Code Origin Set → PlainOptions → PlainEvent →
    Stand Origin → Option (Stand Origin)
further l o e s = if_goes l s e (due l o s)

-- ---- free runs

unfoldable pub free_from : {Origin Set : Type 0} → Code Origin Set → PlainOptions → List PlainEvent →
    Stand Origin → Option (Stand Origin)
free_from l o [] s = Some s
free_from l o (e ∷ es) s = option_and_then (free_from l o es) (further l o e s)

-- where these events lead from the start
unfoldable pub free : {Origin Set : Type 0} → Code Origin Set → PlainOptions → List PlainEvent →
    Option (Stand Origin)
free l o es = free_from l o es (settle l opening)

-- ---- their ends

-- some event that can be selected stops the run so
pub record StopsAt {Origin Set : Type 0} (l : Code Origin Set) (s : Stand Origin) (x : Enabled)
    (v : Verdict) : Type 0 where
  pub event : PlainEvent
  pub place : Option ℕ
  pub placed : place_in x s.queue event ≡ Some place
  pub stops : stop_of l s event ≡ Some v

abbrev pub EndsBy : {Origin Set : Type 0} → Code Origin Set → Stand Origin → Verdict → Due → Type 0
EndsBy l s v (Ends w) = v ≡ w
EndsBy l s v (Idles w) = v ≡ w
EndsBy l s v (Goes x) = StopsAt l s x v

-- a free run may end here with this verdict
abbrev pub IsFreeEnd : {Origin Set : Type 0} → Code Origin Set → PlainOptions → Stand Origin → Verdict →
    Type 0
IsFreeEnd l o s v = EndsBy l s v (due l o s)
