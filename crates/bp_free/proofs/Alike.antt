-- Stands that show the same: what their b-threads state, what waits, what was counted, and the names.
use Rattle.std.proofs.Common.{◌≡◌, ◌⊎◌, inl, inr, ℕ, ◌+◌, ◌*◌, Bool, true, false, nat_lt, ◌==◌, List, [], ◌∷◌, length, Option, Some, None, Ok, Err, refl, sym, ap, ◌∙◌, subst, slice_get, if◌then◌else◌}
use Rattle.std.specs.Prelude.{count_by}
use Rattle.js_data.specs.Event.{PlainEvent, event_weight}
use Rattle.bp_log.specs.Options.{PlainOptions}
use Rattle.bp_log.specs.declared.limits.TheConstants.{MOST_WAITING, MOST_WEIGHT}
use Rattle.bp_log.specs.declared.trace.Line.{Line}
use Rattle.bp_log.specs.declared.verdict.Verdict.{Verdict}
use Rattle.bp_log.specs.declared.verdict.Verdict.TheVariants as verdict
use Rattle.bp_reading.specs.Heads.{Front, nothing, partial, excess, whole}
use Rattle.bp_run.specs.Bodies.{Code, SetFault}
use Rattle.bp_run.specs.Configuration.{Stand, name_in}
use Rattle.bp_run.specs.Selecting.{Live, Asked, Enabled, live, selectable, requested, blocker}
use Rattle.bp_run.specs.Choosing.{Touched, reach}
use Rattle.bp_run.specs.Story.{weight_after, fault_verdict, set_verdict, is_move}
use Rattle.bp_free.specs.declared.answer.Reason.{Reason}
use Rattle.bp_free.specs.declared.answer.Reason.TheVariants.{Blocked, NotRequested, NotHere, NotFirst}
use Rattle.bp_free.specs.Due.{Due, Ends, Goes, Idles, due, due_unless, due_asked, due_among, due_open, idle_verdict}
use Rattle.bp_free.specs.Free.{place_in, stop_at_reach, stop_of, StopsAt, EndsBy, IsFreeEnd}
use Rattle.bp_free.specs.Nexts.{MayCome, EventNext, VerdictNext, MayBeNext}
use Rattle.bp_free.specs.Reasons.{blocked_by, event_reason, is_first_queued, external_reason, unless_internal, rest_reason, line_reason, reason_of, internal_in, external_in}

pub record Alike {O S : Type 0} (l : Code O S) (s t : Stand O) : Type 0 where
  pub stated : live l s ≡ live l t
  pub names : (i : ℕ) → name_in (slice_get s.threads i) ≡ name_in (slice_get t.threads i)
  pub queue : s.queue ≡ t.queue
  pub transitions : s.transitions ≡ t.transitions
  pub weight : s.weight ≡ t.weight
  pub verdict : s.verdict ≡ t.verdict

pub alike_back : {O S : Type 0} (l : Code O S) (s t : Stand O) → Alike l s t → Alike l t s
alike_back l s t a = record { stated = sym a.stated; names = λ i. sym (a.names i); queue = sym a.queue; transitions = sym a.transitions; weight = sym a.weight; verdict = sym a.verdict }

module _ {O S : Type 0} (l : Code O S) (o : PlainOptions) (s t : Stand O) (a : Alike l s t) where
  same_fault : (x : ℕ × SetFault) → fault_verdict s x ≡ fault_verdict t x
  same_fault x = ap (λ (n : List ℕ). set_verdict n x.1) (a.names x.0)

  same_weight : (e : PlainEvent) (xs : List Touched) → weight_after s e xs ≡ weight_after t e xs
  same_weight e xs = ap (λ (w : ℕ). w + event_weight e * (1 + count_by is_move xs)) a.weight

  same_stop_at : (e : PlainEvent) (x : Asked (List Touched)) → stop_at_reach s e x ≡ stop_at_reach t e x
  same_stop_at e (Err f) = ap (λ (v : Verdict). Some v) (same_fault f)
  same_stop_at e (Ok xs) = ap (λ (w : ℕ). if nat_lt MOST_WEIGHT w then Some verdict.Weight else None) (same_weight e xs)

  pub same_stop : (e : PlainEvent) → stop_of l s e ≡ stop_of l t e
  same_stop e = ap (λ (ts : List (Live S)). stop_at_reach s e (reach l.has e ts)) a.stated ∙ same_stop_at e (reach l.has e (live l t))

  -- ---- what may come

  same_idle : idle_verdict s ≡ idle_verdict t
  same_idle =
      ap (λ (q : List PlainEvent). if length q == MOST_WAITING then verdict.Queue else verdict.Quiet s.transitions) a.queue
      ∙ ap (λ (n : ℕ). if length t.queue == MOST_WAITING then verdict.Queue else verdict.Quiet n) a.transitions

  same_open : (x : Enabled) → due_open o s x ≡ due_open o t x
  same_open x = ap (λ (n : ℕ). if n == o.steps then Ends (verdict.Steps o.steps) else Goes x) a.transitions

  same_among : (inner : List PlainEvent) (outer : Option ℕ) → due_among o s inner outer ≡ due_among o t inner outer
  same_among [] None = ap (λ (v : Verdict). Idles v) same_idle
  same_among [] (Some i) = same_open (record { inner = []; outer = Some i })
  same_among (e ∷ es) outer = same_open (record { inner = e ∷ es; outer = outer })

  same_asked : (x : Asked Enabled) → due_asked o s x ≡ due_asked o t x
  same_asked (Err f) = ap (λ (v : Verdict). Ends v) (same_fault f)
  same_asked (Ok x) = same_among x.inner x.outer

  same_unless : (x : Asked Enabled) (v : Option Verdict) → due_unless o s x v ≡ due_unless o t x v
  same_unless x (Some v) = refl
  same_unless x None = same_asked x

  pub same_due : due l o s ≡ due l o t
  unfolding due
  same_due =
      ap (λ (ts : List (Live S)). due_unless o s (selectable l.has ts s.queue) s.verdict) a.stated
      ∙ ap (λ (q : List PlainEvent). due_unless o s (selectable l.has (live l t) q) s.verdict) a.queue
      ∙ ap (λ (v : Option Verdict). due_unless o s (selectable l.has (live l t) t.queue) v) a.verdict
      ∙ same_unless (selectable l.has (live l t) t.queue) t.verdict

  same_placed : (x : Enabled) (e : PlainEvent) → place_in x s.queue e ≡ place_in x t.queue e
  same_placed x e = ap (λ (q : List PlainEvent). place_in x q e) a.queue

  pub alike_comes : (e : PlainEvent) (place : Option ℕ) → MayCome l o s e place → MayCome l o t e place
  alike_comes e place c = record {
    enabled = c.enabled;
    goes = sym same_due ∙ c.goes;
    placed = sym (same_placed c.enabled e) ∙ c.placed;
    free = sym (same_stop e) ∙ c.free;
  }

  alike_by : (v : Verdict) (d : Due) → EndsBy l s v d → EndsBy l t v d
  alike_by v (Ends w) h = h
  alike_by v (Idles w) h = h
  alike_by v (Goes x) h = record { event = h.event; place = h.place; placed = sym (same_placed x h.event) ∙ h.placed; stops = sym (same_stop h.event) ∙ h.stops }

  pub alike_ends : (v : Verdict) → IsFreeEnd l o s v → IsFreeEnd l o t v
  alike_ends v h = subst (EndsBy l t v) same_due (alike_by v (due l o s) h)

  pub alike_next : (d : Line) → MayBeNext l o s d → MayBeNext l o t d
  alike_next d (inl n) = inl (record { event = n.event; place = n.place; comes = alike_comes n.event n.place n.comes; line = n.line })
  alike_next d (inr n) = inr (record { verdict = n.verdict; ends = alike_ends n.verdict n.ends; line = n.line })

  -- ---- reasons

  same_blocked : (d : Due) (e : PlainEvent) (x : Asked (Option ℕ)) → blocked_by s d e x ≡ blocked_by t d e x
  same_blocked d e (Ok (Some n)) = ap (λ (name : List ℕ). Blocked e name) (a.names n)
  same_blocked d e (Ok None) = refl
  same_blocked d e (Err f) = refl

  same_event_reason : (d : Due) (e : PlainEvent) → event_reason l s d e ≡ event_reason l t d e
  same_event_reason d e =
      ap (λ (ts : List (Live S)). if requested ts e then blocked_by s d e (blocker l.has ts e) else NotRequested e) a.stated
      ∙ ap (λ (r : Reason). if requested (live l t) e then r else NotRequested e) (same_blocked d e (blocker l.has (live l t) e))

  same_external : (d : Due) (e : PlainEvent) → external_reason s d e ≡ external_reason t d e
  same_external (Ends v) e = refl
  same_external (Idles v) e = refl
  same_external (Goes x) e = ap (λ (q : List PlainEvent). if is_first_queued x.inner x.outer q e then NotHere else NotFirst e) a.queue

  same_internal : (d : Due) (inner outer : Option PlainEvent) → unless_internal l s d inner outer ≡ unless_internal l t d inner outer
  same_internal d (Some e) outer = same_event_reason d e
  same_internal d None (Some e) = same_external d e
  same_internal d None None = refl

  same_rest : (d : Due) (inner outer : Option PlainEvent) → rest_reason l s d inner outer ≡ rest_reason l t d inner outer
  same_rest (Ends v) inner outer = refl
  same_rest (Idles v) inner outer = same_internal (Idles v) inner outer
  same_rest (Goes x) inner outer = same_internal (Goes x) inner outer

  same_line : (ds : List Line) (inner outer : Option PlainEvent) → line_reason l o s ds inner outer ≡ line_reason l o t ds inner outer
  same_line (d ∷ ds) inner outer = refl
  same_line [] inner outer = ap (λ (d : Due). rest_reason l s d inner outer) same_due ∙ same_rest (due l o t) inner outer

  pub same_reason : (ds : List Line) (front : Front) → reason_of l o s ds front ≡ reason_of l o t ds front
  same_reason ds partial = refl
  same_reason ds nothing = refl
  same_reason ds excess = same_line ds None None
  same_reason ds (whole line rest) = same_line ds (internal_in line) (external_in line)
