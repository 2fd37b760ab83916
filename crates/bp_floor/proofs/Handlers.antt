-- The handler of a b-thread at its point.
use Rattle.std.proofs.Common.{◌≡◌, ℕ, List, [], ◌∷◌, ◌++◌, append_assoc, append-nil, map, refl, sym, ap, ◌∙◌, subst, Option, Some, None, true, Result, option_map, slice_get, IfOk, is_some}
use Rattle.std.proofs.lemmas.Option.{same_Some}
use Rattle.std.proofs.lemmas.Result.{IfOk-weaker}
use Rattle.js_data.specs.Event.{PlainEvent}
use Rattle.js_value.specs.Value as value
use Rattle.js_value.specs.Value.{PlainValue}
use Rattle.js_meaning.specs.Bodies.{Origin, function}
use Rattle.js_program.specs.declared.builtin.Mode.TheVariants as mode
use Rattle.bp_code.specs.Code.{ground_for, sealed_code_of as code_of}
use Rattle.bp_run.specs.Configuration.{Thread, Stand}
use Rattle.bp_run.specs.Settling.{Body, Entry}
use Rattle.bp_run.specs.Choosing.{Touched}
use Rattle.bp_run.specs.Story.{handler_body, entry_of}
use Rattle.bp_meaning.specs.After.{handler}
use Rattle.bp_thread.specs.declared.job.Job.{Job}
use Rattle.bp_thread.specs.Jobs.{plain_job, is_stopped}
use Rattle.bp_floor.specs.declared.entry.Handler.{Handler}
use Rattle.bp_floor.specs.inner.Entries.{handler_seen}
use Rattle.bp_floor.specs.inner.Seats.{PlainSeat, seated, origin_in, replies_in, IsOwn, IsOwnIn, AreOwn}
use Rattle.bp_floor.specs.inner.SeatViews.{job_at}
use Rattle.bp_floor.specs.inner.Kept.{Running}
use Rattle.bp_floor.specs.inner.Reached.{IsStanding, AreStanding, HasHandler, handler_at}
use Rattle.bp_floor.proofs.Lists.{get_map}
use Rattle.bp_floor.proofs.Places.{own_at0}
use Rattle.bp_floor.proofs.ReachedLemmas.{stopped_some}

mapped_twice : (e : PlainEvent) (o : Option PlainValue) →
    option_map (handler_at e) o ≡ option_map (λ (x : Origin). let b : Body Origin = record { origin = x; replies = [] } in b) (option_map (λ (f : PlainValue). function mode.Handler f (value.event e ∷ [])) o)
mapped_twice e None = refl
mapped_twice e (Some f) = refl

-- the handler of a job at its point
own_handler : (r : Running) (n : ℕ) (j : Job) (e : PlainEvent) (t : Thread Origin) → IsOwn r.program r.options n j → is_stopped (plain_job j).outcome ≡ true → HasHandler j → t.origin ≡ (plain_job j).origin → t.replies ≡ (plain_job j).replies →
    option_map (handler_at e) (plain_job j).handler ≡ handler_body (code_of r.program r.options) e (Some t)
unfolding code_of
own_handler r n j e t o s h p q =
    let some = stopped_some (plain_job j).outcome s in
    let base = ground_for r.program r.options.budget (plain_job j).origin in
    let same = h base r.options.budget (o.stands some.1 some.2) (ap is_some some.2) in
    ap (λ (x : Option PlainValue). option_map (handler_at e) x) same
    ∙ mapped_twice e (handler base r.options.budget (plain_job j).origin (plain_job j).replies)
    ∙ rw (p, q) refl

-- the handler of a b-thread that stands
pub handled : {E : Type 0} (res : Result (Option Handler) E) (ss : List PlainSeat) (i : ℕ) (e : PlainEvent) (j : Job) (k : IsStanding (slice_get ss i)) → Some j ≡ job_at (slice_get ss i) → HasHandler j →
    IfOk res (λ h. option_map handler_seen h ≡ option_map (handler_at e) (plain_job j).handler) →
    IfOk res (λ h. (r : Running) → AreOwn r.program r.options 0 ss → option_map handler_seen h ≡ handler_body (code_of r.program r.options) e (slice_get (map seated ss) i))
handled res ss i e j k g h a =
    let same : Some j ≡ Some k.job = g ∙ ap (λ (x : Option PlainSeat). job_at x) k.is_seat ∙ k.is_job in
    let eq : j ≡ k.job = same_Some j k.job same in
    let there : slice_get (map seated ss) i ≡ Some (seated k.seat) = get_map seated ss i k.seat k.is_seat in
    IfOk-weaker res (λ x. option_map handler_seen x ≡ option_map (handler_at e) (plain_job j).handler) _
    (λ x w r own.
    let mine : IsOwn r.program r.options i j = subst (λ (y : Job). IsOwn r.program r.options i y) (sym eq) (subst (λ (y : Option Job). IsOwnIn r.program r.options i y) k.is_job (own_at0 r.program r.options i ss k.seat own k.is_seat)) in
    let stopped : is_stopped (plain_job j).outcome ≡ true = ap (λ (y : Job). is_stopped (plain_job y).outcome) eq ∙ k.stopped in
    let job : k.seat.job ≡ Some j = k.is_job ∙ sym (ap (λ (y : Job). Some y) eq) in
    w ∙ own_handler r i j e (seated k.seat) mine stopped h (ap (λ (y : Option Job). origin_in y) job) (ap (λ (y : Option Job). replies_in y) job)
    ∙ ap (λ (y : Option (Thread Origin)). handler_body (code_of r.program r.options) e y) (sym there)) a

-- ---- what runs after an event

-- Where entering stands: these are left.
pub record Entering (e : PlainEvent) (all left : List Touched) (ss : List PlainSeat) (wave : List (Entry Origin)) : Type 0 where
  pub standing : AreStanding left ss
  pub entered : (r : Running) (s : Stand Origin) → AreOwn r.program r.options 0 ss → s.threads ≡ map seated ss →
      wave ++ map (entry_of (code_of r.program r.options) s e) left ≡ map (entry_of (code_of r.program r.options) s e) all

pub entering_next : (e : PlainEvent) (all left : List Touched) (ss : List PlainSeat) (wave more : List (Entry Origin)) (x : Touched) (rest : List Touched) (n : Entry Origin) → Entering e all left ss wave → left ≡ x ∷ rest →
    ((r : Running) (s : Stand Origin) → AreOwn r.program r.options 0 ss → s.threads ≡ map seated ss → n ≡ entry_of (code_of r.program r.options) s e x) → more ≡ wave ++ n ∷ [] → Entering e all rest ss more
entering_next e all left ss wave more x rest n h k f m =
    let s = subst (λ (xs : List Touched). AreStanding xs ss) k h.standing in
    record {
      standing = s.1;
      entered = λ r s own t.
          let g : Touched → Entry Origin = entry_of (code_of r.program r.options) s e in
          ap (λ (ns : List (Entry Origin)). ns ++ map g rest) m ∙ append_assoc wave (n ∷ []) (map g rest) ∙ ap (λ (y : Entry Origin). wave ++ y ∷ map g rest) (f r s own t)
          ∙ ap (λ (xs : List Touched). wave ++ map g xs) (sym k) ∙ h.entered r s own t;
    }

pub entering_end : (e : PlainEvent) (all left : List Touched) (ss : List PlainSeat) (wave : List (Entry Origin)) → Entering e all left ss wave → left ≡ [] → (r : Running) (s : Stand Origin) → AreOwn r.program r.options 0 ss → s.threads ≡ map seated ss →
    wave ≡ map (entry_of (code_of r.program r.options) s e) all
entering_end e all left ss wave h k r s own t =
    let g : Touched → Entry Origin = entry_of (code_of r.program r.options) s e in
    sym (append-nil wave) ∙ ap (λ (xs : List Touched). wave ++ map g xs) (sym k) ∙ h.entered r s own t
