-- Rounds of a session, and where they stop.
use Rattle.std.proofs.Common.{◌≡◌, inl, inr, ℕ, Bool, true, false, List, take, drop, ap, sym, subst, ◌∙◌, take-append-drop, Option, Some}
use Rattle.std.specs.Prelude.{Result, Ok, Err, OnOk, IfErr, IsErrAnd, length, nat_lt, option_map}
use Rattle.std.proofs.lemmas.List.{append_cancel_left}
use Rattle.bp_log.specs.declared.record.Record.{Record}
use Rattle.bp_log.specs.declared.trace.Line.{Line}
use Rattle.bp_run.specs.Text.{text}
use Rattle.bp_steps.specs.Merging.{items_by}
use Rattle.bp_steps.specs.Steps.{pair_at}
use Rattle.bp_floor.specs.declared.phase.Phase.{Phase}
use Rattle.bp_floor.specs.declared.phase.Phase.TheVariants.{Rest, Over}
use Rattle.bp_floor.specs.Floors.{is_idle}
use Rattle.bp_arbiter.specs.Arbiters.{stand_in}
use Rattle.bp_arbiter.proofs.Told.{pair_lines}
use Rattle.bp_core.specs.declared.stepping.Core.{Core}
use Rattle.bp_core.specs.Cores.{KeepsProgram}
use Rattle.bp_told.specs.Told.{Given, Waiting, IsTold, WritesAll}
use Rattle.bp_told.specs.declared.fault.RunFault.{RunFault}
use Rattle.bp_told.specs.declared.fault.RunFault.TheVariants.{Memory}
use Rattle.bp_turns.specs.Settled.{IsSettled, IsSomewhereHere}
use Rattle.bp_session.specs.declared.reading.Reading.{Reading}
use Rattle.bp_session.specs.declared.stop.Stop.{Stop}
use Rattle.bp_session.specs.declared.stop.Stop.TheVariants as stop
use Rattle.bp_session.specs.inner.Hearing.{AreHeard, HearsOn, StopsHearing}
use Rattle.bp_session.specs.inner.Serving.{IsReady, TellsAll, WritesRun, ServesOn, BreaksServing, StillTold, IsToldStill, StopsTurning, StopsServing, LeadsOn, CutsAt, KeepsItems, NothingUntold, StaysThere}
use Rattle.bp_session.proofs.Served.{serving_on, cut_off, stop_here, some_text, here_tells, ready_somewhere, ready_on}
use Rattle.bp_session.proofs.Hears.{heard_kept, no_longer}
use Rattle.bp_session.proofs.Tells.{write_still}
use Rattle.bp_session.proofs.Ends.{all_written}

-- what a `?` hands on
pub from_err : {T E : Type 0} (r : Result T E) (s : E) (P : E → Type 0) → IsErrAnd r (λ e. e ≡ s) → P s → IfErr r P
from_err (Ok x) s P h q = absurd h
from_err (Err e) s P h q = subst P (sym h) q

pub on_ok : {T E : Type 0} (r : Result T E) (A : Type 0) → A → OnOk r A
on_ok (Ok x) A h = h
on_ok (Err e) A h = tt

pub on_err : {T E : Type 0} (r : Result T E) (A B : E → Type 0) → ((e : E) → A e → B e) → IfErr r A → IfErr r B
on_err (Ok x) A B f h = tt
on_err (Err e) A B f h = f e h

pub verdict_told : {A V : Type 0} (f : A → V) (o : Option A) (x : A) (v : V) (r : Option V) → o ≡ Some x → option_map f o ≡ r → v ≡ f x → r ≡ Some v
verdict_told f o x v r e h q = sym h ∙ ap (λ (y : Option _). option_map f y) e ∙ ap Some (sym q)

-- what is settled and not over rests
pub rest_of : (f : Phase) → IsSettled f → ¬ (f ≡ Over) → f ≡ Rest
rest_of f (inl e) n = e
rest_of f (inr e) n = absurd (n e)

-- and is idle
pub idle_of : (f : Phase) → IsSettled f → is_idle f ≡ true
idle_of f (inl e) = ap is_idle e
idle_of f (inr e) = ap is_idle e

-- ---- one step after the other

module _ {L : Type 0} {written : L → Option (List ℕ)} where
  -- memory does not run out where a run is served
  pub whole_ready : {c : Core} {now : Given L} {w : Waiting} → IsReady written c now w → c.broken ≡ false
  whole_ready r = (((r.serving).here).at).whole

  pub serves_both : {a b d : Core} {x y z : Given L} {u v w : Waiting} → ServesOn written a x u b y v → ServesOn written b y v d z w → ServesOn written a x u d z w
  serves_both f g l o head first s = g l o head first (f l o head first s)

  pub tells_then : {a b d : Core} {x y z : Given L} {u v w : Waiting} → ServesOn written a x u b y v → TellsAll written b y v d z w → TellsAll written a x u d z w
  tells_then f g l o head first s = g l o head first (f l o head first s)

  pub breaks_then : {a b d : Core} {x y z : Given L} {u v w : Waiting} {fault : RunFault} → ServesOn written a x u b y v → BreaksServing written b y v d z w fault → BreaksServing written a x u d z w fault
  breaks_then f g l o head first s = g l o head first (f l o head first s)

module _ {L : Type 0} (written : L → Option (List ℕ)) where
  -- the core was led on, and nothing was told
  pub lead_serves : (a b : Core) (now : Given L) (w : Waiting) → KeepsProgram a.arbiter b.arbiter → LeadsOn a b → ServesOn written a now w b now w
  lead_serves a b now w p h l o head first s =
      let y = h s.taken s.moment s.here in
      serving_on written l o head first now w a b y.more p y.records (λ taken n x. let z = h taken n x in (z.moment, z.here)) s

  pub hear_serves : (a b : Core) (now : Given L) (w : Waiting) → HearsOn a b → ServesOn written a now w b now w
  hear_serves a b now w h = lead_serves a b now w h.kept h.leads

  -- injectors were heard, and then what comes next came
  pub picked_serves : (a b d : Core) (now : Given L) (w : Waiting) → HearsOn a b → KeepsProgram b.arbiter d.arbiter → LeadsOn b d → ServesOn written a now w d now w
  picked_serves a b d now w h p k = serves_both (hear_serves a b now w h) (lead_serves b d now w p k)

  -- what was told is told still
  pub still_serves : (c : Core) (old new : Given L) (w v : Waiting) → StillTold written old w new v → ServesOn written c old w c new v
  still_serves c old new w v t l o head first s =
      let rs = c.arbiter.records in
      let told = t (text l o) head first (take w.kept rs) s.taken s.told in
      let same : w.kept ≡ v.kept = (s.told).kept ∙ sym told.kept in
      record {
        code = s.code;
        options = s.options;
        taken = s.taken;
        moment = s.moment;
        here = s.here;
        told = subst (λ (k : ℕ). IsTold L written (text l o) head first new v (take k rs) s.taken) same told;
      }

  -- and it was served before
  pub serves_still : (a c : Core) (x old new : Given L) (u w v : Waiting) → ServesOn written a x u c old w → StillTold written old w new v → ServesOn written a x u c new v
  serves_still a c x old new u w v f t = serves_both f (still_serves c old new w v t)

  -- all was told before, and then written
  pub writes_run : (a c : Core) (x old new : Given L) (u w v : Waiting) → TellsAll written a x u c old w → WritesAll written old w new v → WritesRun written a x u c new
  writes_run a c x old new u w v f t l o head first s = all_written written l o head first c old new w v t (f l o head first s)

  pub still_none : (a : Given L) (w : Waiting) → StillTold written a w a w
  still_none a w text head first records lines t = t

  -- nothing was to be written
  pub told_none : (a : Given L) (w : Waiting) (write : Bool) → write ≡ false → IsToldStill written write a w a w
  told_none a w write e = record { still = still_none a w; all = λ yes. let no : false ≡ true = sym e ∙ yes in absurd (let z : ⊥ = cc in z) }

  -- all was written
  pub told_all : (old new : Given L) (w v : Waiting) (write : Bool) → WritesAll written old w new v → IsToldStill written write old w new v
  told_all old new w v write h = record { still = write_still written old new w v h; all = λ yes. h }

  pub serves_none : (a : Core) (x : Given L) (u : Waiting) → ServesOn written a x u a x u
  serves_none a x u l o head first s = s

  -- memory ran out as what comes next came
  pub pick_breaks : (a b : Core) (now : Given L) (w : Waiting) (fault : RunFault) → KeepsProgram a.arbiter b.arbiter → CutsAt a b → BreaksServing written a now w b now w fault
  pick_breaks a b now w fault p t l o head first s =
      let y = t s.taken s.moment s.here in
      cut_off written l o head first now w a b y.more fault p y.records (λ taken n h. (t taken n h).tells) s

  pub here_breaks : (c : Core) (now : Given L) (w : Waiting) (fault : RunFault) → BreaksServing written c now w c now w fault
  here_breaks c now w fault l o head first s = stop_here written l o head first now w c fault s

  module _ {S : Type 0} (readings : List (Reading S)) where
    pub stops_then : (a b d : Core) (x y z : Given L) (u v w : Waiting) (s : Stop) → ServesOn written a x u b y v → StopsServing written b y v d z w readings s → StopsServing written a x u d z w readings s
    stops_then a b d x y z u v w s f g l o head first h = g l o head first (f l o head first h)

    -- memory ran out, and nothing was done
    pub memory_stops : (c : Core) (now : Given L) (w : Waiting) (s : Stop) → s ≡ stop.Broken Memory → StopsServing written c now w c now w readings s
    memory_stops c now w s e = subst (λ (t : Stop). StopsServing written c now w c now w readings t) (sym e) (here_breaks c now w Memory)

    -- an injector failed, or memory ran out as it was heard
    pub hear_stops : (a b : Core) (now : Given L) (w : Waiting) (s : Stop) → HearsOn a b → b.arbiter.phase ≡ Rest → StopsHearing readings s → StopsServing written a now w b now w readings s
    hear_stops a b now w (stop.Read j) h r f l o head first s = (hear_serves a b now w h l o head first s, f, r)
    hear_stops a b now w (stop.Broken e) h r f l o head first s = here_breaks b now w e l o head first (hear_serves a b now w h l o head first s)
    hear_stops a b now w (stop.Unwritten e) h r f l o head first s = absurd f

    -- an own turn or a wait stopped
    turn_stops : (c : Core) (old new : Given L) (w v : Waiting) (s : Stop) → StopsTurning written old w new v s → StopsServing written c old w c new v readings s
    turn_stops c old new w v (stop.Read j) f l o head first s = absurd f
    turn_stops c old new w v (stop.Broken e) f l o head first s = here_breaks c new v e l o head first (still_serves c old new w v f.1 l o head first s)
    turn_stops c old new w v (stop.Unwritten e) f l o head first s =
        let rs = c.arbiter.records in (
          f.0,
          record {
            story = some_text l o c.arbiter s.taken s.code s.options (here_tells c s.taken s.moment s.here);
            front = take w.kept rs;
            later = drop w.kept rs;
            lines = s.taken;
            is_front = take-append-drop w.kept rs;
            part = f.1 (text l o) head first (take w.kept rs) s.taken s.told;
          },
        )

    -- and it was served before
    pub turn_stops_then : (a c : Core) (x old new : Given L) (u w v : Waiting) (s : Stop) → ServesOn written a x u c old w → StopsTurning written old w new v s → StopsServing written a x u c new v readings s
    turn_stops_then a c x old new u w v s f t = stops_then a c c x old new u w v s f (turn_stops c old new w v s t)

-- ---- who is heard

-- injectors were heard, and the core is at some moment
pub heard_somewhere : {L : Type 0} {written : L → Option (List ℕ)} {a b : Core} {now : Given L} {w : Waiting} → IsReady written a now w → HearsOn a b → IsSomewhereHere b
heard_somewhere {written = written} {a = a} {b = b} {now = now} {w = w} r h = ready_somewhere written b now w (ready_on (hear_serves written a b now w h) r)

-- what comes next records nothing of injectors
pub picked_heard : {L S : Type 0} {written : L → Option (List ℕ)} {a b : Core} {now : Given L} {w : Waiting} (d : Core) (readings : List (Reading S)) → IsReady written a now w → HearsOn a b →
    (IsSomewhereHere b → KeepsItems b.arbiter.records d.arbiter.records) → AreHeard (λ (r : Reading S). r.hearing) b.arbiter.records readings → AreHeard (λ (r : Reading S). r.hearing) d.arbiter.records readings
picked_heard {b = b} d readings r h k = heard_kept b.arbiter.records d.arbiter.records readings (k (heard_somewhere r h))

-- ---- where nothing entered

-- injectors were heard, nothing entered, and so nothing was recorded
pub none_heard : {a b : Core} {heard : Bool} → HearsOn a b → heard ≡ nat_lt (length a.arbiter.records) (length b.arbiter.records) → heard ≡ false → b.arbiter.records ≡ a.arbiter.records
none_heard {a = a} {b = b} h some none = no_longer a b h (sym some ∙ none)

-- nothing entered, and what comes next records nothing of injectors
pub items_stay : {L : Type 0} {written : L → Option (List ℕ)} {a b : Core} {now : Given L} {w : Waiting} {heard : Bool} (d : Core) → IsReady written a now w → HearsOn a b →
    heard ≡ nat_lt (length a.arbiter.records) (length b.arbiter.records) → (IsSomewhereHere b → KeepsItems b.arbiter.records d.arbiter.records) → heard ≡ false → KeepsItems a.arbiter.records d.arbiter.records
items_stay d r h some kept none k = kept (heard_somewhere r h) k ∙ ap (λ (rs : List Record). items_by k rs) (none_heard h some none)

pub somewhere_ready : {L : Type 0} {written : L → Option (List ℕ)} {c : Core} {now : Given L} {w : Waiting} → IsReady written c now w → IsSomewhereHere c
somewhere_ready {written = written} {c = c} {now = now} {w = w} r = ready_somewhere written c now w r

-- ---- what is untold

-- a core that is where it was has as many records as it had, and the same lines to take
untold_there : (a b : Core) (w : Waiting) → StaysThere a b → IsSomewhereHere a → NothingUntold a w → NothingUntold b w
untold_there a b w s h n =
    let at = ((h.here).at).at in
    let then = ((s h.taken h.moment h.here).at).at in
    let same : b.arbiter.records ≡ a.arbiter.records = then.records ∙ sym at.records in
    let before = pair_lines a.arbiter.floor a.jobs.items h.taken (pair_at h.moment) (at.stands).floor in
    let after = pair_lines b.arbiter.floor b.jobs.items h.taken (pair_at h.moment) (then.stands).floor in
    record {
      records = n.records ∙ ap (λ (rs : List Record). length rs) (sym same);
      lines = ap (λ (ls : List Line). length ls) (append_cancel_left h.taken (stand_in b.arbiter).lines (stand_in a.arbiter).lines (sym after ∙ before)) ∙ n.lines;
    }

pub untold_kept : (c : Core) (w v : Waiting) → v.kept ≡ w.kept → NothingUntold c w → NothingUntold c v
untold_kept c w v e n = record { records = e ∙ n.records; lines = n.lines }

-- nothing entered, and a run that waits is where it was
pub untold_waits : {L : Type 0} {written : L → Option (List ℕ)} {a b d : Core} {now : Given L} {w : Waiting} {heard : Bool} → IsReady written a now w → HearsOn a b
    → heard ≡ nat_lt (length a.arbiter.records) (length b.arbiter.records) → heard ≡ false → StaysThere b d → NothingUntold a w → NothingUntold d w
untold_waits {written = written} {a = a} {b = b} {d = d} {now = now} {w = w} r h some none s n =
    let still = h.still (none_heard h some none) in
    untold_there b d w s (heard_somewhere r h) (untold_there a b w still (somewhere_ready r) n)
