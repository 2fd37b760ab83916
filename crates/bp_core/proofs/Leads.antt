-- Where the calls of an arbiter lead, by the steps of a core.
use Rattle.std.proofs.Common.{◌≡◌, ℕ, Bool, true, false, ◌&&◌, List, [], ◌∷◌, ◌++◌, length, refl, sym, ap, ◌∙◌, subst, Option, Some, None, is_none, append-nil, option_to_list, if◌then◌else◌, nat_eq}
use Rattle.std.specs.Prelude.{option_and_then, option_map, Result, Ok, Err, OnOk}
use Rattle.std.specs.List.{list_any}
use Rattle.js_data.specs.Event.{PlainEvent}
use Rattle.js_value.specs.Value.{PlainSet}
use Rattle.js_meaning.specs.State.{Ground}
use Rattle.js_meaning.specs.Bodies.{Origin}
use Rattle.bp_log.specs.Options.{PlainOptions}
use Rattle.bp_log.specs.Records.{is_complete}
use Rattle.bp_log.specs.declared.item.Item.{Item}
use Rattle.bp_log.specs.declared.item.Item.TheVariants as item
use Rattle.bp_log.specs.declared.record.Record.{Record}
use Rattle.bp_log.specs.declared.record.Record.TheVariants.{In, Bad, Eof}
use Rattle.bp_log.specs.declared.trace.Line.{Line}
use Rattle.bp_log.specs.declared.verdict.Verdict.{Verdict}
use Rattle.bp_run.specs.Bodies.{Code}
use Rattle.bp_run.specs.Configuration.{Configuration, Stand}
use Rattle.bp_run.specs.Settling.{Body, Entry, Pair, at_rest, initial, queued}
use Rattle.bp_run.specs.Choosing.{Choice, Touched}
use Rattle.bp_run.specs.Story.{Next, story, story_from, record_of, after_next, after_record, step, stepped, may_come, has_room, read_out, first_bad}
use Rattle.bp_run.specs.Story.Next.{Ends, Selects, Waits}
use Rattle.bp_run.proofs.Turns.{settle-rest, settle_over}
use Rattle.bp_steps.specs.declared.step.CoreStep.TheVariants.{Absorb, Pick}
use Rattle.bp_steps.specs.Merging.{record_by}
use Rattle.bp_steps.specs.Steps.{Moment, pair_at, ends_at, lent_bodies, lends, fresh, settled, is_resting, picked, absorbed, after_step, opened as steps_opened}
use Rattle.bp_thread.specs.declared.job.Job.{Job}
use Rattle.bp_floor.specs.declared.phase.Phase.{Phase}
use Rattle.bp_floor.specs.declared.phase.Phase.TheVariants.{Ready, Lent, Rest, Over}
use Rattle.bp_floor.specs.Floors.{phase_at, phase_of}
use Rattle.js_program.specs.PlainProgram.{PlainProgram}
use Rattle.bp_code.specs.Code.{sealed_code_of as code_of}
use Rattle.bp_arbiter.specs.Arbiters.{opened, PlainArbiter, StandsFor, Recounts, code_in, options_in, stand_in, coming}
use Rattle.bp_arbiter.specs.Absorb as arbiters
use Rattle.bp_arbiter.specs.Absorb.{is_failed, fits, with_item}
use Rattle.bp_arbiter.specs.Pick.{picked_of, after_pick, phase_after, moved_phase}
use Rattle.bp_core.specs.Cores.{KeepsProgram}
use Rattle.bp_core.specs.Moments.{is_ready, AreBegun, IsReadyAt, IsAt, lent_at_once, step_on}
use Rattle.bp_arbiter.proofs.AbsorbLemmas.{one_more, comes_at, event_comes, bad_comes, end_comes}
use Rattle.bp_arbiter.proofs.PickLemmas.{on}
use Rattle.bp_arbiter.proofs.Told.{same_code, same_story, same_told, stands_opened}

-- ---- phases

rest_parts : (v : Option Verdict) (ns : List (Entry Origin)) → lent_at_once (phase_at v ns) ≡ Rest → (v ≡ None) × (ns ≡ [])
rest_parts None [] h = (refl, refl)
rest_parts None (n ∷ ns) h = absurd (cc)
rest_parts (Some v) ns h = absurd (cc)

pub lent_parts : (v : Option Verdict) (ns : List (Entry Origin)) → lent_at_once (phase_at v ns) ≡ Lent → (elim v [ None ↦ elim ns [ [] ↦ true | n ∷ more ↦ false ] | Some w ↦ true ]) ≡ false
lent_parts None [] h = absurd (cc)
lent_parts None (n ∷ ns) h = refl
lent_parts (Some v) ns h = absurd (cc)

idle_parts : (v : Option Verdict) (ns : List (Entry Origin)) → (phase_at v ns ≡ Ready → ⊥) → (elim v [ None ↦ elim ns [ [] ↦ true | n ∷ more ↦ false ] | Some w ↦ true ]) ≡ true
idle_parts None [] h = refl
idle_parts None (n ∷ ns) h = absurd (h refl)
idle_parts (Some v) ns h = refl

not_lent_at : (v : Option Verdict) (ns : List (Entry Origin)) → phase_at v ns ≡ Lent → ⊥
not_lent_at None [] h = cc
not_lent_at None (n ∷ ns) h = cc
not_lent_at (Some v) ns h = cc

same_at_once : (v : Option Verdict) (ns : List (Entry Origin)) → (phase_at v ns ≡ Ready → ⊥) → phase_at v ns ≡ lent_at_once (phase_at v ns)
same_at_once None [] h = refl
same_at_once None (n ∷ ns) h = absurd (h refl)
same_at_once (Some v) ns h = refl

rests_with : (v : Option Verdict) (ns : List (Entry Origin)) → v ≡ None → ns ≡ [] → (elim v [ None ↦ elim ns [ [] ↦ true | n ∷ more ↦ false ] | Some w ↦ true ]) ≡ true
rests_with None [] h k = refl
rests_with None (n ∷ ns) h k = absurd (cc)
rests_with (Some v) ns h k = refl

moved_at : (v : Option Verdict) (ns : List (Entry Origin)) → v ≡ None → moved_phase ns ≡ phase_at v ns
moved_at None [] h = refl
moved_at None (n ∷ ns) h = refl
moved_at (Some v) ns h = absurd (cc)

pub ready_is : (f : Phase) → is_ready f ≡ true → f ≡ Ready
ready_is Ready h = refl
ready_is Lent h = absurd (cc)
ready_is Rest h = absurd (cc)
ready_is Over h = absurd (cc)

pub ready_not : (f : Phase) → is_ready f ≡ false → f ≡ Ready → ⊥
ready_not f h e = let z : true ≡ false = sym (ap is_ready e) ∙ h in cc

pub on_ok3 : {T E : Type 0} (r : Result T E) (A B C P : Type 0) → (A → B → C → P) → OnOk r A → OnOk r B → OnOk r C → OnOk r P
on_ok3 (Ok x) A B C P f a b c = f a b c
on_ok3 (Err x) A B C P f a b c = tt

none_begun : (base : Ground) (budget : ℕ) (js : List Job) (ns : List (Option ℕ)) → AreBegun base budget [] js ns → (js ≡ []) × (ns ≡ [])
none_begun base budget [] [] h = (refl, refl)
none_begun base budget [] (n ∷ ns) h = absurd h
none_begun base budget (j ∷ js) ns h = absurd h

-- ---- an arbiter that lends nothing

-- where nothing is to be lent
pub unlent_at : (b : PlainArbiter) (taken : List Line) (m : Moment Origin) → IsReadyAt b taken m → (b.phase ≡ Ready → ⊥) → IsAt b [] taken m
unlent_at b taken m h f =
    let p = pair_at m in
    let rest : at_rest p ≡ true = idle_parts p.stand.verdict p.entries (λ e. f (h.phase ∙ e)) in
    let none : lent_bodies (code_in b) p ≡ [] = ap (λ (x : Bool). if x then [] else Rattle.bp_steps.specs.Steps.bodies (code_in b) p) rest in
    record {
      stands = h.stands;
      records = h.records;
      told = h.told;
      phase = h.phase ∙ same_at_once p.stand.verdict p.entries (λ e. f (h.phase ∙ e));
      lent = subst (λ (ns : List (Option ℕ)). AreBegun b.floor.base (options_in b).budget (lent_bodies (code_in b) p) [] ns) (sym h.lent)
          (subst (λ (bs : List (Body Origin)). AreBegun b.floor.base (options_in b).budget bs [] (fresh bs)) (sym none) tt);
      out = λ e. absurd (not_lent_at p.stand.verdict p.entries (sym h.phase ∙ e));
    }

-- the same program and options have the same code
pub ready_from : (a b : PlainArbiter) (taken : List Line) (n : Moment Origin) → b.floor.base.program ≡ a.floor.base.program → options_in b ≡ options_in a → StandsFor b [] taken (pair_at n) → b.records ≡ n.records →
    Recounts b (settled (code_in a) n) → b.phase ≡ phase_of (pair_at n) → n.lent ≡ lends (code_in a) (pair_at n) → IsReadyAt b taken n
ready_from a b taken n program options s rs t f e =
    let code : code_in b ≡ code_in a = same_code a.floor.base.program b.floor.base.program (options_in a) (options_in b) program options in
    record {
      stands = s;
      records = rs;
      told = subst (λ (l : Code Origin PlainSet). Recounts b (settled l n)) (sym code) t;
      phase = f;
      lent = e ∙ ap (λ (l : Code Origin PlainSet). lends l (pair_at n)) (sym code);
    }

-- the program of an arbiter that is known to be another
pub kept_from : (a b new : PlainArbiter) → a ≡ b → KeepsProgram a new → KeepsProgram b new
kept_from a b new e k = subst (λ (x : PlainArbiter). KeepsProgram x new) e k

-- before anything has run
pub ready_opened : (program : PlainProgram) (o : PlainOptions) → IsReadyAt (opened program o) [] (steps_opened (code_of program o) o)
unfolding story story_from initial
ready_opened program o = record { stands = stands_opened program o; records = refl; told = refl; phase = refl; lent = refl }

module _ (a : PlainArbiter) (jobs : List Job) (taken : List Line) (m : Moment Origin) (h : IsAt a jobs taken m) where
  abbrev l : Code Origin PlainSet
  l = code_in a

  -- what the arbiter knows of injectors
  pub reading_is : m.told.reading ≡ a.reading
  reading_is = ap (λ (c : Configuration Origin). c.reading) (same_told a (settled l m) (h.stands).told h.told (h.stands).story) ∙ (h.stands).reading

  pub queue_is : m.told.stand.queue ≡ (stand_in a).queue
  queue_is = ap (λ (q : Pair Origin). q.stand.queue) (h.stands).floor

  pub count_is : length m.told.stand.threads ≡ length (stand_in a).threads
  count_is = Rattle.bp_arbiter.proofs.SealLemmas.as_many a.floor jobs taken (pair_at m) (h.stands).floor

  -- ---- at rest

  module _ (f : a.phase ≡ Rest) where
    no_verdict : m.told.stand.verdict ≡ None
    no_verdict = (rest_parts m.told.stand.verdict m.entries (sym h.phase ∙ f)).0

    no_entries : m.entries ≡ []
    no_entries = (rest_parts m.told.stand.verdict m.entries (sym h.phase ∙ f)).1

    pub rests : at_rest (pair_at m) ≡ true
    rests = rests_with m.told.stand.verdict m.entries no_verdict no_entries

    pub is_at_rest : is_resting m ≡ true
    is_at_rest = ap (λ (b : Bool). b && is_none m.told.stand.verdict) rests ∙ ap (λ (v : Option Verdict). is_none v) no_verdict

    pub nothing_lent : (jobs ≡ []) × (m.lent ≡ [])
    nothing_lent =
        none_begun a.floor.base (options_in a).budget jobs m.lent
        (subst (λ (bs : List (Body Origin)). AreBegun a.floor.base (options_in a).budget bs jobs m.lent) (ap (λ (x : Bool). if x then [] else Rattle.bp_steps.specs.Steps.bodies l (pair_at m)) rests) h.lent)

    pub alone : StandsFor a [] taken (pair_at m)
    alone = subst (λ (js : List Job). StandsFor a js taken (pair_at m)) nothing_lent.0 h.stands

    settled_is : settled l m ≡ m.told
    settled_is = ap (λ (s : Stand Origin). record m.told { stand = s }) (settle-rest l (pair_at m) rests)

    pub told_is : Recounts a m.told
    told_is = subst (Recounts a) settled_is h.told

    -- ---- a pick

    pub pick_leads : step_on a m Pick ≡ Some (picked l m (coming a m.told))
    unfolding after_step
    pick_leads = ap (λ (b : Bool). if b then Some (picked l m (coming a m.told)) else None) is_at_rest

    pair_picked : (x : Next) → after_pick l (pair_at m) x ≡ pair_at (picked l m x)
    pair_picked (Ends v) = refl
    pair_picked (Selects ch reached) = refl
    pair_picked Waits = refl

    records_picked : (x : Next) → m.records ++ option_to_list (record_of x) ≡ (picked l m x).records
    records_picked (Ends v) = refl
    records_picked (Selects ch reached) = refl
    records_picked Waits = append-nil m.records

    told_picked : (x : Next) → after_next l m.told x ≡ settled l (picked l m x)
    told_picked (Ends v) = ap (λ (s : Stand Origin). record m.told { stand = s }) (sym (settle_over l (pair_at (ends_at m v)) refl))
    told_picked (Selects ch reached) = refl
    told_picked Waits = sym settled_is

    lent_picked : (x : Next) → (picked l m x).lent ≡ lends l (pair_at (picked l m x))
    lent_picked (Ends v) = refl
    lent_picked (Selects ch reached) = refl
    lent_picked Waits = nothing_lent.1 ∙ sym (ap (λ (x : Bool). fresh (if x then [] else Rattle.bp_steps.specs.Steps.bodies l (pair_at m))) rests)

    stepped_verdict : (ch : Choice) (reached : List Touched) → (stepped l m.told.stand ch.event ch.place reached).stand.verdict ≡ None
    unfolding step
    stepped_verdict ch reached = no_verdict

    phase_picked : (x : Next) (ns : List (Entry Origin)) → ns ≡ (pair_at (picked l m x)).entries → phase_after (picked_of x) ns ≡ phase_of (pair_at (picked l m x))
    phase_picked (Ends v) ns e = refl
    phase_picked (Selects ch reached) ns e =
        let q = stepped l m.told.stand ch.event ch.place reached in
        ap moved_phase e ∙ moved_at q.stand.verdict q.entries (stepped_verdict ch reached)
    phase_picked Waits ns e = sym (ap (λ (v : Option Verdict). phase_at v m.entries) no_verdict ∙ ap (λ (es : List (Entry Origin)). phase_at None es) no_entries)

    pub ready_picked : (b : PlainArbiter) (x : Next) → coming a m.told ≡ x → is_complete a.records ≡ false → b.floor.base.program ≡ a.floor.base.program → options_in b ≡ options_in a →
        b.records ≡ a.records ++ option_to_list (record_of x) → StandsFor b [] taken (after_pick l (pair_at m) x) → b.phase ≡ phase_after (picked_of x) b.floor.pair.entries → IsReadyAt b taken (picked l m x)
    ready_picked b x e going program options rs s f =
        let stands : StandsFor b [] taken (pair_at (picked l m x)) = subst (λ (q : Pair Origin). StandsFor b [] taken q) (pair_picked x) s in
        ready_from a b taken (picked l m x) program options stands
        (rs ∙ ap (λ (ys : List Record). ys ++ option_to_list (record_of x)) h.records ∙ records_picked x)
        (subst (Recounts b) (told_picked x) (same_story (record a { records = a.records ++ option_to_list (record_of x) }) b (after_next l m.told x) program options rs (on a m.told x told_is going e)))
        (f ∙ phase_picked x b.floor.pair.entries (sym (ap (λ (q : Pair Origin). q.entries) stands.floor)))
        (lent_picked x)

    -- ---- an item

    module _ (j : ℕ) (read : list_any (nat_eq j) a.reading ≡ true) (going : is_complete a.records ≡ false) where
      comes : may_come m.told j ≡ true
      comes = comes_at m.told j m.told.stand.verdict (list_any (nat_eq j) m.told.reading) refl no_verdict refl (ap (λ (xs : List ℕ). list_any (nat_eq j) xs) reading_is ∙ read)

      has_place : (e : PlainEvent) → fits (stand_in a) (item.Offered e) ≡ true → has_room m.told.stand ≡ true
      has_place e k = ap (λ (q : List PlainEvent). Rattle.std.specs.Prelude.nat_lt (length q) Rattle.bp_log.specs.declared.limits.TheConstants.MOST_WAITING) queue_is ∙ k

      -- where it leads
      abbrev pub Enters : Item → PlainArbiter → Type 0
      Enters x b = (n : Moment Origin) × (step_on a m (Absorb j x) ≡ Some n) × IsAt b [] taken n

      enters_with : (x : Item) (r : Record) (c : Configuration Origin) (b : PlainArbiter) → record_by j x ≡ Some r → after_record l (options_in a) m.told r ≡ Some c → at_rest (record { stand = c.stand; entries = m.entries }) ≡ true →
          b.floor.base.program ≡ a.floor.base.program → options_in b ≡ options_in a → b.records ≡ a.records ++ r ∷ [] → Recounts b c → StandsFor b [] taken (record { stand = c.stand; entries = m.entries }) →
          phase_at c.stand.verdict m.entries ≡ Rest → b.phase ≡ Rest → Enters x b
      unfolding after_step
      enters_with x r c b k e at program options rs t s f g =
          let n : Moment Origin = record m { told = c; records = m.records ++ r ∷ [] } in
          let leads : step_on a m (Absorb j x) ≡ Some n =
          ap (λ (b : Bool). if b then option_and_then (absorbed l (options_in a) m) (record_by j x) else None) is_at_rest
          ∙ ap (λ (y : Option Record). option_and_then (absorbed l (options_in a) m) y) k
          ∙ ap (λ (y : Option (Configuration Origin)). option_map (λ d. record m { told = d; records = m.records ++ r ∷ [] }) y) e in
          let there : settled l n ≡ c = ap (λ (s : Stand Origin). record c { stand = s }) (settle-rest l (pair_at n) at) in
          let ready : IsReadyAt b taken n = ready_from a b taken n program options s (rs ∙ ap (λ (ys : List Record). ys ++ r ∷ []) h.records) (subst (Recounts b) (sym there) t) (g ∙ sym f)
          (nothing_lent.1 ∙ sym (ap (λ (x : Bool). fresh (if x then [] else Rattle.bp_steps.specs.Steps.bodies l (pair_at n))) at)) in
          (n, leads, unlent_at b taken n ready (λ r. let z : Rest ≡ Ready = sym g ∙ r in cc))

      after_in : (e : PlainEvent) → has_room m.told.stand ≡ true → after_record l (options_in a) m.told (In j e) ≡ Some (record m.told { stand = queued e m.told.stand })
      unfolding after_record
      after_in e k = rw (comes, k) refl

      after_bad : (n : ℕ) → after_record l (options_in a) m.told (Bad j n) ≡ Some (record (read_out m.told j) { bad = first_bad m.told.bad j n })
      unfolding after_record
      after_bad n = rw comes refl

      after_eof : after_record l (options_in a) m.told (Eof j) ≡ Some (read_out m.told j)
      unfolding after_record
      after_eof = rw comes refl

      rest_phase : phase_at m.told.stand.verdict m.entries ≡ Rest
      rest_phase = ap (λ (v : Option Verdict). phase_at v m.entries) no_verdict ∙ ap (λ (es : List (Entry Origin)). phase_at None es) no_entries

      entered : (x : Item) → is_failed x ≡ false → fits (stand_in a) x ≡ true → StandsFor (arbiters.absorbed j x a) [] taken (with_item x (pair_at m)) → Enters x (arbiters.absorbed j x a)
      entered (item.Offered e) n k s =
          let c : Configuration Origin = record m.told { stand = queued e m.told.stand } in
          enters_with (item.Offered e) (In j e) c (arbiters.absorbed j (item.Offered e) a) refl (after_in e (has_place e k)) rests refl refl refl
          (one_more a (In j e) m.told c told_is going (event_comes l (options_in a) m.told j e comes (has_place e k))) s rest_phase f
      entered (item.Bad i) n k s =
          let c : Configuration Origin = record (read_out m.told j) { bad = first_bad m.told.bad j i } in
          enters_with (item.Bad i) (Bad j i) c (arbiters.absorbed j (item.Bad i) a) refl (after_bad i) rests refl refl refl
          (one_more a (Bad j i) m.told c told_is going (bad_comes l (options_in a) m.told j i comes)) s rest_phase f
      entered item.Failed n k s = absurd (cc)
      entered item.End n k s =
          enters_with item.End (Eof j) (read_out m.told j) (arbiters.absorbed j item.End a) refl after_eof rests refl refl refl
          (one_more a (Eof j) m.told (read_out m.told j) told_is going (end_comes l (options_in a) m.told j comes)) s rest_phase f

      -- the item enters
      pub enters : (x : Item) (b : PlainArbiter) → is_failed x ≡ false → fits (stand_in a) x ≡ true → b ≡ arbiters.absorbed j x a → StandsFor b [] taken (with_item x (pair_at m)) → Enters x b
      enters x b n k e s = subst (λ (y : PlainArbiter). Enters x y) (sym e) (entered x n k (subst (λ (y : PlainArbiter). StandsFor y [] taken (with_item x (pair_at m))) e s))
