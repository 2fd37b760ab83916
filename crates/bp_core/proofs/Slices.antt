-- Where a slice leads, by the steps of a core.
use Rattle.std.proofs.Common.{◌≡◌, ◌≤◌, ◌<◌, ◌+◌, ℕ, zero, suc, Bool, true, false, not, ◌&&◌, nat_lt, List, [], ◌∷◌, ◌++◌, refl, sym, ap, ◌∙◌, subst, arith, Option, Some, None, IsSome, IsTrue, ◌↔◌, is_some, set, if◌then◌else◌, slice_get}
use Rattle.std.specs.Prelude.{option_map}
use Rattle.std.specs.List.{AllZip}
use Rattle.js_data.specs.Event.{PlainEvent}
use Rattle.js_meaning.specs.State as js
use Rattle.js_meaning.specs.State.{Ground, Effect, left_by}
use Rattle.js_meaning.specs.Bodies.{Origin, evaluation}
use Rattle.js_frames.specs.Runs.{Waits}
use Rattle.bp_log.specs.Options.{PlainOptions}
use Rattle.bp_log.specs.declared.trace.Line.{Line}
use Rattle.bp_run.specs.Configuration.{change}
use Rattle.bp_run.specs.Settling.{Body}
use Rattle.bp_steps.specs.declared.step.CoreStep.TheVariants.{Slice}
use Rattle.bp_steps.specs.Steps.{Moment, pair_at, bodies, lent_bodies, sliced, slice_of, after_step}
use Rattle.bp_thread.specs.declared.job.Job.{Job}
use Rattle.bp_thread.specs.Jobs.{plain_job, StandsAt, Sliced}
use Rattle.bp_thread.specs.Carried.{Carries}
use Rattle.bp_thread.proofs.Standing.{still_open}
use Rattle.bp_code.specs.Code.{ground_for}
use Rattle.bp_code.specs.Nodes.{nodes_of}
use Rattle.bp_floor.specs.declared.phase.Phase.TheVariants.{Lent}
use Rattle.bp_arbiter.specs.Arbiters.{PlainArbiter, code_in, options_in}
use Rattle.bp_core.specs.Moments.{HasBegun, IsBegun, AreBegun, IsAt, step_on}
use Rattle.bp_core.proofs.Begun.{carries_self, all_carried_self}
use Rattle.bp_core.proofs.Merges.{busy, carried_at}

-- ---- one job

pub not_less : (a b : ℕ) → b ≤ a → nat_lt a b ≡ false
not_less a b h = search (arith)

pub is_less : (a b : ℕ) → a < b → nat_lt a b ≡ true
is_less a b h = search (arith)

-- a slice, by what the body takes of its budget
module _ (base : Ground) (o : PlainOptions) (b : Body Origin) (j x : Job) (origin : (plain_job j).origin ≡ b.origin) (replies : (plain_job j).replies ≡ b.replies) (ground : base ≡ ground_for base.program o.budget b.origin) where
  its : evaluation base o.budget (plain_job j).origin (plain_job j).replies ≡ evaluation (ground_for base.program o.budget b.origin) o.budget b.origin b.replies
  its =
      ap (λ (g : Ground). evaluation g o.budget (plain_job j).origin (plain_job j).replies) ground
      ∙ ap (λ (y : Origin). evaluation (ground_for base.program o.budget b.origin) o.budget y (plain_job j).replies) origin
      ∙ ap (λ (rs : List PlainEvent). evaluation (ground_for base.program o.budget b.origin) o.budget b.origin rs) replies

  fuel : (left_by (evaluation base o.budget (plain_job j).origin (plain_job j).replies)).fuel ≡ (left_by (evaluation (ground_for base.program o.budget b.origin) o.budget b.origin b.replies)).fuel
  fuel = ap (λ (e : js.Outcome). (left_by e).fuel) its

  done_at : (begun n more : ℕ) → more ≤ n → (left_by (evaluation base o.budget (plain_job j).origin (plain_job j).replies)).fuel + (begun + more) ≡ o.budget → sliced (nodes_of base.program o b) n begun ≡ None
  done_at begun n more few at =
      let same = fuel in
      ap (λ (t : Bool). if t then Some (begun + n) else None) (not_less (begun + n) (nodes_of base.program o b) (omega (arith, few, at, same)))

  waits_at : (begun n more : ℕ) → Waits (evaluation base o.budget (plain_job j).origin (plain_job j).replies) begun more n o.budget → sliced (nodes_of base.program o b) n begun ≡ Some (begun + n)
  waits_at begun n more w =
      let same = fuel in
      let a = w.whole in
      let c = w.another in
      ap (λ (t : Bool). if t then Some (begun + n) else None) (is_less (begun + n) (nodes_of base.program o b) (omega (arith, a, c, same)))

  begun_with : (begun n : ℕ) (made : List Effect) (done : Bool) → (IsTrue done ↔ IsSome (plain_job x).outcome) → Sliced base o.budget begun made n done j x → HasBegun base o.budget x (sliced (nodes_of base.program o b) n begun)
  begun_with begun n made true d s =
      subst (λ (k : Option ℕ). HasBegun base o.budget x k) (sym (done_at begun n s.more s.few (s.reached refl))) (d.0 refl)
  begun_with begun n made false d s =
      let w = s.waits refl in
      subst (λ (k : Option ℕ). HasBegun base o.budget x k) (sym (waits_at begun n s.more w))
      (still_open (plain_job x).outcome d, made ++ s.fresh, subst (λ (k : ℕ). StandsAt base o.budget (begun + k) (made ++ s.fresh) x) w.whole s.stands)

-- ---- all of them

module _ (base : Ground) (budget : ℕ) where
  -- the job at this place, of which this many nodes have begun
  pub record IsOpenAt (bs : List (Body Origin)) (ns : List (Option ℕ)) (i : ℕ) (j : Job) : Type 0 where
    pub body : Body Origin
    pub begun : ℕ
    pub body_is : slice_get bs i ≡ Some body
    pub begun_is : slice_get ns i ≡ Some (Some begun)
    pub is : IsBegun base budget body j (Some begun)

  open_here : (b : Body Origin) (bs : List (Body Origin)) (n : Option ℕ) (ns : List (Option ℕ)) (j : Job) → IsBegun base budget b j n → (plain_job j).outcome ≡ None → IsOpenAt (b ∷ bs) (n ∷ ns) 0 j
  open_here b bs None ns j h o = absurd (let y = h.begun in let z : false ≡ true = sym (ap is_some o) ∙ y in cc)
  open_here b bs (Some n) ns j h o = record { body = b; begun = n; body_is = refl; begun_is = refl; is = h }

  pub open_at : (bs : List (Body Origin)) (js : List Job) (ns : List (Option ℕ)) (i : ℕ) (j : Job) → AreBegun base budget bs js ns → slice_get js i ≡ Some j → (plain_job j).outcome ≡ None → IsOpenAt bs ns i j
  open_at [] [] ns i j h g o = absurd (cc)
  open_at [] (x ∷ js) ns i j h g o = absurd h
  open_at (b ∷ bs) [] ns i j h g o = absurd h
  open_at (b ∷ bs) (x ∷ js) [] i j h g o = absurd h
  open_at (b ∷ bs) (x ∷ js) (n ∷ ns) zero j h g o =
      let e : x ≡ j = cc in open_here b bs n ns j (subst (λ (y : Job). IsBegun base budget b y n) e h.0) o
  open_at (b ∷ bs) (x ∷ js) (n ∷ ns) (suc i) j h g o =
      let r = open_at bs js ns i j h.1 g o in
      record { body = r.body; begun = r.begun; body_is = r.body_is; begun_is = r.begun_is; is = r.is }

  pub begun_set : (bs : List (Body Origin)) (js : List Job) (ns : List (Option ℕ)) (i : ℕ) (b : Body Origin) (x : Job) (k : Option ℕ) → AreBegun base budget bs js ns → slice_get bs i ≡ Some b → IsBegun base budget b x k →
      AreBegun base budget bs (set js i x) (change (λ y. k) i ns)
  begun_set [] [] [] i b x k h g s = absurd (cc)
  begun_set [] [] (n ∷ ns) i b x k h g s = absurd h
  begun_set [] (j ∷ js) ns i b x k h g s = absurd h
  begun_set (c ∷ bs) [] ns i b x k h g s = absurd h
  begun_set (c ∷ bs) (j ∷ js) [] i b x k h g s = absurd h
  begun_set (c ∷ bs) (j ∷ js) (n ∷ ns) zero b x k h g s = let e : b ≡ c = cc in (subst (λ (y : Body Origin). IsBegun base budget y x k) e s, h.1)
  begun_set (c ∷ bs) (j ∷ js) (n ∷ ns) (suc i) b x k h g s = (h.0, begun_set bs js ns i b x k h.1 g s)

  pub carried_set : (js : List Job) (i : ℕ) (j x : Job) → slice_get js i ≡ Some j → Carries base budget j x → AllZip (Carries base budget) js (set js i x)
  carried_set [] i j x g c = absurd (cc)
  carried_set (y ∷ js) zero j x g c = let e : j ≡ y = cc in (subst (λ (z : Job). Carries base budget z x) e c, all_carried_self base budget js)
  carried_set (y ∷ js) (suc i) j x g c = (carries_self base budget y, carried_set js i j x g c)

-- ---- a slice

module _ (a : PlainArbiter) (jobs : List Job) (taken : List Line) (m : Moment Origin) (h : IsAt a jobs taken m) (f : a.phase ≡ Lent) (i n : ℕ) (some : 0 < n) (j x : Job) (there : slice_get jobs i ≡ Some j)
    (open_still : (plain_job j).outcome ≡ None) where
  abbrev all : List (Body Origin)
  all = bodies (code_in a) (pair_at m)

  lent_all : lent_bodies (code_in a) (pair_at m) ≡ all
  lent_all = ap (λ (t : Bool). if t then [] else all) (busy a jobs taken m h f)

  at_place : IsOpenAt a.floor.base (options_in a).budget all m.lent i j
  at_place = open_at a.floor.base (options_in a).budget all jobs m.lent i j
      (subst (λ (bs : List (Body Origin)). AreBegun a.floor.base (options_in a).budget bs jobs m.lent) lent_all h.lent) there open_still

  pub is_of_program : Rattle.bp_thread.specs.Jobs.IsOf a.floor.base.program j
  is_of_program = (at_place.is).of_program

  abbrev left : Option ℕ
  left = sliced (nodes_of a.floor.base.program (options_in a) at_place.body) n at_place.begun

  -- where it leads
  abbrev pub Cuts : Type 0
  Cuts = (w : Moment Origin) × (step_on a m (Slice i n) ≡ Some w) × IsAt a (set jobs i x) taken w

  pub cuts : Carries a.floor.base (options_in a).budget j x → (done : Bool) → (IsTrue done ↔ IsSome (plain_job x).outcome) →
      ((begun : ℕ) (made : List Effect) → StandsAt a.floor.base (options_in a).budget begun made j → Sliced a.floor.base (options_in a).budget begun made n done j x) → Cuts
  unfolding after_step
  cuts c done d s =
      let base = a.floor.base in
      let o = options_in a in
      let p = at_place in
      let b = p.body in
      let was = p.is in
      let leads : step_on a m (Slice i n) ≡ Some (record m { lent = change (λ y. left) i m.lent }) =
      ap (λ (t : Bool). if t then option_map (λ k. record m { lent = change (λ y. k) i m.lent }) (slice_of (nodes_of base.program o) n (slice_get all i) (slice_get m.lent i)) else None)
      (ap (λ (t : Bool). not t && nat_lt 0 n) (busy a jobs taken m h f) ∙ is_less 0 n some)
      ∙ ap (λ (y : Option (Body Origin)). option_map (λ k. record m { lent = change (λ y. k) i m.lent }) (slice_of (nodes_of base.program o) n y (slice_get m.lent i))) p.body_is
      ∙ ap (λ (y : Option (Option ℕ)). option_map (λ k. record m { lent = change (λ y. k) i m.lent }) (slice_of (nodes_of base.program o) n (Some b) y)) p.begun_is in
      let begins = was.begun in
      let now : IsBegun base o.budget b x left = record {
        origin = (c.same).origin ∙ was.origin;
        replies = (c.same).replies ∙ was.replies;
        of_program = c.of_program was.of_program;
        ground = was.ground;
        whole = c.whole was.whole;
        begun = begun_with base o b j x was.origin was.replies was.ground p.begun n begins.1 done d (s p.begun begins.1 begins.2);
      } in
      let all_begun = begun_set base o.budget (lent_bodies (code_in a) (pair_at m)) jobs m.lent i b x left h.lent (ap (λ (bs : List (Body Origin)). slice_get bs i) lent_all ∙ p.body_is) now in (
        record m { lent = change (λ y. left) i m.lent },
        leads,
        carried_at a jobs (set jobs i x) taken m (change (λ y. left) i m.lent) h (carried_set base o.budget jobs i j x there c) all_begun,
      )
