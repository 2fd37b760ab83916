-- One turn of a floor.
use Rattle.std.proofs.Common.{◌≡◌, ◌∙◌, ◌≤◌, ℕ, Bool, true, false, ◌||◌, List, [], ◌∷◌, length, slice_get, Option, Some, None, refl, sym, ap, subst}
use Rattle.std.specs.List.{list_any}
use Rattle.std.proofs.lemmas.Option.{same_Some}
use Rattle.js_data.specs.Event.{PlainEvent, same_event}
use Rattle.js_data.proofs.SameEvent.{same_event-self}
use Rattle.js_value.specs.Value.{PlainSet}
use Rattle.js_meaning.specs.State.{Ground}
use Rattle.js_meaning.specs.Bodies.{Origin}
use Rattle.bp_log.specs.declared.limits.TheConstants.{MOST_THREADS}
use Rattle.bp_log.specs.declared.trace.Line.{Line}
use Rattle.bp_run.specs.Bodies.{Code}
use Rattle.bp_run.specs.Configuration.{below}
use Rattle.bp_run.specs.Settling.{Pair, turn, before, settle, opening, initial}
use Rattle.bp_run.specs.Story.{story, story_from}
use Rattle.bp_run.proofs.Turns.{settle-turn}
use Rattle.bp_thread.specs.declared.job.Job.{Job}
use Rattle.bp_thread.specs.Carried.{AreCarriedOut}
use Rattle.bp_floor.specs.declared.phase.Phase.{Phase}
use Rattle.bp_floor.specs.declared.phase.Phase.TheVariants.{Ready, Lent}
use Rattle.bp_floor.specs.Loans.{AreLent, filled_pair, standing}
use Rattle.bp_floor.specs.Floors as floors
use Rattle.bp_floor.specs.Floors.{PlainFloor, StandsFor, StandsWith, IsPhased, code_on, is_idle}
use Rattle.bp_arbiter.specs.Arbiters.{PlainArbiter, IsDrawn, StandsFor as ArbiterStands}
use Rattle.bp_arbiter.specs.Lend.{AreOut}
use Rattle.bp_arbiter.proofs.Calls.{calls_turned}
use Rattle.bp_arbiter.proofs.LendLemmas.{lent_out, back_done, filled_same}
use Rattle.bp_arbiter.proofs.PickLemmas.{unfilled}
use Rattle.bp_arbiter.proofs.SealLemmas.{as_many}
use Rattle.bp_arbiter.proofs.Told.{same_code, at_rest_busy}
use Rattle.test_arbiter.specs.Floors.{Goes}

-- before anything has run
pub goes_first : (f : PlainFloor) → f.broken ≡ false → f.pair ≡ opening → Goes f
goes_first f w h =
    record {
      whole = w;
      taken = [];
      pair = opening;
      stands = sym h;
      settles = refl;
      calls = record { threads = tt; handlers = (tt, tt) };
    }

-- an arbiter with this floor, before anything is recorded
abbrev over : PlainFloor → PlainArbiter
over f = record { floor = f; drawn = 0; reading = below f.options.injectors; bad = None; records = []; phase = f.phase; broken = f.broken }

-- what the floor f lent is out, and g is left
pub record IsOut (f g : PlainFloor) (jobs : List Job) : Type 0 where
  pub goes : Goes f
  pub phased : IsPhased f
  pub ready : f.phase ≡ Ready
  pub lent : AreLent f.base.program f.options (standing f.pair.stand.threads) f.pair.entries jobs
  pub filled : filled_pair jobs g.pair ≡ f.pair
  pub stands : (taken : List Line) (p : Pair Origin) → StandsFor f taken p → StandsWith g jobs taken p
  pub phase : g.phase ≡ Lent
  pub whole : g.broken ≡ false
  pub base : g.base ≡ f.base
  pub options : g.options ≡ f.options

module _ (f g : PlainFloor) (jobs : List Job) (i : IsOut f g jobs) where
  abbrev p : Pair Origin
  p = (i.goes).pair

  abbrev taken : List Line
  taken = (i.goes).taken

  same : code_on g ≡ code_on f
  same = same_code f.base.program g.base.program f.options g.options (ap (λ (x : Ground). x.program) i.base) i.options

  settles : settle (code_on g) p ≡ settle (code_on g) opening
  settles = subst (λ (l : Code Origin PlainSet). settle l p ≡ settle l opening) (sym same) (i.goes).settles

  pub out : AreOut (over g) jobs
  out = lent_out (over f) g jobs taken p i.phased (i.goes).stands (i.goes).calls i.lent i.filled i.base i.options (over g) refl

  stands : ArbiterStands (over g) jobs taken p
  unfolding story story_from initial
  stands =
      record {
        whole = i.whole;
        told = initial (code_on g) g.options.injectors;
        story = refl;
        settles = sym settles;
        reading = refl;
        bad = refl;
        drawn = subst (λ (x : Phase). IsDrawn x 0 0) (sym i.phase) refl;
        floor = i.stands taken p (i.goes).stands;
        calls = (i.goes).calls;
      }

  module _ (after : List Job) (c : AreCarriedOut g.base g.options.budget jobs after) where
    pub back : floors.AreBack g after
    back = back_done (over g) after (record { lent = jobs; taken = taken; pair = p; stands = stands; out = out; carried = c })

    bare : StandsWith f [] taken p
    bare = (i.goes).stands ∙ ap (λ (q : Pair Origin). before taken q) (sym (unfilled f.pair))

    few : length p.stand.threads ≤ MOST_THREADS
    few = subst (λ (n : ℕ). n ≤ MOST_THREADS) (sym (as_many f [] taken p bare)) (i.phased).few

    turned : settle (code_on g) (turn (code_on g) p) ≡ settle (code_on g) opening
    turned = settle-turn (code_on g) p few (at_rest_busy f [] taken p i.phased bare (ap is_idle i.ready)) ∙ settles

    pub goes_on : (h : PlainFloor) → ((ls : List Line) (q : Pair Origin) → StandsWith g after ls q → StandsFor h ls (turn (code_on g) q)) → h.base.program ≡ g.base.program → h.options ≡ g.options → h.broken ≡ false → Goes h
    goes_on h s program options w =
        record {
          whole = w;
          taken = taken;
          pair = turn (code_on g) p;
          stands = s taken p (i.stands taken p (i.goes).stands ∙ ap (λ (q : Pair Origin). before taken q) (sym (filled_same g.base g.options.budget g.pair jobs after c)));
          settles = subst (λ (l : Code Origin PlainSet). settle l (turn (code_on g) p) ≡ settle l opening) (sym (same_code g.base.program h.base.program g.options h.options program options)) turned;
          calls = calls_turned g.base.program g.options p (i.goes).calls;
        }

-- the first event that can be selected is among those that can
pub among_first : (xs : List PlainEvent) (e : PlainEvent) (o : Option PlainEvent) → o ≡ slice_get xs 0 → o ≡ Some e → list_any (same_event e) xs ≡ true
among_first [] e o h k = absurd (cc)
among_first (x ∷ xs) e o h k =
    let f : x ≡ e = same_Some x e (sym h ∙ k) in
    ap (λ (b : Bool). b || list_any (same_event e) xs) (ap (λ (y : PlainEvent). same_event e y) f ∙ same_event-self e)
