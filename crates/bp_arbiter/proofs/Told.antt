-- What an arbiter stands for, and what it tells.
use Rattle.std.proofs.Common.{◌≡◌, true, false, List, [], ◌∷◌, ◌++◌, refl, sym, ap, ◌∙◌, subst, Option, Some, None, append_assoc}
use Rattle.js_value.specs.Value.{PlainSet}
use Rattle.js_program.specs.PlainProgram.{PlainProgram}
use Rattle.js_meaning.specs.Bodies.{Origin}
use Rattle.bp_log.specs.Options.{PlainOptions}
use Rattle.bp_log.specs.declared.record.Record.{Record}
use Rattle.bp_log.specs.declared.trace.Line.{Line}
use Rattle.bp_log.specs.declared.verdict.Verdict.{Verdict}
use Rattle.bp_run.specs.Bodies.{Code}
use Rattle.bp_run.specs.Configuration.{Configuration, Stand}
use Rattle.bp_run.specs.Settling.{Entry, Pair, settle, at_rest, opening, initial}
use Rattle.bp_run.specs.Story.{story, story_from}
use Rattle.bp_run.proofs.Growing.{grown_settle}
use Rattle.bp_run.proofs.Turns.{settle-rest}
use Rattle.bp_thread.specs.declared.job.Job.{Job}
use Rattle.bp_floor.specs.declared.phase.Phase.{Phase}
use Rattle.bp_floor.specs.declared.phase.Phase.TheVariants.{Ready, Lent, Rest, Over}
use Rattle.bp_code.specs.Code.{sealed_code_of as code_of}
use Rattle.bp_floor.specs.Floors.{PlainFloor, IsPhased, StandsWith, is_idle, not_lent, phase_at}
use Rattle.bp_arbiter.specs.Arbiters.{PlainArbiter, StandsFor, Tells, IsGivenUp, Recounts, code_in, options_in, stand_in, opened}
use Rattle.bp_arbiter.proofs.Calls.{calls_opening}

-- ---- what it tells

-- the lines of a pair are those that were taken and those that its floor still has
pub pair_lines : (f : PlainFloor) (jobs : List Job) (taken : List Line) (p : Pair Origin) → StandsWith f jobs taken p → p.stand.lines ≡ taken ++ f.pair.stand.lines
pair_lines f jobs taken p h = ap (λ (x : Pair Origin). x.stand.lines) h

pub stands_tells : (a : PlainArbiter) (jobs : List Job) (taken : List Line) (p : Pair Origin) → StandsFor a jobs taken p → Tells a taken
stands_tells a jobs taken p s =
    let g = grown_settle (code_in a) p in
    record {
      told = s.told;
      story = s.story;
      rest = g.more;
      lines = ap (λ (x : Stand Origin). x.lines) s.settles ∙ g.lines ∙ ap (λ (ls : List Line). ls ++ g.more) (pair_lines a.floor jobs taken p s.floor)
          ∙ append_assoc taken (stand_in a).lines g.more;
    }

-- ---- phases

idle_at : (v : Option Verdict) (ns : List (Entry Origin)) → is_idle (phase_at v ns) ≡ true → (elim v [ None ↦ elim ns [ [] ↦ true | n ∷ more ↦ false ] | Some w ↦ true ]) ≡ true
idle_at (Some v) ns h = refl
idle_at None [] h = refl
idle_at None (n ∷ ns) h = absurd (cc)

busy_at : (v : Option Verdict) (ns : List (Entry Origin)) → is_idle (phase_at v ns) ≡ false → (elim v [ None ↦ elim ns [ [] ↦ true | n ∷ more ↦ false ] | Some w ↦ true ]) ≡ false
busy_at (Some v) ns h = absurd (cc)
busy_at None [] h = absurd (cc)
busy_at None (n ∷ ns) h = refl

idle_same : (f : Phase) → is_idle (not_lent f) ≡ is_idle f
idle_same Ready = refl
idle_same Lent = refl
idle_same Rest = refl
idle_same Over = refl

-- an idle floor stands for a pair at rest
pub at_rest_idle : (f : PlainFloor) (jobs : List Job) (taken : List Line) (p : Pair Origin) → IsPhased f → StandsWith f jobs taken p → is_idle f.phase ≡ true → at_rest p ≡ true
at_rest_idle f jobs taken p k h i =
    ap (λ (x : Pair Origin). at_rest x) h ∙ idle_at f.pair.stand.verdict f.pair.entries (ap is_idle (sym k.at_phase) ∙ idle_same f.phase ∙ i)

pub at_rest_busy : (f : PlainFloor) (jobs : List Job) (taken : List Line) (p : Pair Origin) → IsPhased f → StandsWith f jobs taken p → is_idle f.phase ≡ false → at_rest p ≡ false
at_rest_busy f jobs taken p k h i =
    ap (λ (x : Pair Origin). at_rest x) h ∙ busy_at f.pair.stand.verdict f.pair.entries (ap is_idle (sym k.at_phase) ∙ idle_same f.phase ∙ i)

no_verdict_at : (v : Option Verdict) (ns : List (Entry Origin)) → phase_at v ns ≡ Rest → v ≡ None
no_verdict_at None ns h = refl
no_verdict_at (Some v) ns h = absurd (cc)

-- at rest there is no verdict
pub no_verdict : (f : PlainFloor) → IsPhased f → f.phase ≡ Rest → f.pair.stand.verdict ≡ None
no_verdict f k h = no_verdict_at f.pair.stand.verdict f.pair.entries (sym k.at_phase ∙ ap not_lent h)

-- ---- the story

pub same_told : (a : PlainArbiter) (c d : Configuration Origin) → Recounts a c → Recounts a d → c ≡ d
same_told a c d h k = let e : Some c ≡ Some d = sym h ∙ k in cc

-- where the arbiter is idle, the story leads to where its pair stands
pub settled_idle : (a : PlainArbiter) (jobs : List Job) (taken : List Line) (p : Pair Origin) → StandsFor a jobs taken p → IsPhased a.floor → is_idle a.floor.phase ≡ true → settle (code_in a) p ≡ p.stand
settled_idle a jobs taken p s k i = settle-rest (code_in a) p (at_rest_idle a.floor jobs taken p k s.floor i)

pub told_lines : (a : PlainArbiter) (jobs : List Job) (taken : List Line) (p : Pair Origin) (c : Configuration Origin) → StandsFor a jobs taken p → IsPhased a.floor → is_idle a.floor.phase ≡ true → Recounts a c →
    c.stand.lines ≡ taken ++ (stand_in a).lines
told_lines a jobs taken p c s k i r =
    ap (λ (x : Configuration Origin). x.stand.lines) (same_told a c s.told r s.story)
    ∙ ap (λ (x : Stand Origin). x.lines) (s.settles ∙ settled_idle a jobs taken p s k i)
    ∙ pair_lines a.floor jobs taken p s.floor

-- ---- before anything has run

pub stands_opened : (program : PlainProgram) (o : PlainOptions) → StandsFor (opened program o) [] [] opening
unfolding story story_from initial
stands_opened program o =
    record {
      whole = refl;
      told = initial (code_of program o) o.injectors;
      story = refl;
      settles = refl;
      reading = refl;
      bad = refl;
      drawn = refl;
      floor = refl;
      calls = calls_opening;
    }

-- ---- lines are taken, and memory runs out

pub same_code : (program program2 : PlainProgram) (o o2 : PlainOptions) → program2 ≡ program → o2 ≡ o → code_of program2 o2 ≡ code_of program o
same_code program program2 o o2 h k = ap (λ (x : PlainProgram). code_of x o2) h ∙ ap (λ (x : PlainOptions). code_of program x) k

-- the same records recount the same under the same program and options
pub same_story : (a b : PlainArbiter) (c : Configuration Origin) → b.floor.base.program ≡ a.floor.base.program → options_in b ≡ options_in a → b.records ≡ a.records → Recounts a c → Recounts b c
same_story a b c h k r s =
    ap (λ (l : Code Origin PlainSet). story l (options_in b) b.records) (same_code a.floor.base.program b.floor.base.program (options_in a) (options_in b) h k)
    ∙ ap (λ (o : PlainOptions). story (code_in a) o b.records) k
    ∙ ap (λ (rs : List Record). story (code_in a) (options_in a) rs) r
    ∙ s

pub tells_same : (a b : PlainArbiter) (taken : List Line) → b.floor.base.program ≡ a.floor.base.program → options_in b ≡ options_in a → b.records ≡ a.records → (stand_in b).lines ≡ (stand_in a).lines →
    Tells a taken → Tells b taken
tells_same a b taken h k r l t =
    record {
      told = t.told;
      story = same_story a b t.told h k r t.story;
      rest = t.rest;
      lines = t.lines ∙ ap (λ (ls : List Line). taken ++ (ls ++ t.rest)) (sym l);
    }

-- where nothing but the floor's jobs and queue has changed, it tells what it told
pub leaves : (a v b : PlainArbiter) → v ≡ a → b.floor.base.program ≡ v.floor.base.program → options_in b ≡ options_in v → b.records ≡ v.records → (stand_in b).lines ≡ (stand_in v).lines →
    (jobs : List Job) (taken : List Line) (p : Pair Origin) → StandsFor a jobs taken p → Tells b taken
leaves a v b e h k r l jobs taken p s = tells_same v b taken h k r l (subst (λ (x : PlainArbiter). Tells x taken) (sym e) (stands_tells a jobs taken p s))

-- ---- out of memory

-- where memory had run out, nothing changes
pub given_up_before : (IsLent : List Job → Type 0) (a : PlainArbiter) → a.broken ≡ true → IsGivenUp IsLent a a
given_up_before IsLent a w = record { broken = w; records = refl; phase = refl; tells = λ jobs taken p l s. stands_tells a jobs taken p s; stays = λ h. refl }

-- where memory was there before the call
pub given_up_now : (IsLent : List Job → Type 0) (a v b : PlainArbiter) → v ≡ a → v.broken ≡ false → b.broken ≡ true → b.records ≡ v.records → b.phase ≡ v.phase →
    ((jobs : List Job) (taken : List Line) (p : Pair Origin) → IsLent jobs → StandsFor a jobs taken p → Tells b taken) → IsGivenUp IsLent a b
given_up_now IsLent a v b e w g r f t =
    record {
      broken = g;
      records = r ∙ ap (λ (x : PlainArbiter). x.records) e;
      phase = f ∙ ap (λ (x : PlainArbiter). x.phase) e;
      tells = t;
      stays = λ h. absurd (let x : true ≡ false = sym h ∙ ap (λ (y : PlainArbiter). y.broken) (sym e) ∙ w in cc);
    }
