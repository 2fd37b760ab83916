-- A job that was carried on stands for its body as before.
use Rattle.std.proofs.lemmas.List.{append_assoc}
use Rattle.std.proofs.lemmas.List.Sums.{fold-append}
use Rattle.std.proofs.Common.{◌≡◌, ℕ, ◌+◌, Bool, false, true, List, [], ◌++◌, Option, Some, None, IsSome, IsTrue, ◌↔◌, is_some, option_map, refl, sym, ap, subst, ◌∙◌, fold}
use Rattle.js_data.specs.Event.{PlainEvent}
use Rattle.js_value.specs.Value.{PlainSet}
use Rattle.js_meaning.specs.State as js
use Rattle.js_meaning.specs.State.{Ground, Effect, left_by, effects_of}
use Rattle.js_meaning.specs.Bodies.{Origin, evaluation, constants_left}
use Rattle.js_frames.specs.declared.machine.Machine.{Machine}
use Rattle.js_frames.specs.declared.machine.Pause.{Pause}
use Rattle.js_frames.specs.declared.machine.Pause.TheVariants as pause
use Rattle.js_frames.specs.Runs.{Stands, Runs, Says, Waits, IsReached, untaken, asked_by, line_asked, constants_by}
use Rattle.bp_run.specs.Bodies as run
use Rattle.bp_meaning.specs.After.{outcome_of, stopped_with, handler_after}
use Rattle.bp_thread.specs.declared.job.Job.{Job}
use Rattle.bp_thread.specs.declared.outcome.Outcome.{Outcome}
use Rattle.bp_thread.specs.Views.{plain_outcome}
use Rattle.bp_thread.specs.Pauses.{outcome_of_pause}
use Rattle.bp_thread.specs.Jobs.{plain_job, machine_of, is_stopped, is_ended, stop_line, IsOf, IsOutcome, StandsAt, IsWhole, IsSame, Sliced}
use Rattle.bp_thread.specs.Carried.{Carries}
use Rattle.bp_thread.proofs.Standing.{false_true}

true_false : true ≡ false → ⊥
true_false h = cc

module _ (o : js.Outcome) (begun more nodes budget : ℕ) (effects : List Effect) (m : Machine) where
  -- the outcome at a pause is that of the evaluation
  pub paused : (p : Pause) → Says p o begun more nodes budget effects m → IsOutcome o effects (outcome_of_pause p (asked_by m) (line_asked m))
  paused pause.More a = tt
  paused pause.AtSync a = rw (a.asked, a.at_line) (sym (ap outcome_of a.is), ap effects_of a.is ∙ a.made)
  paused pause.Ended a = (sym (ap outcome_of a.is), ap effects_of a.is ∙ a.made)
  paused (pause.Broken fault line) a = (sym (ap outcome_of a.1), ap effects_of a.1 ∙ a.2)
  paused (pause.Violated text) a = (sym (ap outcome_of a.1), ap effects_of a.1 ∙ a.2)
  paused pause.Spent a = (sym (ap outcome_of a.is), ap effects_of a.is ∙ a.made)

  -- where there is not an outcome, the machine waits for the next slice
  pub waits : (p : Pause) → Says p o begun more nodes budget effects m → is_some (outcome_of_pause p (asked_by m) (line_asked m)) ≡ false → Waits o begun more nodes budget
  waits pause.More a h = a
  waits pause.AtSync a h = absurd (true_false (rw (a.asked, a.at_line) at h))
  waits pause.Ended a h = absurd (true_false h)
  waits (pause.Broken fault line) a h = absurd (true_false h)
  waits (pause.Violated text) a h = absurd (true_false h)
  waits pause.Spent a h = absurd (true_false h)

  -- where there is an outcome, all nodes of the body have begun
  pub reached : (p : Pause) → IsReached p o (begun + more) budget → is_some (outcome_of_pause p (asked_by m) (line_asked m)) ≡ true → (left_by o).fuel + (begun + more) ≡ budget
  reached pause.More a h = absurd (false_true h)
  reached pause.AtSync a h = a
  reached pause.Ended a h = a
  reached (pause.Broken fault line) a h = a
  reached (pause.Violated text) a h = a
  reached pause.Spent a h = a

  stop_is_no_end : (s : Option (run.Statement PlainSet)) (line : ℕ) → is_ended (Some (stopped_with s line)) ≡ true → ⊥
  stop_is_no_end None line h = false_true h
  stop_is_no_end (Some s) line h = false_true h

  -- at the end the constants are those that the evaluation leaves
  pub constants_kept : (p : Pause) → Says p o begun more nodes budget effects m → is_ended (outcome_of_pause p (asked_by m) (line_asked m)) ≡ true → constants_by m ≡ constants_left o
  constants_kept pause.More a h = absurd (false_true h)
  constants_kept pause.AtSync a h = absurd (stop_is_no_end _ _ (rw (a.asked, a.at_line) at h))
  constants_kept pause.Ended a h = a.constants ∙ sym (ap constants_left a.is)
  constants_kept (pause.Broken fault line) a h = absurd (false_true h)
  constants_kept (pause.Violated text) a h = absurd (false_true h)
  constants_kept pause.Spent a h = absurd (false_true h)

  -- where the body stops, the machine asks on its line
  pub line_kept : (p : Pause) → Says p o begun more nodes budget effects m → is_stopped (outcome_of_pause p (asked_by m) (line_asked m)) ≡ true → line_asked m ≡ stop_line o
  line_kept pause.More a h = absurd (false_true h)
  line_kept pause.AtSync a h = a.at_line ∙ sym (ap stop_line a.is)
  line_kept pause.Ended a h = absurd (false_true h)
  line_kept (pause.Broken fault line) a h = absurd (false_true h)
  line_kept (pause.Violated text) a h = absurd (false_true h)
  line_kept pause.Spent a h = absurd (false_true h)

pub some_outcome : (o : Option Outcome) → is_some (option_map plain_outcome o) ≡ is_some o
some_outcome None = refl
some_outcome (Some x) = refl

-- done exactly where the outcome is there
pub done_is_outcome : (o : Option Outcome) (done : Bool) → done ≡ is_some o → IsTrue done ↔ IsSome (option_map plain_outcome o)
done_is_outcome o done is = (λ h. some_outcome o ∙ sym is ∙ h, λ h. is ∙ sym (some_outcome o) ∙ h)

-- the second machine is the first one without its effects
pub record Taken (m n : Machine) (fresh : List Effect) : Type 0 where
  pub given : fresh ≡ untaken m
  pub left : untaken n ≡ []
  pub asked : asked_by n ≡ asked_by m
  pub line : line_asked n ≡ line_asked m
  pub constants : constants_by n ≡ constants_by m
  pub stands : (base : Ground) (budget : ℕ) (o : Origin) (replies : List PlainEvent) (begun : ℕ) (taken : List Effect) → Stands base budget o replies begun taken m → Stands base budget o replies begun (taken ++ fresh) n

-- the second job is the first one after a pause of its machine, with the effects since then
pub record Paused (old new : Job) (p : Pause) (m n : Machine) (fresh : List Effect) : Type 0 where
  pub there : machine_of new ≡ Some n
  pub origin : (plain_job new).origin ≡ (plain_job old).origin
  pub replies : (plain_job new).replies ≡ (plain_job old).replies
  pub taken : Taken m n fresh
  pub effects : (plain_job new).effects ≡ (plain_job old).effects ++ fresh
  pub handler : (plain_job new).handler ≡ fold handler_after (plain_job old).handler fresh
  pub outcome : (plain_job new).outcome ≡ outcome_of_pause p (asked_by n) (line_asked n)

module _ (base : Ground) (budget nodes : ℕ) (old new : Job) (p : Pause) (m n : Machine) (fresh : List Effect) (paused_at : Paused old new p m n fresh) where
  at_pause : (plain_job new).outcome ≡ outcome_of_pause p (asked_by m) (line_asked m)
  at_pause = paused_at.outcome ∙ ap (λ a. outcome_of_pause p a (line_asked n)) (paused_at.taken).asked ∙ ap (outcome_of_pause p (asked_by m)) (paused_at.taken).line

  pub sliced : (begun : ℕ) (made : List Effect) (done : Bool) → done ≡ is_some (plain_job new).outcome → StandsAt base budget begun made old → Runs base budget (plain_job old).origin (plain_job old).replies begun made nodes p m → Sliced base budget begun made nodes done old new
  sliced begun made done is at runs =
      let o = evaluation base budget (plain_job old).origin (plain_job old).replies in
      let t = paused_at.taken in
      record {
        more = runs.more;
        few = runs.few;
        fresh = fresh;
        effects = paused_at.effects;
        stands = record {
          machine = n;
          there = paused_at.there;
          stands = rw (paused_at.origin, paused_at.replies) (t.stands base budget (plain_job old).origin (plain_job old).replies (begun + runs.more) made runs.stands);
          all_taken = t.left;
          handler = paused_at.handler ∙ ap (λ h. fold handler_after h fresh) at.handler ∙ sym (fold-append handler_after None made fresh);
          outcome = rw (paused_at.origin, paused_at.replies, at_pause, t.given) (paused o begun runs.more nodes budget (made ++ untaken m) m p runs.says);
          line = λ stops. rw (paused_at.origin, paused_at.replies)
              (t.line ∙ line_kept o begun runs.more nodes budget (made ++ untaken m) m p runs.says (sym (ap is_stopped at_pause) ∙ stops));
          constants = λ ended. rw (paused_at.origin, paused_at.replies)
              (t.constants ∙ constants_kept o begun runs.more nodes budget (made ++ untaken m) m p runs.says (sym (ap is_ended at_pause) ∙ ended));
        };
        waits = λ still. waits o begun runs.more nodes budget (made ++ untaken m) m p runs.says (sym (ap is_some at_pause) ∙ sym is ∙ still);
        reached = λ ended. reached o begun runs.more nodes budget (made ++ untaken m) m p runs.reached (sym (ap is_some at_pause) ∙ sym is ∙ ended);
      }

still_whole : (base : Ground) (budget nodes : ℕ) (old new : Job) → IsSame (plain_job old) (plain_job new) → (w : IsWhole base budget old) (done : Bool) →
    Sliced base budget w.begun (w.before ++ (plain_job old).effects) nodes done old new → IsWhole base budget new
still_whole base budget nodes old new same w done s = record {
  begun = w.begun + s.more;
  before = w.before;
  stands = subst (λ es. StandsAt base budget (w.begun + s.more) es new) (append_assoc w.before (plain_job old).effects s.fresh ∙ ap (λ es. w.before ++ es) (sym s.effects)) s.stands;
  since = rw (same.origin, same.replies) w.since;
}

-- a slice carries a job on
pub carries : (base : Ground) (budget nodes : ℕ) (old new : Job) (done : Bool) → IsSame (plain_job old) (plain_job new) →
    ((begun : ℕ) (made : List Effect) → StandsAt base budget begun made old → Sliced base budget begun made nodes done old new) → IsOf base.program new → Carries base budget old new
carries base budget nodes old new done same slices program = record {
  same = same;
  stands = λ h. let s = slices h.begun h.made h.stands in record { begun = h.begun + s.more; made = _; stands = s.stands };
  whole = λ w. still_whole base budget nodes old new same w done (slices w.begun _ w.stands);
  of_program = λ _. program;
}
