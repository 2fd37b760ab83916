use Rattle.std.proofs.Common.{refl, sym, ap, subst, ◌∙◌, ◌++◌, map, option_map, fold}
use Rattle.js_data.proofs.Shared.{one_answer}
use Rattle.js_value.specs.Views.{plain_value}
use Rattle.js_frames.specs.Places.{plain_ground, plain_effect, plain_effects}
use Rattle.js_frames.specs.Runs.{Stands}
use Rattle.bp_meaning.specs.After.{handler_after}
use Rattle.bp_thread.specs.Views.{plain_origin}
use Rattle.bp_thread.specs.declared.job.JobParts.{JobParts}
use Rattle.bp_thread.specs.Jobs.{plain_job}
use Rattle.bp_thread.proofs.Slicing.{Paused, some_outcome, done_is_outcome, sliced}
use Rattle.bp_thread.proofs.job.Job.step.Goals as goal

pub returns-clause-done : goal.returns-clause-done
returns-clause-done c = done_is_outcome c.in_ok-outcome.outcome _ c.is_some-done.ensures

pub returns-clause-stands : goal.returns-clause-stands
returns-clause-stands c = λ budget begun made at.
    let old = plain_job c.args.self.now in
    let d = c.deref_mut-parts.ensures.value in
    let fresh = plain_effects c.take_effects-fresh.result in
    let paused : Paused c.args.self.now _ c.in_ok-pause.pause c.run.new.self c.take_effects-fresh.new.self fresh = record {
      there = refl;
      origin = ap (λ (p : JobParts). plain_origin p.origin) d;
      replies = ap (λ (p : JobParts). p.replies) d;
      taken = record {
        given = c.take_effects-fresh.ensures.given;
        left = c.take_effects-fresh.ensures.left;
        asked = c.take_effects-fresh.ensures.asked;
        line = c.take_effects-fresh.ensures.line;
        constants = c.take_effects-fresh.ensures.constants;
        stands = c.take_effects-fresh.ensures.stands;
      };
      effects = c.in_ok-append.ensures ∙ ap (λ (p : JobParts). plain_effects p.effects ++ fresh) d;
      handler =
          c.in_ok-set_handler.ensures
          ∙ ap (λ (p : JobParts). fold handler_after (option_map plain_value p.handler) (map plain_effect c.as_slice.result.now)) d
          ∙ ap (λ es. fold handler_after old.handler (map plain_effect es)) c.as_slice.ensures.value;
      outcome = c.in_ok-outcome.ensures.outcome;
    } in
    sliced (plain_ground c.args.ground.now) budget c.args.nodes _ _ _ _ _ _ paused begun made _ (c.is_some-done.ensures ∙ sym (some_outcome c.in_ok-outcome.outcome)) at
    (c.in_ok-pause.ensures.stands budget old.origin old.replies begun made
    (subst (λ m. Stands (plain_ground c.args.ground.now) budget old.origin old.replies begun made m) (one_answer _ _ _ at.there (sym (ap (λ (p : JobParts). p.machine) d) ∙ c.in-Some.is)) at.stands))
