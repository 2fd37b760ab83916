use Rattle.std.proofs.Common.{◌≡◌, ◌∙◌, ℕ, List, map, ap, sym, subst}
use Rattle.js_value.specs.Value.{PlainSet}
use Rattle.js_frames.specs.Places.{plain_ground}
use Rattle.bp_draw.specs.Words.{draw_word}
use Rattle.bp_meaning.specs.Membership.{member}
use Rattle.bp_known.specs.Known.{sets_in}
use Rattle.bp_run.specs.Selecting.{Live}
use Rattle.bp_run.specs.Choosing.{choice}
use Rattle.bp_select.specs.Answers.{AnswersAs, chosen_of}
use Rattle.bp_live.specs.Lives.{live_of}
use Rattle.bp_select.specs.Benches.{Fits, PlainBench}
use Rattle.bp_select.specs.Tallies.{Tallied}
use Rattle.bp_select.specs.inner.Counted.{plain_tally}
use Rattle.bp_select.proofs.bench.Bench.choose.Goals as goal

pub settle-requires-clause-known : goal.settle-requires-clause-known
settle-requires-clause-known c =
    let fits = subst (λ (b : PlainBench). Fits b (plain_ground c.args.ground.now) c.args.budget) (sym c.self.view_is) c.requires.fits in
    fits.known

pub returns-in_err-settle-clause-fits : goal.returns-in_err-settle-clause-fits
returns-in_err-settle-clause-fits c =
    let base = plain_ground c.args.ground.now in
    let fits = subst (λ (b : PlainBench). Fits b base c.args.budget) (sym c.self.view_is) c.requires.fits in
    record {
      known = c.settle.ensures.known;
      tallied =
          c.settle.ensures.tallied c.tidy.new.self.live
          (subst (λ (ts : List (Live PlainSet)). Tallied base c.args.budget (sets_in c.self.inside.blocks.sets) ts (plain_tally c.self.inside.tally)) (sym c.tidy.ensures.same) fits.tallied);
    }

pub choose-requires-clause-tallied : goal.choose-requires-clause-tallied
choose-requires-clause-tallied c =
    let base = plain_ground c.args.ground.now in
    let fits = subst (λ (b : PlainBench). Fits b base c.args.budget) (sym c.self.view_is) c.requires.fits in
    c.settle.ensures.tallied (map live_of c.as_slice-live.result.now)
    (subst (λ (ts : List (Live PlainSet)). Tallied base c.args.budget (sets_in c.self.inside.blocks.sets) ts (plain_tally c.self.inside.tally)) (sym (c.as_slice-live.ensures.live ∙ c.tidy.ensures.same)) fits.tallied)

pub choose-requires-clause-settled : goal.choose-requires-clause-settled
choose-requires-clause-settled c = record { order = c.as_slice-live.ensures.order; sets = c.in_ok-settle.ensures.settled; known = c.settle.ensures.known }

pub returns-clause-chosen : goal.returns-clause-chosen
returns-clause-chosen c =
    let here : map live_of c.as_slice-live.result.now ≡ c.args.self.now.live = c.as_slice-live.ensures.live ∙ c.tidy.ensures.same ∙ ap (λ (b : PlainBench). b.live) c.self.view_is in
    subst (λ (ts : List (Live PlainSet)). AnswersAs (chosen_of c.args.queue.now c.choose.new.draw.drawn) (choice (member (plain_ground c.args.ground.now) c.args.budget) (draw_word c.args.draw.now.seed) c.args.strategy ts c.args.queue.now c.args.draw.now.drawn) c.choose.result) here
    c.choose.ensures.chosen

pub returns-clause-fits : goal.returns-clause-fits
returns-clause-fits c =
    let base = plain_ground c.args.ground.now in
    record {
      known = c.choose.ensures.settled.known;
      tallied =
          subst (λ (es : List (ℕ × PlainSet)). Tallied base c.args.budget (sets_in es) c.tidy.new.self.live (plain_tally c.choose.new.tally)) (sym c.choose.ensures.sets)
          (subst (λ (ts : List (Live PlainSet)). Tallied base c.args.budget (sets_in c.settle.new.blocks.sets) ts (plain_tally c.choose.new.tally)) c.as_slice-live.ensures.live c.choose.ensures.tallied);
    }
