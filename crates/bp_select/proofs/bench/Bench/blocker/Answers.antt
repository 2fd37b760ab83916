use Rattle.std.proofs.Common.{◌≡◌, ◌∙◌, ℕ, List, Option, map, ap, subst}
use Rattle.js_value.specs.Value.{PlainSet}
use Rattle.js_frames.specs.Places.{plain_ground}
use Rattle.bp_meaning.specs.Membership.{member}
use Rattle.bp_run.specs.Selecting.{Live, blocker}
use Rattle.bp_live.specs.Lives.{live_of}
use Rattle.bp_select.specs.Benches.{PlainBench}
use Rattle.bp_select.specs.Answers.{AnswersAs}
use Rattle.bp_select.proofs.bench.Bench.blocker.Goals as goal

pub returns-clause-blocker : goal.returns-clause-blocker
returns-clause-blocker c =
    let here : map live_of c.as_slice.result.now ≡ c.args.self.now.live = c.as_slice.ensures.live ∙ c.tidy.ensures.same ∙ ap (λ (b : PlainBench). b.live) c.self.view_is in
    let same : Option ℕ → Option ℕ = λ o. o in
    subst (λ (ts : List (Live PlainSet)). AnswersAs same (blocker (member (plain_ground c.args.ground.now) c.args.budget) ts c.args.event.now) c.blocker.result) here c.blocker.ensures
