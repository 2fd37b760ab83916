use Rattle.std.proofs.Common.{◌≡◌, [], None, IfOk, ap, subst, ◌∙◌}
use Rattle.js_value.specs.Lists.{values_in, values_in-of}
use Rattle.js_value.specs.Views.{plain_value}
use Rattle.js_meaning.specs.Bodies.{Origin, function}
use Rattle.js_frames.specs.Places.{plain_ground}
use Rattle.js_frames.specs.Runs.{Stands}
use Rattle.bp_thread.specs.Jobs.{PlainJob, plain_job}
use Rattle.bp_thread.proofs.job.Job.start.Goals as goal

pub returns-clause-made : goal.returns-clause-made
returns-clause-made c =
    let made : Origin → PlainJob = λ o. record { number = c.args.number; name = c.args.name; origin = o; replies = []; effects = []; handler = None; outcome = None } in
    subst (λ xs. IfOk c.on.result (λ j. plain_job j ≡ made (function c.args.kind (plain_value c.args.callee) xs))) (ap values_in c.in_ok-args.ensures ∙ values_in-of _) c.on.ensures.made

pub returns-clause-fresh : goal.returns-clause-fresh
returns-clause-fresh c =
    let origin = function c.args.kind (plain_value c.args.callee) in
    c.on.ensures.fresh _ _
    (subst (λ xs. Stands (plain_ground c.args.ground.now) c.args.budget (origin xs) [] 0 [] c.in_ok-machine.machine) c.as_slice.ensures.values c.in_ok-machine.ensures.stands)
    c.in_ok-machine.ensures.effects
