use Rattle.std.proofs.Common.{subst}
use Rattle.js_frames.specs.Places.{plain_ground}
use Rattle.bp_run.specs.Selecting.{live, selectable}
use Rattle.bp_select.specs.Answers.{AnswersAs, enabled_of}
use Rattle.bp_floor.specs.Floors.{PlainFloor, code_on}
use Rattle.bp_floor.proofs.Asking.{asked_at_rest}
use Rattle.bp_floor.proofs.Sound.{rests_now}
use Rattle.bp_floor.proofs.floor.Floor.enabled.Goals as goal

pub returns-clause-enabled : goal.returns-clause-enabled
returns-clause-enabled c =
    let f = c.self.inside in
    let rests = rests_now (plain_ground f.ground) f.options f.board f.phase f.broken c.args.self.now c.self.view_is c.requires.rest (c.self.invariant c.if-self.false) in
    subst (λ (x : PlainFloor). AnswersAs enabled_of (selectable (code_on x).has (live (code_on x) x.pair.stand) x.pair.stand.queue) c.enabled.result) c.self.view_is
    (asked_at_rest (plain_ground f.ground) f.options f.board c.budget-budget.result enabled_of (λ has ts. selectable has ts f.board.desk.queue) c.enabled.result rests c.budget-budget.ensures.budget c.enabled.ensures.enabled)
