use Rattle.std.proofs.Common.{ℕ, IfOk, length, subst}
use Rattle.js_frames.specs.Places.{plain_ground}
use Rattle.bp_run.specs.Selecting.{live}
use Rattle.bp_draw.specs.Words.{draw_word}
use Rattle.bp_log.specs.declared.options.Strategy as log
use Rattle.bp_run.specs.Choosing.{choice}
use Rattle.bp_select.specs.Answers.{AnswersAs, IsWithin, chosen_of}
use Rattle.bp_floor.specs.inner.Boards.{stand_of}
use Rattle.bp_floor.specs.Floors.{PlainFloor, code_on}
use Rattle.bp_code.specs.Code.{sealed_code_of as code_of}
use Rattle.bp_floor.proofs.Asking.{asked_at_rest}
use Rattle.bp_floor.proofs.Sound.{rests_now}
use Rattle.bp_floor.proofs.floor.Floor.choose.Goals as goal

pub returns-clause-chosen : goal.returns-clause-chosen
returns-clause-chosen c =
    let f = c.self.inside in
    let word : ℕ → ℕ = draw_word c.args.draw.now.seed in
    let drawn = c.choose.new.draw.drawn in
    let rests = rests_now (plain_ground f.ground) f.options f.board f.phase f.broken c.args.self.now c.self.view_is c.requires.rest (c.self.invariant c.if-self.false) in
    subst (λ (x : PlainFloor). AnswersAs (chosen_of x.pair.stand.queue drawn) (choice (code_on x).has word x.options.strategy (live (code_on x) x.pair.stand) x.pair.stand.queue c.args.draw.now.drawn) c.choose.result) c.self.view_is
    (subst (λ (s : log.Strategy). AnswersAs (chosen_of f.board.desk.queue drawn) (choice (code_of f.ground.program f.options).has word s (live (code_of f.ground.program f.options) (stand_of f.board)) f.board.desk.queue c.args.draw.now.drawn) c.choose.result) c.strategy.ensures
    (asked_at_rest (plain_ground f.ground) f.options f.board c.budget-budget.result (chosen_of f.board.desk.queue drawn) (λ has ts. choice has word c.strategy.result ts f.board.desk.queue c.args.draw.now.drawn) c.choose.result rests c.budget-budget.ensures.budget
    c.choose.ensures.chosen))

pub returns-clause-within : goal.returns-clause-within
returns-clause-within c =
    subst (λ (x : PlainFloor). IfOk c.choose.result (IsWithin (length x.pair.stand.queue))) c.self.view_is c.choose.ensures.within
