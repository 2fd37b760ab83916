use Rattle.std.proofs.Common.{◌∙◌, ◌<◌, ℕ, [], ◌∷◌, ◌++◌, refl, ap, subst}
use Rattle.std.proofs.lemmas.Result.{on_ok_weaker}
use Rattle.js_value.specs.Views.{plain_value}
use Rattle.js_frames.specs.Places.{plain_ground}
use Rattle.bp_log.specs.declared.limits.TheConstants.{MOST_THREADS}
use Rattle.bp_run.specs.Settling.Entry.{Runs}
use Rattle.bp_thread.specs.Jobs.{IsFresh}
use Rattle.bp_floor.proofs.Onward.{admitted, started_thread}
use Rattle.bp_floor.proofs.board.Board.admit.Goals as goal

pub returns-clause-keeps : goal.returns-clause-keeps
returns-clause-keeps c =
    on_ok_weaker c.push-2.result
    (λ w low r first on k.
    admitted r first (plain_ground c.args.ground.now) c.args.options c.args.self.now (record c.args.self.now { seats = c.push.new.self; wave = c.push-2.new.self }) c.args.name (plain_value c.args.callee) c.in_ok-job.job on (subst (λ (n : ℕ). n < MOST_THREADS) c.requires low)
    c.in_ok-push.ensures (w ∙ ap (λ (n : ℕ). c.args.self.now.wave ++ Runs n ∷ []) c.requires) refl refl c.in_ok-job.ensures.program
    (started_thread c.in_ok-job.job _ _ _ _ _ _ c.in_ok-job.ensures.made c.requires c.in_ok-named.ensures c.new.ensures.items)
    (subst (λ (n : ℕ). IsFresh (plain_ground c.args.ground.now) n c.in_ok-job.job) c.budget-budget.ensures.budget c.in_ok-job.ensures.fresh) k)
    c.push-2.ensures
