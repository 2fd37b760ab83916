use Rattle.std.proofs.Common.{◌∙◌, sym, ap, arith}
use Rattle.bp_run.specs.Settling.{before}
use Rattle.bp_floor.specs.inner.Boards.{pair_of}
use Rattle.bp_floor.specs.Floors.{PlainFloor}
use Rattle.bp_floor.proofs.Shown.{queued_stands}
use Rattle.bp_floor.proofs.Sound.{sound_pushed}
use Rattle.bp_floor.proofs.floor.Floor.enqueue.Goals.{in-Ok, in-Err}
use Rattle.bp_floor.proofs.floor.Floor.enqueue.Goals as goal

pub invariant_of-self : goal.invariant_of-self
invariant_of-self c = λ ok.
    let low = c.if-waiting.false in
    let len = c.waiting.ensures in
    sound_pushed _ _ c.self.inside.board c.self.inside.phase c.push.new.self c.args.event c.push.result (c.self.invariant ok) (omega (arith, low, len)) c.push.ensures.pushed c.push.ensures.failed c.push.ensures.bench c.push.ensures.fits

pub returns-clause-stands : goal.returns-clause-stands
returns-clause-stands c =
    elim c.match-push.branch [
      | in-Ok w ↦
          rw w.result-is
          (λ taken p s.
          queued_stands taken p (pair_of c.self.inside.board) c.args.event c.push.new.self.queue (s ∙ ap (λ (f : PlainFloor). before taken f.pair) (sym c.self.view_is)) w.in-Ok.ensures.pushed)
      | in-Err w ↦ rw w.result-is tt
    ]
