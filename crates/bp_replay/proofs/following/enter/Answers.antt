use Rattle.bp_replay.proofs.Steps.{absorbed_program, makes_entered}
use Rattle.bp_replay.proofs.following.enter.Goals.{in-Ok, in-Err-Memory}
use Rattle.bp_replay.proofs.following.enter.Goals as goal

pub returns-clause-makes : goal.returns-clause-makes
returns-clause-makes c =
    elim c.match-absorb.branch [
      | in-Ok w ↦
          rw w.result-is
          (λ d t.
          makes_entered d c.args.found.now c.args.arbiter.now c.absorb.new.self c.in_ok-injector.injector c.in_ok-injector.item t c.requires.rest c.in_ok-injector.ensures
          w.in-Ok.ensures.absorbed w.in-Ok.ensures.stands)
      | in-Err-Memory w ↦ rw w.result-is tt
    ]

pub returns-clause-program : goal.returns-clause-program
returns-clause-program c =
    elim c.match-absorb.branch [
      | in-Ok w ↦ rw w.result-is (absorbed_program c.in_ok-injector.injector c.in_ok-injector.item c.args.arbiter.now c.absorb.new.self w.in-Ok.ensures.absorbed)
      | in-Err-Memory w ↦ rw w.result-is tt
    ]
