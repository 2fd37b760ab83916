use Rattle.std.proofs.Common.{subst}
use Rattle.std.proofs.lemmas.Result.{on_ok_weaker}
use Rattle.bp_floor.specs.declared.entry.Entry as entry
use Rattle.bp_floor.specs.inner.Entries.{entry_seen}
use Rattle.bp_floor.specs.inner.Kept.{IsBelow}
use Rattle.bp_floor.proofs.board.Board.finish.Goals as goal

pub returns-in_ok-say-in-Runs-clause-keeps : goal.returns-in_ok-say-in-Runs-clause-keeps
returns-in_ok-say-in-Runs-clause-keeps c =
    on_ok_weaker c.retire.result
    (λ h r first low k. h r first (subst (λ (x : entry.Entry). IsBelow first (entry_seen x)) c.in-Runs.is low) (c.in_ok-say-in-Runs.ensures.keeps r first k)) c.retire.ensures.keeps

pub returns-in_ok-name-in-Stops-clause-keeps : goal.returns-in_ok-name-in-Stops-clause-keeps
returns-in_ok-name-in-Stops-clause-keeps c = on_ok_weaker c.say-in-Stops.result (λ h r first low k. h r first k) c.say-in-Stops.ensures.keeps
