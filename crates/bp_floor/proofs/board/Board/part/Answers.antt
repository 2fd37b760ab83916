use Rattle.std.proofs.Common.{map}
use Rattle.std.proofs.lemmas.Result.{on_ok_weaker}
use Rattle.js_frames.specs.Places.{plain_effects}
use Rattle.bp_meaning.specs.After.{effect_of}
use Rattle.bp_run.specs.Settling.{place_of}
use Rattle.bp_floor.specs.inner.Boards.{stand_of}
use Rattle.bp_floor.specs.inner.Entries.{entry_seen}
use Rattle.bp_floor.proofs.Onward.{part_within}
use Rattle.bp_floor.proofs.board.Board.part.Goals as goal

pub returns-then-is_some-2-clause-keeps : goal.returns-then-is_some-2-clause-keeps
returns-then-is_some-2-clause-keeps c = λ r first on low k. c.in_ok-effects_of.ensures.keeps r first on k

pub ending-requires : goal.ending-requires
ending-requires c =
    part_within (place_of (stand_of c.args.self.now) (entry_seen c.args.entry.now)) (map effect_of (plain_effects c.args.part.effects)) c.args.self.now c.effects_of.new.self _
    c.in_ok-effects_of.ensures.merged c.requires

pub returns-clause-keeps : goal.returns-clause-keeps
returns-clause-keeps c = on_ok_weaker c.ending.result (λ h r first on low k. h r first low (c.in_ok-effects_of.ensures.keeps r first on k)) c.ending.ensures.keeps
