use Rattle.std.proofs.Common.{◌∙◌}
use Rattle.std.proofs.lemmas.Result.{on_ok_weaker}
use Rattle.std.specs.Vec.Iter.{into_iter_items}
use Rattle.js_frames.specs.Places.{plain_ground}
use Rattle.bp_floor.proofs.TurnLemmas.{apart_back, apart_joined}
use Rattle.bp_floor.proofs.board.Board.turn.Goals as goal

pub returns-in-Ok-clause-turned : goal.returns-in-Ok-clause-turned
returns-in-Ok-clause-turned c =
    let b = c.args.self.now in
    on_ok_weaker c.join_lines.result
    (λ h r e m.
    h ∙ apart_joined r b c.args.jobs.items (into_iter_items c.into_iter.result) c.replace-wave.result c.take-pending.result c.take-pending.new.self c.replace-wave.new.dest c.turn_apart.new.self
    c.take-pending.ensures.taken c.take-pending.ensures.left c.replace-wave.ensures.value c.into_iter.ensures.rest
    (c.in-Ok.ensures.turned r e (apart_back r (plain_ground c.args.ground.now) b c.take-pending.new.self c.replace-wave.new.dest c.args.jobs.items (into_iter_items c.into_iter.result) c.replace-wave.result c.replace-wave.ensures.value c.into_iter.ensures.rest m))) c.join_lines.ensures.joined
