use Rattle.std.proofs.Common.{List, sym, ap, map}
use Rattle.js_frames.specs.Places.{plain_ground}
use Rattle.js_meaning.specs.State.{Effect}
use Rattle.bp_meaning.specs.After.{effect_of}
use Rattle.bp_floor.specs.inner.Entries.{entry_seen}
use Rattle.bp_floor.proofs.ReturnLemmas.{puts_kept, taken}
use Rattle.bp_floor.proofs.board.Board.back.Goals as goal

pub returns-clause-puts : goal.returns-clause-puts
returns-clause-puts c = λ js.
    let t = c.take_effects-effects.ensures in
    puts_kept (entry_seen c.args.entry.now) c.args.job c.take_effects-effects.new.self js (plain_ground c.args.ground.now) (plain_ground c.keep.new.ground) c.args.self.now c.keep.new.self _ c.requires.body
    (taken c.args.job c.take_effects-effects.new.self t.left t.program t.stands) c.in_ok-keep.ensures.kept (sym c.keep.ensures.program) (ap (λ (es : List Effect). map effect_of es) t.given) c.in_ok-ending.ensures
