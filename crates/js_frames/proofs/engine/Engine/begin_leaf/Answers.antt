use Rattle.std.proofs.Common.{sym, ap, ◌∙◌, arith}
use Rattle.std.specs.Prelude.{option_map}
use Rattle.js_value.specs.Views.{plain_value}
use Rattle.js_frames.specs.Places.{plain_ground, place_of}
use Rattle.js_frames.proofs.GivingLemmas.{gave_leaf}
use Rattle.js_frames.proofs.LeafLemmas.{leaf_gives}
use Rattle.js_frames.proofs.engine.Engine.begin_leaf.Goals as goal

pub returns-in-Some-clause-some : goal.returns-in-Some-clause-some
returns-in-Some-clause-some c =
    gave_leaf (plain_ground c.args.base.now) (place_of c.args.self.now) c.args.part (plain_value c.in-Some.value) _ (leaf_gives (plain_ground c.args.base.now) (place_of c.args.self.now) c.args.part _ (sym c.in_ok-found.ensures ∙ ap (option_map plain_value) c.in-Some.is)) (omega arith)
