use Rattle.js_value.specs.Views.{plain_value}
use Rattle.js_frames.specs.Places.{plain_ground, place_of}
use Rattle.js_frames.proofs.VariableLemmas.{declared_on}
use Rattle.js_frames.proofs.engine.Engine.declared.Goals as goal

pub returns : goal.returns
returns c = declared_on (plain_ground c.args.base.now) (place_of c.args.self.now) (place_of c.put.new.self) _ c.args.number c.args.variable c.args.place (plain_value c.args.value) c.go_on_declaring.result c.put.ensures c.go_on_declaring.ensures
