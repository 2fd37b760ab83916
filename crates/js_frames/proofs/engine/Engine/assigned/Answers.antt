use Rattle.std.proofs.Common.{refl, Ok}
use Rattle.js_value.specs.Views.{plain_value}
use Rattle.js_meaning.specs.Expressions.{writes}
use Rattle.js_frames.specs.Places.{plain_ground, place_of}
use Rattle.js_frames.proofs.Steps.{on_ok}
use Rattle.js_frames.proofs.SlotLemmas.{early, declared_goes}
use Rattle.js_frames.proofs.engine.Engine.assigned.Goals as goal

pub returns-in_default : goal.returns-in_default
returns-in_default c = early (plain_ground c.args.base.now) (place_of c.args.self.now) c.args.slot c.args.line c.requires _ c.in_default.ensures

pub write-requires : goal.write-requires
write-requires c = c.requires

pub returns : goal.returns
returns c = on_ok c.write.result (λ step l. declared_goes (plain_ground c.args.base.now) (place_of c.args.self.now) c.args.slot c.args.line c.requires (λ _. writes c.args.line c.args.slot (Ok (plain_value c.args.value))) (plain_value c.in-Some._held.now) _ step c.in-Some.ensures l) (c.write.ensures (Ok (plain_value c.args.value)) refl)
