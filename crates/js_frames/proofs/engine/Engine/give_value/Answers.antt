use Rattle.std.proofs.Common.{refl, sym, ap}
use Rattle.js_value.specs.Views.{plain_value}
use Rattle.js_frames.specs.declared.frame.Part.TheVariants as part
use Rattle.js_frames.specs.Places.{plain_ground, place_of, here}
use Rattle.js_frames.specs.Frames.{rest}
use Rattle.js_frames.proofs.Steps.{part_means, left}
use Rattle.js_frames.proofs.engine.Engine.give_value.Goals as goal

pub returns-in-First : goal.returns-in-First
unfolding rest
returns-in-First c = part_means (plain_ground c.args.base.now) (place_of c.args.self.now) c.args.part (part.First c.in-First.number) (plain_value c.args.value) c.in-First.is (place_of c.first.new.self) c.first.result _ c.first.ensures (λ s. refl)

pub returns-in-Second : goal.returns-in-Second
unfolding rest
returns-in-Second c = part_means (plain_ground c.args.base.now) (place_of c.args.self.now) c.args.part (part.Second c.in-Second.number c.in-Second.first) (plain_value c.args.value) c.in-Second.is (place_of c.second.new.self) c.second.result _ c.second.ensures (λ s. refl)

pub returns-in-Assigned : goal.returns-in-Assigned
unfolding rest
returns-in-Assigned c = part_means (plain_ground c.args.base.now) (place_of c.args.self.now) c.args.part (part.Assigned c.in-Assigned.slot c.in-Assigned.line) (plain_value c.args.value) c.in-Assigned.is (place_of c.assigned.new.self) c.assigned.result _ c.assigned.ensures (λ s. refl)

pub returns-in-Statements : goal.returns-in-Statements
unfolding rest
returns-in-Statements c = part_means (plain_ground c.args.base.now) (place_of c.args.self.now) c.args.part (part.Statements c.in-Statements.sequence c.in-Statements.place) (plain_value c.args.value) c.in-Statements.is (place_of c.go_on.new.self) c.go_on.result _ c.go_on.ensures (λ s. refl)

pub returns-in-Tested : goal.returns-in-Tested
unfolding rest
returns-in-Tested c = part_means (plain_ground c.args.base.now) (place_of c.args.self.now) c.args.part (part.Tested c.in-Tested.cycle) (plain_value c.args.value) c.in-Tested.is (place_of c.tested.new.self) c.tested.result _ c.tested.ensures (λ s. refl)

pub returns-in-Between : goal.returns-in-Between
unfolding rest
returns-in-Between c = part_means (plain_ground c.args.base.now) (place_of c.args.self.now) c.args.part (part.Between c.in-Between.cycle) (plain_value c.args.value) c.in-Between.is (place_of c.test.new.self) c.test.result _ c.test.ensures (λ s. refl)

pub returns-in-Dropped : goal.returns-in-Dropped
unfolding rest
returns-in-Dropped c = left (plain_ground c.args.base.now) (place_of c.args.self.now) _ _ c.leave.ensures c.requires.fits (λ s. ap (λ q. rest (here c.args.base.now c.args.self.now) q (plain_value c.args.value) s) (sym c.in-Dropped.is))
