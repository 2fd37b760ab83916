use Rattle.std.proofs.Common.{[], sym, ap, ◌∙◌}
use Rattle.js_value.specs.declared.op.Make.TheVariants as make
use Rattle.js_ops.specs.Making.{make_of}
use Rattle.js_meaning.specs.State.{answered}
use Rattle.js_meaning.specs.Forms.{takes_effect}
use Rattle.js_frames.specs.Places.{plain_ground, place_of}
use Rattle.js_frames.proofs.Steps.{means_ok, becomes_ok, becomes}
use Rattle.js_frames.proofs.engine.Engine.take_effect.Goals as goal

pub returns-in-RegisterBThread : goal.returns-in-RegisterBThread
returns-in-RegisterBThread c = means_ok (plain_ground c.args.base.now) _ _ _ _ c.register.result c.register.ensures (λ s. ap (λ f. takes_effect (let m = c.args.self.now in m.budget) c.args.line f c.args.args.now s) (sym c.in-RegisterBThread.is))

pub register-requires : goal.register-requires
register-requires c = c.requires

pub returns-in-EnqueueExternalEvent : goal.returns-in-EnqueueExternalEvent
returns-in-EnqueueExternalEvent c = means_ok (plain_ground c.args.base.now) _ _ _ _ c.enqueue.result c.enqueue.ensures (λ s. ap (λ f. takes_effect (let m = c.args.self.now in m.budget) c.args.line f c.args.args.now s) (sym c.in-EnqueueExternalEvent.is))

pub enqueue-requires : goal.enqueue-requires
enqueue-requires c = c.requires

pub returns-in-SetInterruptHandler : goal.returns-in-SetInterruptHandler
returns-in-SetInterruptHandler c = means_ok (plain_ground c.args.base.now) _ _ _ _ c.handle.result c.handle.ensures (λ s. ap (λ f. takes_effect (let m = c.args.self.now in m.budget) c.args.line f c.args.args.now s) (sym c.in-SetInterruptHandler.is))

pub handle-requires : goal.handle-requires
handle-requires c = c.requires

pub returns-in-LogInfo : goal.returns-in-LogInfo
returns-in-LogInfo c = means_ok (plain_ground c.args.base.now) _ _ _ _ c.log.result c.log.ensures (λ s. ap (λ f. takes_effect (let m = c.args.self.now in m.budget) c.args.line f c.args.args.now s) (sym c.in-LogInfo.is))

pub log-requires : goal.log-requires
log-requires c = c.requires

pub returns-in-Event : goal.returns-in-Event
returns-in-Event c = becomes_ok (plain_ground c.args.base.now) (place_of c.args.self.now) _ _ c.answered.result c.requires (c.answered.ensures _ c.make.ensures) (λ s. ap (λ vs. answered c.args.line (make_of make.Event vs []) s) c.as_slice.ensures ∙ ap (λ f. takes_effect (let m = c.args.self.now in m.budget) c.args.line f c.args.args.now s) (sym c.in-Event.is))

pub returns-in-EventSet : goal.returns-in-EventSet
returns-in-EventSet c = becomes_ok (plain_ground c.args.base.now) (place_of c.args.self.now) _ _ c.answered-in-EventSet.result c.requires (c.answered-in-EventSet.ensures _ c.make-in-EventSet.ensures) (λ s. ap (λ vs. answered c.args.line (make_of make.Set vs []) s) c.as_slice-in-EventSet.ensures ∙ ap (λ f. takes_effect (let m = c.args.self.now in m.budget) c.args.line f c.args.args.now s) (sym c.in-EventSet.is))

pub returns-in-All : goal.returns-in-All
returns-in-All c = becomes_ok (plain_ground c.args.base.now) (place_of c.args.self.now) _ _ c.set.result c.requires c.set.ensures (λ s. ap (λ f. takes_effect (let m = c.args.self.now in m.budget) c.args.line f c.args.args.now s) (sym c.in-All.is))

pub returns-in-Nothing : goal.returns-in-Nothing
returns-in-Nothing c = becomes_ok (plain_ground c.args.base.now) (place_of c.args.self.now) _ _ c.set-in-Nothing.result c.requires c.set-in-Nothing.ensures (λ s. ap (λ f. takes_effect (let m = c.args.self.now in m.budget) c.args.line f c.args.args.now s) (sym c.in-Nothing.is))

pub returns-in-Assert : goal.returns-in-Assert
returns-in-Assert c = becomes_ok (plain_ground c.args.base.now) (place_of c.args.self.now) _ _ c.asserted.result c.requires c.asserted.ensures (λ s. ap (λ f. takes_effect (let m = c.args.self.now in m.budget) c.args.line f c.args.args.now s) (sym c.in-Assert.is))

pub returns-in-Sync : goal.returns-in-Sync
returns-in-Sync c = becomes (plain_ground c.args.base.now) (place_of c.args.self.now) _ _ _ c.requires c.ask.ensures (λ s. ap (λ f. takes_effect (let m = c.args.self.now in m.budget) c.args.line f c.args.args.now s) (sym c.in-Sync.is))

pub returns-in-Floor : goal.returns-in-Floor
returns-in-Floor c = becomes (plain_ground c.args.base.now) (place_of c.args.self.now) _ _ _ c.requires c.floored.ensures (λ s. ap (λ f. takes_effect (let m = c.args.self.now in m.budget) c.args.line f c.args.args.now s) (sym c.in-Floor.is))
