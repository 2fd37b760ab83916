use Rattle.std.proofs.Common.{ap, subst}
use Rattle.js_frames.specs.declared.step.Step.TheVariants.{Give}
use Rattle.js_frames.specs.Places.{plain_ground, place_of}
use Rattle.js_frames.specs.Fits.{StackFits}
use Rattle.js_frames.specs.inner.Leads.{Keeps}
use Rattle.js_frames.proofs.Steps.{gives_on, settled_unless, fits_below, fits_last}
use Rattle.js_frames.proofs.engine.Engine.unwind.Goals as goal

pub give-requires-clause-frame : goal.give-requires-clause-frame
give-requires-clause-frame c = fits_last (let b = c.args.base.now in b.program) _ _ (subst (StackFits (let b = c.args.base.now in b.program)) c.in-Some.ensures.items c.loop-frame.invariant.stack_fits)

pub give-requires-clause-fits : goal.give-requires-clause-fits
give-requires-clause-fits c = fits_below (let b = c.args.base.now in b.program) _ c.in-Some.frame (subst (StackFits (let b = c.args.base.now in b.program)) c.in-Some.ensures.items c.loop-frame.invariant.stack_fits)

pub loop-frame-preserved : goal.loop-frame-preserved
loop-frame-preserved c =
    let base = plain_ground c.args.base.now in
    let at = place_of c.loop-frame.self in
    let mid = record (place_of c.loop-frame.self) { stack = c.pop.new.self.items } in
    subst (Keeps base (place_of c.args.self.now) (Give c.args.completion) (place_of c.give.new.self)) c.in-Give.is
    (gives_on base (place_of c.args.self.now) at mid (place_of c.give.new.self) (Give c.args.completion) c.in_ok-other.other c.in-Some.frame c.loop-frame.current (ap (λ st. record (place_of c.loop-frame.self) { stack = st }) c.in-Some.ensures.items) c.loop-frame.invariant c.in_ok-other.ensures)

pub returns-in_default-2 : goal.returns-in_default-2
returns-in_default-2 c =
    let base = plain_ground c.args.base.now in
    let at = place_of c.loop-frame.self in
    let mid = record (place_of c.loop-frame.self) { stack = c.pop.new.self.items } in
    record {
      keeps = gives_on base (place_of c.args.self.now) at mid (place_of c.give.new.self) (Give c.args.completion) c.in_ok-other.other c.in-Some.frame c.loop-frame.current (ap (λ st. record (place_of c.loop-frame.self) { stack = st }) c.in-Some.ensures.items) c.loop-frame.invariant c.in_ok-other.ensures;
      settled = settled_unless _ _ c.in_default-2.not-Give;
    }
