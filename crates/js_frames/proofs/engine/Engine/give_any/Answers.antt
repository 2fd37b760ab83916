use Rattle.std.proofs.Common.{refl, sym, ap, subst}
use Rattle.js_value.specs.Views.{plain_value}
use Rattle.js_frames.specs.declared.frame.Part.TheVariants as part
use Rattle.js_frames.specs.Places.{plain_ground, place_of, here}
use Rattle.js_frames.specs.Frames.{rest}
use Rattle.js_frames.specs.Fits.{PartFits}
use Rattle.js_frames.proofs.Steps.{part_means, picks, left, completes}
use Rattle.js_frames.proofs.engine.Engine.give_any.Goals as goal

pub returns-in-First : goal.returns-in-First
unfolding rest
returns-in-First c = part_means (plain_ground c.args.base.now) (place_of c.args.self.now) c.args.part (part.First c.in-First.number) (plain_value c.args.value) c.in-First.is (place_of c.first.new.self) c.first.result _ c.first.ensures (λ s. refl)

pub returns-in-Second : goal.returns-in-Second
unfolding rest
returns-in-Second c = part_means (plain_ground c.args.base.now) (place_of c.args.self.now) c.args.part (part.Second c.in-Second.number c.in-Second.first) (plain_value c.args.value) c.in-Second.is (place_of c.second.new.self) c.second.result _ c.second.ensures (λ s. refl)

pub returns-in-Further : goal.returns-in-Further
unfolding rest
returns-in-Further c = part_means (plain_ground c.args.base.now) (place_of c.args.self.now) c.args.part (part.Further c.in-Further.number c.in-Further.done) (plain_value c.args.value) c.in-Further.is (place_of c.further.new.self) c.further.result _ c.further.ensures (λ s. refl)

pub returns-in-Assigned : goal.returns-in-Assigned
unfolding rest
returns-in-Assigned c = part_means (plain_ground c.args.base.now) (place_of c.args.self.now) c.args.part (part.Assigned c.in-Assigned.slot c.in-Assigned.line) (plain_value c.args.value) c.in-Assigned.is (place_of c.assigned.new.self) c.assigned.result _ c.assigned.ensures (λ s. refl)

pub returns-in-AssignedWith : goal.returns-in-AssignedWith
unfolding rest
returns-in-AssignedWith c = part_means (plain_ground c.args.base.now) (place_of c.args.self.now) c.args.part (part.AssignedWith c.in-AssignedWith.op c.in-AssignedWith.old c.in-AssignedWith.slot c.in-AssignedWith.line) (plain_value c.args.value) c.in-AssignedWith.is (place_of c.assigned_with.new.self) c.assigned_with.result _ c.assigned_with.ensures (λ s. refl)

pub returns-in-Declared : goal.returns-in-Declared
unfolding rest
returns-in-Declared c = part_means (plain_ground c.args.base.now) (place_of c.args.self.now) c.args.part (part.Declared c.in-Declared.number c.in-Declared.variable c.in-Declared.place) (plain_value c.args.value) c.in-Declared.is (place_of c.declared.new.self) c.declared.result _ c.declared.ensures (λ s. refl)

pub returns-in-Statements : goal.returns-in-Statements
unfolding rest
returns-in-Statements c = part_means (plain_ground c.args.base.now) (place_of c.args.self.now) c.args.part (part.Statements c.in-Statements.sequence c.in-Statements.place) (plain_value c.args.value) c.in-Statements.is (place_of c.go_on.new.self) c.go_on.result _ c.go_on.ensures (λ s. refl)

pub returns-in-Started : goal.returns-in-Started
unfolding rest
returns-in-Started c = part_means (plain_ground c.args.base.now) (place_of c.args.self.now) c.args.part (part.Started c.in-Started.cycle) (plain_value c.args.value) c.in-Started.is (place_of c.test.new.self) c.test.result _ c.test.ensures (λ s. refl)

pub returns-in-Tested : goal.returns-in-Tested
unfolding rest
returns-in-Tested c = part_means (plain_ground c.args.base.now) (place_of c.args.self.now) c.args.part (part.Tested c.in-Tested.cycle) (plain_value c.args.value) c.in-Tested.is (place_of c.tested.new.self) c.tested.result _ c.tested.ensures (λ s. refl)

pub returns-in-Between : goal.returns-in-Between
unfolding rest
returns-in-Between c = part_means (plain_ground c.args.base.now) (place_of c.args.self.now) c.args.part (part.Between c.in-Between.cycle) (plain_value c.args.value) c.in-Between.is (place_of c.test-in-Between.new.self) c.test-in-Between.result _ c.test-in-Between.ensures (λ s. refl)

pub returns-in-Listed : goal.returns-in-Listed
unfolding rest
returns-in-Listed c = part_means (plain_ground c.args.base.now) (place_of c.args.self.now) c.args.part (part.Listed c.in-Listed.slot c.in-Listed.body c.in-Listed.line) (plain_value c.args.value) c.in-Listed.is (place_of c.listed.new.self) c.listed.result _ c.listed.ensures (λ s. refl)

pub returns-in-Walked : goal.returns-in-Walked
unfolding rest
returns-in-Walked c = part_means (plain_ground c.args.base.now) (place_of c.args.self.now) c.args.part (part.Walked c.in-Walked.walk) (plain_value c.args.value) c.in-Walked.is (place_of c.walk.new.self) c.walk.result _ c.walk.ensures (λ s. refl)

pub returns-in-Or : goal.returns-in-Or
unfolding rest
returns-in-Or c =
    let g = here c.args.base.now c.args.self.now in
    let h = subst (PartFits (let b = c.args.base.now in b.program)) c.in-Or.is c.requires.part in
    picks (plain_ground c.args.base.now) (place_of c.args.self.now) _ _ _ c.requires.fits (c.or.ensures (let b = c.args.base.now in b.program) h) (λ s. ap (λ q. rest g q (plain_value c.args.value) s) (sym c.in-Or.is))

pub returns-in-And : goal.returns-in-And
unfolding rest
returns-in-And c =
    let g = here c.args.base.now c.args.self.now in
    let h = subst (PartFits (let b = c.args.base.now in b.program)) c.in-And.is c.requires.part in
    picks (plain_ground c.args.base.now) (place_of c.args.self.now) _ _ _ c.requires.fits (c.and.ensures (let b = c.args.base.now in b.program) h) (λ s. ap (λ q. rest g q (plain_value c.args.value) s) (sym c.in-And.is))

pub returns-in-Choice : goal.returns-in-Choice
unfolding rest
returns-in-Choice c =
    let g = here c.args.base.now c.args.self.now in
    let h = subst (PartFits (let b = c.args.base.now in b.program)) c.in-Choice.is c.requires.part in
    picks (plain_ground c.args.base.now) (place_of c.args.self.now) _ _ _ c.requires.fits (c.choose.ensures (let b = c.args.base.now in b.program) h.0 h.1) (λ s. ap (λ q. rest g q (plain_value c.args.value) s) (sym c.in-Choice.is))

pub returns-in-When : goal.returns-in-When
unfolding rest
returns-in-When c =
    let g = here c.args.base.now c.args.self.now in
    let h = subst (PartFits (let b = c.args.base.now in b.program)) c.in-When.is c.requires.part in
    picks (plain_ground c.args.base.now) (place_of c.args.self.now) _ _ _ c.requires.fits (c.when.ensures (let b = c.args.base.now in b.program) h) (λ s. ap (λ q. rest g q (plain_value c.args.value) s) (sym c.in-When.is))

pub returns-in-Dropped : goal.returns-in-Dropped
unfolding rest
returns-in-Dropped c = left (plain_ground c.args.base.now) (place_of c.args.self.now) _ _ c.leave.ensures c.requires.fits (λ s. ap (λ q. rest (here c.args.base.now c.args.self.now) q (plain_value c.args.value) s) (sym c.in-Dropped.is))

pub returns-in-Returned : goal.returns-in-Returned
unfolding rest
returns-in-Returned c = completes (plain_ground c.args.base.now) (place_of c.args.self.now) _ _ c.requires.fits (λ s. ap (λ q. rest (here c.args.base.now c.args.self.now) q (plain_value c.args.value) s) (sym c.in-Returned.is))
