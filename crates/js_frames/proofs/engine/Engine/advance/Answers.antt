use Rattle.std.proofs.Common.{◌≡◌, ℕ, ◌-◌, ◌≤◌, inl, inr, refl, subst, arith}
use Rattle.std.proofs.lemmas.Bool.{cases_lt}
use Rattle.js_meaning.specs.State as js
use Rattle.js_frames.specs.declared.step.Step.{Step}
use Rattle.js_frames.specs.declared.step.Step.TheVariants.{Begin, Give, Ask, Fail, Violate}
use Rattle.js_frames.specs.Places.{Place, plain_ground, place_of}
use Rattle.js_frames.specs.Frames.{future}
use Rattle.js_frames.specs.inner.Leads.{Within, Keeps, Ran, IsHeld, IsSettled, Advanced}
use Rattle.js_frames.proofs.Steps.{begun_one}
use Rattle.js_frames.proofs.engine.Engine.advance.Goals as goal

-- the machine in a slice of this many nodes
abbrev slice : Place → ℕ → Place
slice m nodes = record m { floor = m.fuel - nodes }

-- as many have begun as the fuel is less
ran : (base : js.Ground) (old new : Place) (nodes : ℕ) (before after : Step) → Keeps base (slice old nodes) before new after → Ran base old before new after (old.fuel - new.fuel)
unfolding future
ran base old new nodes before after k =
    let less : new.fuel ≤ old.fuel = k.within.less in
    record { same = k.same; same_mode = k.same_mode; same_budget = k.same_budget; fuel = omega arith; stack_fits = k.stack_fits; step_fits = k.step_fits }

few : (old new : Place) (nodes : ℕ) → Within (slice old nodes) new → old.fuel - new.fuel ≤ nodes
few old new nodes w = let least : old.fuel - nodes ≤ new.fuel = w.above (omega arith) in omega arith

-- only a node that must begin waits
held_unless : (step : Step) (fuel begun nodes : ℕ) → ((n : ℕ) → step ≡ Begin n → ⊥) → IsHeld step fuel begun nodes
held_unless (Begin n) fuel begun nodes h = absurd (h n refl)
held_unless (Give c) fuel begun nodes h = tt
held_unless (Ask s p l) fuel begun nodes h = tt
held_unless (Fail f l) fuel begun nodes h = tt
held_unless (Violate t) fuel begun nodes h = tt

-- at the end of the slice
held_last : (old new : Place) (nodes n : ℕ) → Within (slice old nodes) new → new.fuel ≤ new.floor → IsHeld (Begin n) new.fuel (old.fuel - new.fuel) nodes
held_last old new nodes n w low =
    let least : old.fuel - nodes ≤ new.fuel = w.above (omega arith) in
    let floor : new.floor ≡ old.fuel - nodes = w.same_floor in
    elim (cases_lt nodes old.fuel) [ inl h ↦ inr (omega arith) | inr h ↦ inl (omega arith) ]

advanced : (base : js.Ground) (old new : Place) (nodes : ℕ) (before after : Step) → Keeps base (slice old nodes) before new after → IsSettled after new.stack → IsHeld after new.fuel (old.fuel - new.fuel) nodes → (begun : ℕ) × Advanced base old before new after nodes begun
advanced base old new nodes before after k settled held = (old.fuel - new.fuel, record { few = few old new nodes k.within; ran = ran base old new nodes before after k; settled = settled; held = held })

pub loop-self-preserved : goal.loop-self-preserved
loop-self-preserved c =
    begun_one (plain_ground c.args.base.now) (slice (place_of c.args.self.now) c.args.nodes) (place_of c.loop-self.self) (place_of c.begin.new.self) (place_of c.settle.new.self) c.args.step c.in_ok-next.next (Begin c.in-Begin-last.number) c.loop-self.current c.loop-self.invariant (omega arith) c.in_ok-next.ensures
    (subst (Keeps (plain_ground c.args.base.now) (place_of c.begin.new.self) c.in_ok-next.next (place_of c.settle.new.self)) c.in-Begin-last.is c.in_ok-last.ensures.keeps)

pub returns-in_default : goal.returns-in_default
returns-in_default c =
    let base = plain_ground c.args.base.now in
    let old = place_of c.args.self.now in
    let new = place_of c.settle_once.new.self in
    advanced base old new c.args.nodes c.args.step c.in_ok-settled.settled
    (subst (λ k. Keeps base (record old { floor = k }) c.args.step new c.in_ok-settled.settled) c.saturating_sub-self.ensures c.in_ok-settled.ensures.keeps)
    c.in_ok-settled.ensures.settled (held_unless _ _ _ _ c.in_default.not-Begin)

pub returns-in_default-last : goal.returns-in_default-last
returns-in_default-last c =
    advanced (plain_ground c.args.base.now) (place_of c.args.self.now) (place_of c.settle.new.self) c.args.nodes c.args.step c.in_ok-last.last
    (begun_one (plain_ground c.args.base.now) (slice (place_of c.args.self.now) c.args.nodes) (place_of c.loop-self.self) (place_of c.begin.new.self) (place_of c.settle.new.self) c.args.step c.in_ok-next.next c.in_ok-last.last c.loop-self.current c.loop-self.invariant (omega arith) c.in_ok-next.ensures c.in_ok-last.ensures.keeps)
    c.in_ok-last.ensures.settled (held_unless _ _ _ _ c.in_default-last.not-Begin)

pub returns : goal.returns
returns c =
    advanced (plain_ground c.args.base.now) (place_of c.args.self.now) (place_of c.loop-self.self) c.args.nodes c.args.step (Begin c.loop-self.current) c.loop-self.invariant tt
    (held_last (place_of c.args.self.now) (place_of c.loop-self.self) c.args.nodes c.loop-self.current c.loop-self.invariant.within (omega arith))
