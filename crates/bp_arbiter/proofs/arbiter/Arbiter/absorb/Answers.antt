use Rattle.std.proofs.Common.{◌∙◌, ap, sym}
use Rattle.bp_floor.specs.declared.phase.Phase.TheVariants.{Rest}
use Rattle.bp_arbiter.specs.Arbiters.{PlainArbiter}
use Rattle.bp_arbiter.proofs.Enterings.{at_reserved, entered_sound, entered_stands, entered_same}
use Rattle.bp_arbiter.proofs.arbiter.Arbiter.absorb.Goals as goal

pub invariant_of-self-2 : goal.invariant_of-self-2
invariant_of-self-2 c =
    let r = c.self.inside.run in
    let a = c.args.self.now in
    let i = at_reserved Rest a r c.reserve.new.self c.self.inside.phase c.self.inside.broken c.reserve.ensures.items c.self.view_is c.requires.rest c.if-self.false c.self.invariant c.keeps.ensures in
    let room = sym c.fits.ensures ∙ c.if-not-fits.false in
    let rest = ap (λ (x : PlainArbiter). x.phase) c.self.view_is ∙ c.requires.rest in
    entered_sound a (record r { records = c.reserve.new.self }) i c.args.injector c.args.item c.requires.read c.requires.sound room c.self.inside.phase c.self.inside.broken rest c.if-self.false c.absorb.new.self c.absorb.ensures.seed c.absorb.result c.absorb.ensures.absorbed c.absorb.ensures.same

pub returns-clause-stands : goal.returns-clause-stands
returns-clause-stands c =
    let r = c.self.inside.run in
    let a = c.args.self.now in
    let i = at_reserved Rest a r c.reserve.new.self c.self.inside.phase c.self.inside.broken c.reserve.ensures.items c.self.view_is c.requires.rest c.if-self.false c.self.invariant c.keeps.ensures in
    let room = sym c.fits.ensures ∙ c.if-not-fits.false in
    let rest = ap (λ (x : PlainArbiter). x.phase) c.self.view_is ∙ c.requires.rest in
    entered_stands a (record r { records = c.reserve.new.self }) i c.args.injector c.args.item c.requires.read c.requires.sound room c.self.inside.phase c.self.inside.broken rest c.if-self.false c.absorb.new.self c.absorb.ensures.seed c.absorb.result c.absorb.ensures.absorbed

pub returns-clause-same : goal.returns-clause-same
returns-clause-same c =
    let r = c.self.inside.run in
    let a = c.args.self.now in
    let i = at_reserved Rest a r c.reserve.new.self c.self.inside.phase c.self.inside.broken c.reserve.ensures.items c.self.view_is c.requires.rest c.if-self.false c.self.invariant c.keeps.ensures in
    let room = sym c.fits.ensures ∙ c.if-not-fits.false in
    let rest = ap (λ (x : PlainArbiter). x.phase) c.self.view_is ∙ c.requires.rest in
    entered_same a (record r { records = c.reserve.new.self }) i c.args.injector c.args.item c.requires.read c.requires.sound room c.self.inside.phase c.self.inside.broken rest c.if-self.false c.absorb.new.self c.absorb.ensures.seed c.absorb.result c.absorb.ensures.same
