use Rattle.std.proofs.Common.{◌≡◌, ◌++◌, List, [], subst, true, false}
use Rattle.js_meaning.specs.Bodies.{Origin}
use Rattle.bp_log.specs.declared.trace.Line.{Line}
use Rattle.bp_run.specs.Configuration.{Configuration}
use Rattle.bp_run.specs.Settling.{Pair}
use Rattle.bp_floor.specs.Floors.{is_idle}
use Rattle.bp_arbiter.specs.Arbiters.{PlainArbiter, StandsFor, StandsSomewhere, Recounts, is_lent, stand_in}
use Rattle.bp_arbiter.specs.Runs.{seen}
use Rattle.bp_arbiter.proofs.Told.{stands_tells}
use Rattle.bp_arbiter.proofs.Takes.{exact_now, somewhere}
use Rattle.bp_arbiter.proofs.arbiter.Arbiter.keeps.Goals as goal

pub returns-clause-stands : goal.returns-clause-stands
returns-clause-stands c =
    subst (λ (a : PlainArbiter). a.broken ≡ false → is_lent a.phase ≡ false → StandsSomewhere a) c.self.view_is
    (somewhere (seen c.self.inside.run c.self.inside.phase c.self.inside.broken) (c.self.invariant).standing)

pub returns-clause-tells : goal.returns-clause-tells
returns-clause-tells c = stands_tells c.args.self.now

pub returns-clause-exact : goal.returns-clause-exact
returns-clause-exact c =
    subst
    (λ (a : PlainArbiter). (taken : List Line) (p : Pair Origin) → StandsFor a [] taken p → is_idle a.phase ≡ true → (d : Configuration Origin) → Recounts a d → d.stand.lines ≡ taken ++ (stand_in a).lines)
    c.self.view_is
    (exact_now (seen c.self.inside.run c.self.inside.phase c.self.inside.broken) (c.self.invariant).standing c.keeps.ensures)
