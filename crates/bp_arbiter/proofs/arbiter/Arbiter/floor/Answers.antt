use Rattle.std.proofs.Common.{◌≡◌, subst, true, false}
use Rattle.js_meaning.specs.Bodies.{Origin}
use Rattle.bp_run.specs.Configuration.{Configuration}
use Rattle.bp_floor.specs.Floors.{is_idle}
use Rattle.bp_arbiter.specs.Arbiters.{PlainArbiter, Recounts, Shows, stand_in}
use Rattle.bp_arbiter.specs.Runs.{seen}
use Rattle.bp_arbiter.proofs.Takes.{shows_now}
use Rattle.bp_arbiter.proofs.arbiter.Arbiter.floor.Goals as goal

pub returns-clause-shows : goal.returns-clause-shows
returns-clause-shows c =
    subst (λ (a : PlainArbiter). a.broken ≡ false → is_idle a.phase ≡ true → (d : Configuration Origin) → Recounts a d → Shows (stand_in a) d.stand) c.self.view_is
    (shows_now (seen c.self.inside.run c.self.inside.phase c.self.inside.broken) (c.self.invariant).standing c.keeps.ensures)
