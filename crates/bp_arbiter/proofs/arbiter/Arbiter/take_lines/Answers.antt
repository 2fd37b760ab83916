use Rattle.bp_arbiter.specs.Runs.{seen}
use Rattle.bp_arbiter.proofs.Takes.{taken_sound}
use Rattle.bp_arbiter.proofs.arbiter.Arbiter.take_lines.Goals as goal

pub invariant_of-self : goal.invariant_of-self
invariant_of-self c =
    let r = c.self.inside.run in
    let e = c.take_lines.ensures in
    taken_sound r.draw.seed (seen r c.self.inside.phase c.self.inside.broken) c.take_lines.new.self c.take_lines.result e.taken e.phase e.broken e.ground e.options c.self.invariant
