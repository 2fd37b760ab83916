use Rattle.std.proofs.Common.{◌≡◌, rules}
use Rattle.bp_log.specs.declared.record.Record.TheVariants.{End}
use Rattle.bp_floor.specs.declared.phase.Phase.TheVariants.{Rest}
use Rattle.bp_replay.proofs.Steps.{stays_over, followed_over}
use Rattle.bp_replay.proofs.following.follow.Goals as goal

pub returns-clause-followed : goal.returns-clause-followed
returns-clause-followed c =
    let moved : (c.args.arbiter.now.phase ≡ Rest) → ⊥ = search rules in
    λ d t.
    let o = stays_over d c.args.arbiter.now t moved in
    followed_over d c.args.arbiter.now c.args.found c.args.number c.compare.result o.0 o.1 o.2 (c.compare.ensures d.records (End o.0) o.1)
