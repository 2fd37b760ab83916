use Rattle.std.proofs.Common.{◌≡◌, ◌∙◌, arith, length, refl, rules}
use Rattle.bp_floor.specs.declared.phase.Phase.TheVariants.{Ready}
use Rattle.bp_arbiter.specs.Arbiters.{stand_in}
use Rattle.bp_turns.proofs.Turned.{settles_refl, settles_trans, settles_somewhere}
use Rattle.bp_turns.proofs.Measure.{falls}
use Rattle.bp_turns.proofs.settling.settle.Goals as goal

pub loop-alloc-init : goal.loop-alloc-init
loop-alloc-init g c = record { stands = c.requires.stands; settles = settles_refl c.args.arbiter.now; records = omega arith; program = refl }

pub loop-alloc-smaller : goal.loop-alloc-smaller
loop-alloc-smaller g c =
    let u = c.loop-alloc.invariant.stands in
    let ready : c.loop-alloc.arbiter.phase ≡ Ready = search rules in
    falls c.loop-alloc.arbiter.phase c.turn.new.arbiter.phase (length (stand_in c.loop-alloc.arbiter).threads) (length (stand_in c.turn.new.arbiter).threads) ready
    (c.keeps.ensures.few (u.stands).whole) (λ e. c.in_ok-turn.ensures.grows (c.in_ok-turn.ensures.phase ∙ e))

pub loop-alloc-preserved : goal.loop-alloc-preserved
loop-alloc-preserved g c =
    let i = c.loop-alloc.invariant in
    let ready : c.loop-alloc.arbiter.phase ≡ Ready = search rules in
    let before = i.records in
    let after = c.in_ok-turn.ensures.records in
    record {
      stands = settles_somewhere c.loop-alloc.arbiter c.turn.new.arbiter c.in_ok-turn.ensures.settles i.stands;
      settles = settles_trans c.args.arbiter.now c.loop-alloc.arbiter c.turn.new.arbiter ready i.settles c.in_ok-turn.ensures.settles;
      records = omega (arith, before, after);
      program = c.turn.ensures.program ∙ i.program;
    }
