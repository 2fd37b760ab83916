use Rattle.std.proofs.Common.{◌≡◌, ◌≤◌, length, refl, rules, false, subst, sym}
use Rattle.std.proofs.lemmas.Result.{err_from_is_err_and}
use Rattle.bp_floor.specs.declared.phase.Phase.TheVariants.{Lent}
use Rattle.bp_log.specs.declared.limits.TheConstants.{MOST_THREADS}
use Rattle.bp_arbiter.specs.Arbiters.{PlainArbiter, stand_in}
use Rattle.bp_turns.proofs.Settled.{settles_none, settles_on, cut_on, kept_on, here_on, settled_here, whole_here}
use Rattle.bp_turns.proofs.Measure.{core_falls}
use Rattle.bp_turns.proofs.cores.settle_core.Goals as goal

pub loop-alloc-init : goal.loop-alloc-init
loop-alloc-init g c = record { somewhere = c.requires.somewhere; settles = settles_none c.args.core.now; kept = record { program = refl; options = refl }; inside = c.requires.inside }

pub turn_core-requires : goal.turn_core-requires
turn_core-requires g c =
    let i = c.loop-alloc.invariant in
    let lent : c.loop-alloc.core.arbiter.phase ≡ Lent = search rules in
    record { can_carry = c.requires.can_carry; lent = lent; inside = i.inside; somewhere = i.somewhere }

pub loop-alloc-smaller : goal.loop-alloc-smaller
loop-alloc-smaller g c =
    let i = c.loop-alloc.invariant in
    let lent : c.loop-alloc.core.arbiter.phase ≡ Lent = search rules in
    core_falls c.loop-alloc.core.arbiter.phase c.turn_core.new.core.arbiter.phase (length (stand_in c.loop-alloc.core.arbiter).threads) (length (stand_in c.turn_core.new.core.arbiter).threads) lent
    (subst (λ (a : PlainArbiter). length (stand_in a).threads ≤ MOST_THREADS) c.arbiter-in-loop-alloc.ensures
    (c.keeps.ensures.few (subst (λ (a : PlainArbiter). a.broken ≡ false) (sym c.arbiter-in-loop-alloc.ensures) (whole_here c.loop-alloc.core i.somewhere)))) c.in_ok-turn_core.ensures.grows

pub loop-alloc-preserved : goal.loop-alloc-preserved
loop-alloc-preserved g c =
    let i = c.loop-alloc.invariant in
    let lent : c.loop-alloc.core.arbiter.phase ≡ Lent = search rules in
    let e = c.in_ok-turn_core.ensures in
    record {
      somewhere = here_on c.loop-alloc.core c.turn_core.new.core e.settles i.somewhere;
      settles = settles_on c.args.core.now c.loop-alloc.core c.turn_core.new.core lent i.settles e.settles;
      kept = kept_on c.args.core.now.arbiter c.loop-alloc.core.arbiter c.turn_core.new.core.arbiter i.kept c.turn_core.ensures.kept;
      inside = e.inside;
    }

pub returns-in_err-turn_core-clause-cut : goal.returns-in_err-turn_core-clause-cut
returns-in_err-turn_core-clause-cut g c =
    let p = err_from_is_err_and c.from_residual.result c.from_residual.ensures.1 in
    let i = c.loop-alloc.invariant in
    let lent : c.loop-alloc.core.arbiter.phase ≡ Lent = search rules in
    rw p.1 (cut_on c.args.core.now c.loop-alloc.core c.turn_core.new.core lent i.settles c.in_err-turn_core.ensures.cut)

pub returns-in_err-turn_core-clause-kept : goal.returns-in_err-turn_core-clause-kept
returns-in_err-turn_core-clause-kept g c =
    let i = c.loop-alloc.invariant in
    kept_on c.args.core.now.arbiter c.loop-alloc.core.arbiter c.turn_core.new.core.arbiter i.kept c.turn_core.ensures.kept

pub returns-clause-settled : goal.returns-clause-settled
returns-clause-settled g c =
    let i = c.loop-alloc.invariant in
    let not : ¬ (c.loop-alloc.core.arbiter.phase ≡ Lent) = search rules in
    settled_here c.loop-alloc.core i.somewhere not
