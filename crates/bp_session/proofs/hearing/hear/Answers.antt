use Rattle.std.proofs.Common.{rules, refl, ◌≡◌, ◌+◌, true, length, ◌∙◌, arith}
use Rattle.bp_session.proofs.Enters.{hears_still, hears_on, still_recorded, others_stay}
use Rattle.bp_session.proofs.hearing.hear.Goals as goal

pub loop-heard-init : goal.loop-heard-init
loop-heard-init c = record { hears = hears_still _ _ _; whole = c.requires.whole; rest = c.requires.rest; inside = refl; count = omega arith }

pub loop-heard-preserved : goal.loop-heard-preserved
loop-heard-preserved c =
    let entered : c.in_ok-hear_one.field-0 ≡ true = search rules in
    let one : length c.hear_one.new.core.arbiter.records ≡ length c.loop-heard.core.arbiter.records + 1 = rw entered at c.in_ok-hear_one.ensures.one in
    record {
      hears = hears_on _ _ _ _ _ _ _ c.loop-heard.invariant.hears c.hear_one.ensures.hears;
      whole = c.hear_one.ensures.whole;
      rest = c.hear_one.ensures.rest;
      inside = c.hear_one.ensures.inside ∙ c.loop-heard.invariant.inside;
      count = omega (arith, one, c.loop-heard.invariant.count);
    }

pub returns-in_err-hear_one-clause-hears : goal.returns-in_err-hear_one-clause-hears
returns-in_err-hear_one-clause-hears c = hears_on _ _ _ _ _ _ _ c.loop-heard.invariant.hears c.hear_one.ensures.hears

pub returns-in_err-hear_one-clause-recorded : goal.returns-in_err-hear_one-clause-recorded
returns-in_err-hear_one-clause-recorded c = still_recorded _ _ _ _ _ (hears_on _ _ _ _ _ _ _ c.loop-heard.invariant.hears c.hear_one.ensures.hears)

pub returns-in_err-hear_one-clause-others : goal.returns-in_err-hear_one-clause-others
returns-in_err-hear_one-clause-others c = others_stay _ _ _ _ _ (hears_on _ _ _ _ _ _ _ c.loop-heard.invariant.hears c.hear_one.ensures.hears)

pub returns-then-not-branch-clause-hears : goal.returns-then-not-branch-clause-hears
returns-then-not-branch-clause-hears c = hears_on _ _ _ _ _ _ _ c.loop-heard.invariant.hears c.hear_one.ensures.hears

pub returns-then-not-branch-clause-recorded : goal.returns-then-not-branch-clause-recorded
returns-then-not-branch-clause-recorded c = still_recorded _ _ _ _ _ (hears_on _ _ _ _ _ _ _ c.loop-heard.invariant.hears c.hear_one.ensures.hears)

pub returns-then-not-branch-clause-others : goal.returns-then-not-branch-clause-others
returns-then-not-branch-clause-others c = others_stay _ _ _ _ _ (hears_on _ _ _ _ _ _ _ c.loop-heard.invariant.hears c.hear_one.ensures.hears)

pub returns-then-not-reads-clause-recorded : goal.returns-then-not-reads-clause-recorded
returns-then-not-reads-clause-recorded c = still_recorded _ _ _ _ _ c.loop-heard.invariant.hears

pub returns-then-not-reads-clause-others : goal.returns-then-not-reads-clause-others
returns-then-not-reads-clause-others c = others_stay _ _ _ _ _ c.loop-heard.invariant.hears

pub returns-clause-recorded : goal.returns-clause-recorded
returns-clause-recorded c = still_recorded _ _ _ _ _ c.loop-heard.invariant.hears

pub returns-clause-others : goal.returns-clause-others
returns-clause-others c = others_stay _ _ _ _ _ c.loop-heard.invariant.hears
