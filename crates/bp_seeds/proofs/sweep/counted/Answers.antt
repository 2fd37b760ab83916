use Rattle.std.proofs.Common.{◌∙◌, ◌+◌, ap, arith}
use Rattle.bp_explain.specs.Seeds.{Counted, count_more}
use Rattle.bp_seeds.specs.inner.Merged.{total}
use Rattle.bp_seeds.proofs.Merging.{total_more}
use Rattle.bp_seeds.proofs.Sweeping.{counts_on}
use Rattle.bp_seeds.proofs.sweep.counted.Goals as goal

pub loop-step-preserved : goal.loop-step-preserved
loop-step-preserved c =
    let i = c.loop-step.invariant in
    let old = c.loop-step.counts in
    let from = c.args.sweep.now.first + c.args.start in
    let made = c.in_ok-add.ensures ∙ ap (λ (x : Counted). count_more x old) c.one.ensures in
    let more = total_more c.one.result old in
    let one = ap (λ (x : Counted). x.count) c.one.ensures in
    let new = ap total c.in_ok-add.ensures in
    let few = i.few in
    record {
      told = counts_on c.args.bytes.now c.args.sweep.now.options c.loop-step.step from old c.add.new.self c.in_ok-kind.kind i.told c.in_ok-kind.ensures made;
      few = omega (arith, more, one, new, few);
    }
