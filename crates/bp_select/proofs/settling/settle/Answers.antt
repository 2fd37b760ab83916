use Rattle.std.proofs.Common.{◌<◌, arith, length, map}
use Rattle.bp_known.specs.Known.{sets_in}
use Rattle.bp_live.specs.Lives.{live_of}
use Rattle.bp_select.proofs.Noting.{settled_fault, settled_step}
use Rattle.bp_select.proofs.settling.settle.Goals as goal

pub loop-at-preserved : goal.loop-at-preserved
loop-at-preserved c =
    let was = c.loop-at.invariant in
    let done = c.settle_one.ensures in
    let test = c.loop-at-test.true in
    let end = c.len-at-end.ensures in
    let len = c.args.changed.now.ok.0 in
    let low : c.loop-at.at < length c.args.changed.now.items = omega (arith, test, end, len) in
    record {
      settled =
          settled_step (map live_of c.args.live.now) (sets_in c.loop-at.blocks.sets) (sets_in c.settle_one.new.blocks.sets) c.args.changed.now.items c.loop-at.at c.index.result.now low c.index.ensures done.others c.in_ok-settle_one.ensures.settled
          was.settled;
      known = done.known;
      tallied = λ ts h. done.tallied ts (was.tallied ts h);
    }

pub returns-in_err-settle_one-clause-noted : goal.returns-in_err-settle_one-clause-noted
returns-in_err-settle_one-clause-noted c =
    let test = c.loop-at-test.true in
    let end = c.len-at-end.ensures in
    let len = c.args.changed.now.ok.0 in
    let low : c.loop-at.at < length c.args.changed.now.items = omega (arith, test, end, len) in
    settled_fault (map live_of c.args.live.now) (sets_in c.loop-at.blocks.sets) (sets_in c.settle_one.new.blocks.sets) c.args.changed.now.items c.loop-at.at c.index.result.now low c.index.ensures c.settle_one.ensures.others
    c.loop-at.invariant.settled

pub returns-in_err-settle_one-clause-tallied : goal.returns-in_err-settle_one-clause-tallied
returns-in_err-settle_one-clause-tallied c = λ ts h. c.settle_one.ensures.tallied ts (c.loop-at.invariant.tallied ts h)
