use Rattle.std.proofs.Common.{◌∙◌, List, ℕ, map, refl, slice_index, subst}
use Rattle.js_value.specs.Value.{PlainSet}
use Rattle.js_frames.specs.Places.{plain_ground}
use Rattle.bp_known.specs.Known.{sets_in}
use Rattle.bp_live.specs.Lives.{live_of}
use Rattle.bp_select.specs.inner.Counted.{IsCounted}
use Rattle.bp_roll.specs.Counting.{count_at}
use Rattle.bp_select.proofs.TallyLemmas.{tallied_all, tallied_fault, tallied_next, tallied_still}
use Rattle.bp_select.proofs.tally.settle_all.Goals as goal

pub loop-number-preserved : goal.loop-number-preserved
loop-number-preserved c =
    let base = plain_ground c.args.ground.now in
    let ts = map live_of c.args.live.now in
    let was = c.loop-number.invariant in
    let n = slice_index c.args.changed.now c.loop-number.number-index in
    record {
      sets = c.settle_one.ensures.sets ∙ was.sets;
      ready = c.settle_one.ensures.ready;
      tallied =
          tallied_next base c.args.budget (sets_in c.args.blocks.now.sets) ts c.args.changed.now c.loop-number.number-index (slice_index c.args.changed.now c.loop-number.number-index) c.loop-number-test.true refl c.loop-number.counts c.settle_one.new.counts c.settle_one.ensures.others
          (subst (λ (es : List (ℕ × PlainSet)). IsCounted base c.args.budget (sets_in es) ts n (count_at c.settle_one.new.counts n)) was.sets (c.in_ok-counted.ensures.counted c.if-not-counted.false)) was.tallied;
    }

pub returns-in_err-counted-clause-sets : goal.returns-in_err-counted-clause-sets
returns-in_err-counted-clause-sets c = c.settle_one.ensures.sets ∙ c.loop-number.invariant.sets

pub returns-in_err-counted-clause-tallied : goal.returns-in_err-counted-clause-tallied
returns-in_err-counted-clause-tallied c =
    tallied_fault (plain_ground c.args.ground.now) c.args.budget (sets_in c.args.blocks.now.sets) (map live_of c.args.live.now) c.args.changed.now c.loop-number.number-index (slice_index c.args.changed.now c.loop-number.number-index) c.loop-number-test.true refl c.loop-number.counts c.settle_one.new.counts
    c.settle_one.ensures.others c.loop-number.invariant.tallied

pub returns-then-not-counted-clause-sets : goal.returns-then-not-counted-clause-sets
returns-then-not-counted-clause-sets c = c.settle_one.ensures.sets ∙ c.loop-number.invariant.sets

pub returns-then-not-counted-clause-tallied : goal.returns-then-not-counted-clause-tallied
returns-then-not-counted-clause-tallied c =
    tallied_fault (plain_ground c.args.ground.now) c.args.budget (sets_in c.args.blocks.now.sets) (map live_of c.args.live.now) c.args.changed.now c.loop-number.number-index (slice_index c.args.changed.now c.loop-number.number-index) c.loop-number-test.true refl c.loop-number.counts c.settle_one.new.counts
    c.settle_one.ensures.others c.loop-number.invariant.tallied

pub returns-clause-tallied : goal.returns-clause-tallied
returns-clause-tallied c =
    let base = plain_ground c.args.ground.now in
    let sets = sets_in c.args.blocks.now.sets in
    let ts = map live_of c.args.live.now in
    tallied_still base c.args.budget sets ts c.args.changed.now c.loop-number.counts
    (tallied_all base c.args.budget sets ts c.args.changed.now c.loop-number.counts c.loop-number.number-index c.loop-number-test.false c.loop-number.invariant.tallied)

pub returns-clause-settled : goal.returns-clause-settled
returns-clause-settled c = λ w.
    tallied_all (plain_ground c.args.ground.now) c.args.budget (sets_in c.args.blocks.now.sets) (map live_of c.args.live.now) c.args.changed.now c.loop-number.counts c.loop-number.number-index c.loop-number-test.false
    c.loop-number.invariant.tallied
