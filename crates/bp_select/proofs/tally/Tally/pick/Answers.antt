use Rattle.std.proofs.Common.{◌∙◌, [], ℕ, List, map, subst, sym}
use Rattle.js_value.specs.Value.{PlainSet}
use Rattle.js_frames.specs.Places.{plain_ground}
use Rattle.bp_known.specs.Known.{sets_in}
use Rattle.bp_live.specs.Lives.{live_of}
use Rattle.bp_select.specs.Tallies.{AreTallied}
use Rattle.bp_select.specs.inner.Counted.{plain_tally}
use Rattle.bp_select.proofs.Readiness.{ready_after}
use Rattle.bp_select.proofs.TallyLemmas.{tallied_rest}
use Rattle.bp_select.proofs.tally.Tally.pick.Goals as goal

pub returns-in_err-begun-clause-tallied : goal.returns-in_err-begun-clause-tallied
returns-in_err-begun-clause-tallied c = c.begin.ensures.tallied (plain_ground c.args.ground.now) c.args.budget (sets_in c.args.blocks.now.sets) c.requires.tallied

pub returns-then-not-begun-clause-tallied : goal.returns-then-not-begun-clause-tallied
returns-then-not-begun-clause-tallied c = c.begin.ensures.tallied (plain_ground c.args.ground.now) c.args.budget (sets_in c.args.blocks.now.sets) c.requires.tallied

pub settle_all-requires-clause-ready : goal.settle_all-requires-clause-ready
settle_all-requires-clause-ready c =
    let base = plain_ground c.args.ground.now in
    ready_after base c.args.budget (map live_of c.args.live.now) c.args.blocks.now c.begin_question.new.self c.begin_question.ensures.sets
    (c.begin_question.ensures.known base c.args.budget (sets_in c.args.blocks.now.sets) c.requires.ready.settled.known) c.args.roll.now c.requires.ready

pub settle_all-requires-clause-tallied : goal.settle_all-requires-clause-tallied
settle_all-requires-clause-tallied c =
    let base = plain_ground c.args.ground.now in
    let ts = map live_of c.args.live.now in
    subst (λ (es : List (ℕ × PlainSet)). AreTallied base c.args.budget (sets_in es) ts c.as_slice-changed.result.now c.begin.new.self.counts) (sym c.begin_question.ensures.sets)
    (subst (λ (xs : List ℕ). AreTallied base c.args.budget (sets_in c.args.blocks.now.sets) ts xs c.begin.new.self.counts) (sym c.as_slice-changed.ensures)
    (c.begin.ensures.tallied base c.args.budget (sets_in c.args.blocks.now.sets) c.requires.tallied (c.in_ok-begun.ensures.whole c.if-not-begun.false)))

pub returns-in_err-all-clause-sets : goal.returns-in_err-all-clause-sets
returns-in_err-all-clause-sets c = c.settle_all.ensures.sets ∙ c.begin_question.ensures.sets

pub returns-in_err-all-clause-tallied : goal.returns-in_err-all-clause-tallied
returns-in_err-all-clause-tallied c = λ w.
    let base = plain_ground c.args.ground.now in
    let ts = map live_of c.args.live.now in
    subst (λ (es : List (ℕ × PlainSet)). AreTallied base c.args.budget (sets_in es) ts c.begin.new.self.changed c.settle_all.new.counts) c.begin_question.ensures.sets
    (subst (λ (xs : List ℕ). AreTallied base c.args.budget (sets_in c.begin_question.new.self.sets) ts xs c.settle_all.new.counts) c.as_slice-changed.ensures c.settle_all.ensures.tallied)

pub returns-then-not-all-clause-sets : goal.returns-then-not-all-clause-sets
returns-then-not-all-clause-sets c = c.settle_all.ensures.sets ∙ c.begin_question.ensures.sets

pub returns-then-not-all-clause-tallied : goal.returns-then-not-all-clause-tallied
returns-then-not-all-clause-tallied c = tallied_rest (plain_ground c.args.ground.now) c.args.budget (sets_in c.args.blocks.now.sets) (map live_of c.args.live.now) (plain_tally c.rest.new.self) c.rest.ensures

pub pick_of-requires-clause-tallied : goal.pick_of-requires-clause-tallied
pick_of-requires-clause-tallied c =
    subst (λ (es : List (ℕ × PlainSet)). AreTallied (plain_ground c.args.ground.now) c.args.budget (sets_in es) (map live_of c.args.live.now) [] c.settle_all.new.counts) (sym c.settle_all.ensures.sets)
    (c.in_ok-all.ensures.settled c.if-not-all.false)

pub returns-clause-sets : goal.returns-clause-sets
returns-clause-sets c = c.pick_of.ensures.sets ∙ c.settle_all.ensures.sets ∙ c.begin_question.ensures.sets

pub returns-clause-tallied : goal.returns-clause-tallied
returns-clause-tallied c = λ w.
    let base = plain_ground c.args.ground.now in
    let ts = map live_of c.args.live.now in
    subst (λ (xs : List ℕ). AreTallied base c.args.budget (sets_in c.args.blocks.now.sets) ts xs c.settle_all.new.counts) (sym c.clear.ensures)
    (subst (λ (es : List (ℕ × PlainSet)). AreTallied base c.args.budget (sets_in es) ts [] c.settle_all.new.counts) c.begin_question.ensures.sets (c.in_ok-all.ensures.settled c.if-not-all.false))
