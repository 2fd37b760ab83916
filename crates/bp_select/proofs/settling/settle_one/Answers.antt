use Rattle.std.proofs.Common.{◌∙◌, ℕ, List, map, option_map, ap, sym, subst}
use Rattle.js_value.specs.Value.{PlainSet}
use Rattle.js_frames.specs.Places.{plain_ground}
use Rattle.bp_known.specs.Known.{AreKnown, sets_in}
use Rattle.bp_select.specs.Blocks.{block_at}
use Rattle.bp_live.specs.Lives.{live_of}
use Rattle.bp_select.proofs.Noting.{restated_others, restated_own}
use Rattle.bp_select.specs.inner.Counted.{plain_tally}
use Rattle.bp_select.proofs.TallyLemmas.{tallied_rest}
use Rattle.bp_select.proofs.settling.settle_one.Goals as goal

pub restate-requires : goal.restate-requires
restate-requires c =
    subst (λ (es : List (ℕ × PlainSet)). AreKnown (plain_ground c.args.ground.now) c.args.budget (sets_in es) c.forget_idle.new.self.told) (sym c.forget_idle.ensures.sets)
    (c.forget_idle.ensures.known (plain_ground c.args.ground.now) c.args.budget (sets_in c.args.blocks.now.sets) c.requires.known)

pub returns-then-is_same-clause-settled : goal.returns-then-is_same-clause-settled
returns-then-is_same-clause-settled c = sym c.set_of.ensures ∙ c.is_same.ensures.equal c.if-is_same.true ∙ c.block_of-set.ensures

pub returns-clause-others : goal.returns-clause-others
returns-clause-others c = λ n e.
    restated_others c.args.number (option_map (λ s. s.now) c.block_of-set.result) c.forget_idle.new.self.sets c.restate.new.self.sets c.restate.result c.restate.ensures.sets c.restate.ensures.same n e
    ∙ ap (λ (es : List (ℕ × PlainSet)). sets_in es n) c.forget_idle.ensures.sets

pub returns-clause-settled : goal.returns-clause-settled
returns-clause-settled c =
    restated_own c.args.number (option_map (λ s. s.now) c.block_of-set.result) (block_at (map live_of c.args.live.now) c.args.number) c.forget_idle.new.self.sets c.restate.new.self.sets c.restate.result c.restate.ensures.sets
    c.block_of-set.ensures

pub returns-clause-tallied : goal.returns-clause-tallied
returns-clause-tallied c = λ ts h. tallied_rest (plain_ground c.args.ground.now) c.args.budget (sets_in c.restate.new.self.sets) ts (plain_tally c.rest.new.self) c.rest.ensures
