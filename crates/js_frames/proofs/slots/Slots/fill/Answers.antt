use Rattle.std.proofs.Common.{◌++◌, ◌∷◌, [], ◌-◌, ◌∙◌, ap, None, replicate, arith, inr}
use Rattle.js_frames.proofs.GrowthLemmas.{fill_more, filled}
use Rattle.js_frames.proofs.slots.Slots.fill.Goals as goal

pub loop-preserved : goal.loop-preserved
loop-preserved c = (fill_more None c.args.self.now c.push.new.self c.len-counter.result c.loop.counter c.loop.invariant.1 (c.in_ok-push.ensures ∙ ap (λ l. l ++ None ∷ []) c.loop.invariant.0), omega arith, inr (omega arith))

pub returns : goal.returns
returns c = filled None c.args.self.now c.loop.self c.len-counter.result c.loop.counter c.args.count c.loop.invariant.0 c.loop.invariant.1 c.loop.invariant.2 c.loop-test.false ∙ ap (λ n. c.args.self.now ++ replicate (c.args.count - n) None) c.len-counter.ensures
