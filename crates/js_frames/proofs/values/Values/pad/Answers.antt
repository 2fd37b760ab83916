use Rattle.std.proofs.Common.{◌≡◌, ◌++◌, ◌∷◌, [], ◌-◌, ◌∙◌, ap, length, take, replicate, arith, inr}
use Rattle.std.proofs.lemmas.List.{length-take}
use Rattle.js_value.specs.Value.{undefined}
use Rattle.js_frames.proofs.GrowthLemmas.{fill_more, filled}
use Rattle.js_frames.proofs.values.Values.pad.Goals as goal

pub loop-preserved : goal.loop-preserved
loop-preserved c = (fill_more undefined c.cut.new.self c.push.new.self c.len-counter.result c.loop.counter c.loop.invariant.1 (c.in_ok-push.ensures ∙ ap (λ l. l ++ undefined ∷ []) c.loop.invariant.0), omega arith, inr (omega arith))

pub returns : goal.returns
returns c =
    let a = c.len-counter.ensures ∙ ap length c.cut.ensures ∙ length-take c.args.count c.args.self.now in
    let n : c.args.count - c.len-counter.result ≡ c.args.count - length c.args.self.now = omega arith in
    filled undefined c.cut.new.self c.loop.self c.len-counter.result c.loop.counter c.args.count c.loop.invariant.0 c.loop.invariant.1 c.loop.invariant.2 c.loop-test.false
    ∙ ap (λ xs. xs ++ replicate (c.args.count - c.len-counter.result) undefined) c.cut.ensures
    ∙ ap (λ k. take c.args.count c.args.self.now ++ replicate k undefined) n
