use Rattle.std.proofs.Common.{◌∙◌, ◌<◌, ◌≤◌, List, length, refl, arith, option_map, ap, sym, subst}
use Rattle.std.proofs.lemmas.List.{length-set}
use Rattle.js_frames.specs.Places.{plain_ground}
use Rattle.bp_known.specs.declared.known.Known.{Known}
use Rattle.bp_known.specs.declared.known.Told.{Told}
use Rattle.bp_known.specs.Known.{AreKnown, restated, told_again}
use Rattle.bp_known.proofs.Knowing.{halfway_all, renewed_step, told_still}
use Rattle.bp_known.proofs.known.renew.Goals as goal

pub loop-at-init : goal.loop-at-init
loop-at-init c = record { len = refl; half = refl }

pub loop-at-preserved : goal.loop-at-preserved
loop-at-preserved c =
    let low : c.loop-at.at < length c.loop-at.told.items = (let a = c.loop-at-test.true in let b = c.len-at-end.ensures in let d = c.loop-at.invariant.len in omega (arith, a, b, d)) in
    let x = c.index.result.now in
    record {
      len = length-set c.loop-at.told.items c.loop-at.at _ ∙ c.loop-at.invariant.len;
      half = renewed_step (told_again (plain_ground c.args.ground.now) c.args.budget c.args.number (option_map (λ s. s.now) c.args.set)) c.args.told.items c.loop-at.told.items c.loop-at.at x c.index_mut.result.now c.in_ok-known.known
          c.loop-at.invariant.half low c.index.ensures c.index_mut.ensures.value
          (ap (λ (k : Known). let t : Told = record { event = x.event; known = k } in t) c.in_ok-known.ensures);
    }

pub returns-clause-renewed : goal.returns-clause-renewed
returns-clause-renewed c =
    let over : length c.args.told.items ≤ c.loop-at.at = (let a = c.loop-at-test.false in let b = c.len-at-end.ensures in let d = c.loop-at.invariant.len in omega (arith, a, b, d)) in
    c.loop-at.invariant.half ∙ halfway_all (told_again (plain_ground c.args.ground.now) c.args.budget c.args.number (option_map (λ s. s.now) c.args.set)) c.args.told.items c.loop-at.at over

pub returns-clause-known : goal.returns-clause-known
returns-clause-known c = λ sets k.
    let base = plain_ground c.args.ground.now in
    let over : length c.args.told.items ≤ c.loop-at.at = (let a = c.loop-at-test.false in let b = c.len-at-end.ensures in let d = c.loop-at.invariant.len in omega (arith, a, b, d)) in
    subst (λ (ts : List Told). AreKnown base c.args.budget (restated c.args.number (option_map (λ s. s.now) c.args.set) sets) ts)
    (sym (c.loop-at.invariant.half ∙ halfway_all (told_again base c.args.budget c.args.number (option_map (λ s. s.now) c.args.set)) c.args.told.items c.loop-at.at over))
    (told_still base c.args.budget c.args.number sets (option_map (λ s. s.now) c.args.set) c.args.told.items k)
