use Rattle.std.proofs.Common.{◌≡◌, ◌∙◌, sym, ap, arith, take}
use Rattle.js_names.specs.Mentions.{found}
use Rattle.js_names.specs.Views.{scopes_of}
use Rattle.js_names.proofs.Stacks.{found_down, found_empty, found_some, found_none}
use Rattle.js_names.proofs.lookup.found.Goals as goal

pub returns-in-Some : goal.returns-in-Some
returns-in-Some c =
    let d = found_down c.args.scopes.now c.loop-i.i c.args.name.now c.index-scopes-i.result c.index-scopes-i.result (omega arith) (omega arith) c.index-scopes-i.is in
    sym (c.loop-i.invariant.same ∙ (d ∙ found_some _ _ _ c.in-Some.ensures))

pub loop-i-preserved : goal.loop-i-preserved
loop-i-preserved c =
    let d = found_down c.args.scopes.now c.loop-i.i c.args.name.now c.index-scopes-i.result c.index-scopes-i.result (omega arith) (omega arith) c.index-scopes-i.is in
    record { within = omega arith; same = c.loop-i.invariant.same ∙ (d ∙ found_none _ _ (sym c.in_default.is ∙ c.found_here.ensures)) }

pub returns : goal.returns
returns c =
    let z : c.loop-i.i ≡ 0 = omega arith in
    sym (c.loop-i.invariant.same ∙ (ap (λ n. found (scopes_of (take n c.args.scopes.now)) c.args.name.now) z ∙ found_empty c.args.name.now))
