use Rattle.std.proofs.Common.{◌≡◌, ◌∙◌, sym, ap, arith, take}
use Rattle.js_data.proofs.Shared.{if_true, if_false}
use Rattle.js_names.specs.Mentions.{found_var}
use Rattle.js_names.specs.Views.{scopes_of}
use Rattle.js_names.proofs.Stacks.{found_var_down, found_var_empty}
use Rattle.js_names.proofs.lookup.found_var.Goals as goal

pub returns-then-scope : goal.returns-then-scope
returns-then-scope c =
    let r = c.index-scopes-i.result in
    let d = found_var_down c.args.scopes.now c.loop-i.i c.args.name.now r r (omega arith) (omega arith) c.index-scopes-i.is in
    c.found_here.ensures ∙ sym (c.loop-i.invariant.same ∙ (d ∙ if_true r.whole _ _ c.if-scope.true))

pub loop-i-preserved : goal.loop-i-preserved
loop-i-preserved c =
    let r = c.index-scopes-i.result in
    let d = found_var_down c.args.scopes.now c.loop-i.i c.args.name.now r r (omega arith) (omega arith) c.index-scopes-i.is in
    record { within = omega arith; same = c.loop-i.invariant.same ∙ (d ∙ if_false r.whole _ _ c.if-scope.false) }

pub returns : goal.returns
returns c =
    let z : c.loop-i.i ≡ 0 = omega arith in
    sym (c.loop-i.invariant.same ∙ (ap (λ n. found_var (scopes_of (take n c.args.scopes.now)) c.args.name.now) z ∙ found_var_empty c.args.name.now))
