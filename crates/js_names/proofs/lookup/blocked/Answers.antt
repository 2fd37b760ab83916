use Rattle.std.proofs.Common.{◌≡◌, ◌∙◌, sym, ap, arith, take}
use Rattle.std.proofs.lemmas.Bool.{or_left}
use Rattle.js_names.specs.Mentions.{blocked}
use Rattle.js_names.specs.Views.{scopes_of}
use Rattle.js_names.proofs.Stacks.{blocked_down, blocked_empty, blocked_no, blocked_on}
use Rattle.js_names.proofs.lookup.blocked.Goals as goal

pub returns-then-clashes_here : goal.returns-then-clashes_here
returns-then-clashes_here c =
    let d = blocked_down c.args.scopes.now c.loop-i.i c.args.name.now c.args.offset c.index-scopes-i.result c.index-scopes-i.result (omega arith) (omega arith) c.index-scopes-i.is in
    sym (c.loop-i.invariant.same ∙ (d ∙ or_left _ _ (sym c.clashes_here.ensures ∙ c.if-clashes_here.true)))

pub returns-then-scope : goal.returns-then-scope
returns-then-scope c =
    let d = blocked_down c.args.scopes.now c.loop-i.i c.args.name.now c.args.offset c.index-scopes-i.result c.index-scopes-i.result (omega arith) (omega arith) c.index-scopes-i.is in
    sym (c.loop-i.invariant.same ∙ (d ∙ blocked_no _ _ _ (sym c.if-clashes_here.false ∙ c.clashes_here.ensures) (sym c.if-scope.true)))

pub loop-i-preserved : goal.loop-i-preserved
loop-i-preserved c =
    let d = blocked_down c.args.scopes.now c.loop-i.i c.args.name.now c.args.offset c.index-scopes-i.result c.index-scopes-i.result (omega arith) (omega arith) c.index-scopes-i.is in
    record {
      within = omega arith;
      same = c.loop-i.invariant.same ∙ (d ∙ blocked_on _ _ _ (sym c.if-clashes_here.false ∙ c.clashes_here.ensures) (sym c.if-scope.false));
    }

pub returns : goal.returns
returns c =
    let z : c.loop-i.i ≡ 0 = omega arith in
    sym (c.loop-i.invariant.same ∙ (ap (λ n. blocked (scopes_of (take n c.args.scopes.now)) c.args.name.now c.args.offset) z ∙ blocked_empty c.args.name.now c.args.offset))
