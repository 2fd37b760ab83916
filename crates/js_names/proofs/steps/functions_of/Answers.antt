use Rattle.std.proofs.Common.{◌≡◌, ◌∙◌, ◌++◌, sym, ap, arith, take, append-nil, ◌-◌}
use Rattle.js_names.specs.Mentions.{functions_of, owner_in}
use Rattle.js_names.specs.Views.{scope_of, scopes_of}
use Rattle.js_names.proofs.Stacks.{functions_down, functions_empty, functions_step}
use Rattle.js_names.proofs.steps.functions_of.Goals as goal

pub loop-i-preserved : goal.loop-i-preserved
loop-i-preserved c =
    let xs = c.args.scopes.now in
    let x = c.index-scopes-i.result in
    record {
      within = omega arith;
      same = functions_step c.loop-i.functions.items c.push_owner.new.functions.items (owner_in (scope_of x)) (functions_of (scopes_of (take c.loop-i.i xs))) (functions_of (scopes_of (take (c.loop-i.i - 1) xs))) (functions_of (scopes_of xs))
          c.in_ok-push_owner.ensures (functions_down xs c.loop-i.i x x (omega arith) (omega arith) c.index-scopes-i.is) c.loop-i.invariant.same;
    }

pub returns : goal.returns
returns c =
    let z : c.loop-i.i ≡ 0 = omega arith in
    let f = c.loop-i.functions.items in
    sym (append-nil f) ∙ (ap (λ z. f ++ z) (sym functions_empty) ∙ (ap (λ n. f ++ functions_of (scopes_of (take n c.args.scopes.now))) (sym z) ∙ c.loop-i.invariant.same))
