use Rattle.std.proofs.Common.{subst}
use Rattle.js_names.specs.Unresolved.{begin_mention, parameter_mentions, in_function}
use Rattle.js_names.specs.inner.Walks.{Adds, scopes_in}
use Rattle.std.specs.Prelude.{OnOk}
use Rattle.js_names.proofs.Adding.{adds_then}
use Rattle.js_names.proofs.walk.put_head.Goals as goal

pub returns : goal.returns
returns c =
    let k = c.args.spot in
    adds_then c.put_parameters.result (λ s. begin_mention s k.at k) (λ s. parameter_mentions s (in_function k.at) c.args.names.now) c.args.walk.now c.put_begin.new.walk c.put_parameters.new.walk c.in_ok-put_begin.ensures
    (subst (λ z. OnOk c.put_parameters.result (Adds c.put_begin.new.walk c.put_parameters.new.walk (parameter_mentions (scopes_in c.put_begin.new.walk) z c.args.names.now))) c.in_function.ensures c.put_parameters.ensures)
