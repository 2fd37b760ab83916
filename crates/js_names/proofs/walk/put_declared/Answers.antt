use Rattle.std.proofs.Common.{subst}
use Rattle.js_names.specs.declared.mention.What.{What}
use Rattle.js_names.specs.declared.mention.Role.{Role}
use Rattle.js_names.specs.Entries.{top}
use Rattle.js_names.specs.Unresolved.{one_mention, in_function}
use Rattle.js_names.specs.inner.Walks.{Adds, scopes_in}
use Rattle.js_names.specs.inner.TreeMentions.{body_mentions}
use Rattle.js_names.proofs.Adding.{adds_then}
use Rattle.js_names.proofs.walk.put_declared.Goals as goal

pub returns : goal.returns
returns c =
    let n = c.args.name.now in
    adds_then c.put_function.result (λ s. one_mention s (in_function top) (What.Declares Role.Function) n) (λ s. body_mentions s c.args.spot c.args.names.now c.args.body.now) c.args.walk.now c.put_name.new.walk c.put_function.new.walk
    (subst (λ z. Adds c.args.walk.now c.put_name.new.walk (one_mention (scopes_in c.args.walk.now) z (What.Declares Role.Function) n)) c.in_function.ensures c.in_ok-put_name.ensures)
    c.put_function.ensures
