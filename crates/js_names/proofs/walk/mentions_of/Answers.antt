use Rattle.std.proofs.Common.{◌∙◌, ap, map}
use Rattle.js_names.specs.declared.scope.Walk.{Walk}
use Rattle.js_names.specs.Views.{mention_of}
use Rattle.js_names.proofs.Adding.{program_mentions}
use Rattle.js_names.proofs.walk.mentions_of.Goals as goal

pub returns : goal.returns
returns c =
    let start : Walk = record { alloc = c.args.alloc; scopes = c.new.result; mentions = c.new-2.result } in
    ap (λ v. map mention_of v.items) c.into_mentions.ensures
    ∙ program_mentions c.args.tree.now c.deref.result.now start c.enter.new.walk c.put_begin.new.walk c.put_items.new.walk c.in_ok-scope.scope c.program_spot.result
    c.new.ensures.items c.new-2.ensures.items c.in_ok-scope.ensures c.in_ok-enter.ensures c.program_spot.ensures c.in_ok-put_begin.ensures c.deref.ensures.value c.in_ok-put_items.ensures
