use Rattle.std.proofs.Common.{sym, ◌∙◌}
use Rattle.js_names.proofs.Stacks.{repeated_empty, repeated_last}
use Rattle.js_names.proofs.lookup.repeated.Goals as goal

pub returns-in-empty : goal.returns-in-empty
returns-in-empty c = sym (repeated_empty c.args.scopes.now c.args.name.now c.args.offset c.in-empty.len_below)

pub returns-in-len1-up : goal.returns-in-len1-up
returns-in-len1-up c =
    c.repeated_here.ensures ∙ sym (repeated_last c.args.scopes.now c.args.name.now c.args.offset c.scope-item.result c.scope-item.result c.in-len1-up.len_at_least c.scope-item.is)
