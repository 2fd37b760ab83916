use Rattle.std.proofs.Common.{◌≡◌, rules, sym, subst}
use Rattle.js_value.specs.Kept.{HaveSortedKeys}
use Rattle.js_value.specs.Views.{value_fields_view}
use Rattle.js_ops.specs.inner.Entered.{entries_view}
use Rattle.js_ops.proofs.Entering.{sorted_entries}
use Rattle.js_ops.proofs.fields.entries_of.Goals as goal

pub returns-clause-keys : goal.returns-clause-keys
returns-clause-keys c =
    let same : value_fields_view c.loop-field.entries.items ≡ entries_view c.args.fields.entries = search rules in
    subst HaveSortedKeys (sym same) (sorted_entries c.args.fields.entries c.requires c.len.ensures.ordered)
