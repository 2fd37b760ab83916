use Rattle.std.proofs.Common.{◌≤◌, sym, subst}
use Rattle.std.proofs.lemmas.Option.{slice_get_past}
use Rattle.js_value.specs.Lists.{values_in}
use Rattle.js_frames.proofs.values.item_at.Goals as goal

pub returns-else-place-len-clause-value : goal.returns-else-place-len-clause-value
returns-else-place-len-clause-value c = sym (slice_get_past (values_in c.args.items.now) c.args.place (subst (λ n. n ≤ c.args.place) c.len.ensures c.if-place-len.false))
