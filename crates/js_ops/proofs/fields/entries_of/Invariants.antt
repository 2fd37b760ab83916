use Rattle.std.proofs.Common.{◌≡◌, ◌++◌, map}
use Rattle.js_ops.specs.inner.Entered.{Entry}
use Rattle.js_ops.proofs.fields.entries_of.Given as goal

abbrev pub invariant-loop-field : goal.invariant-loop-field
invariant-loop-field l = l.entries.items ++ map (λ (e : Entry). e.1) l.field-iterator ≡ map (λ (e : Entry). e.1) l.fn.fields.entries
