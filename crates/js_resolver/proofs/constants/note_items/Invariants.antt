use Rattle.std.proofs.Common.{map, take}
use Rattle.js_tree.specs.Views.{plain_item}
use Rattle.js_resolver.specs.Resolved.{function_named}
use Rattle.js_resolver.specs.inner.Starts.{NotesStart, first_of}
use Rattle.js_resolver.proofs.constants.note_items.Given as goal

abbrev pub invariant-loop-item : goal.invariant-loop-item
invariant-loop-item l = NotesStart l.initial.starts l.starts (λ q. first_of (map (λ i. function_named l.tables q (plain_item i)) (take l.item-index l.items)))
