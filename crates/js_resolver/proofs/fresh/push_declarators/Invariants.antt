use Rattle.std.proofs.Common.{◌≡◌, ◌++◌, map, drop, false}
use Rattle.js_tree.specs.Plain.{declarators_of}
use Rattle.js_tree.specs.Views.{plain_declarator}
use Rattle.js_names.specs.Entries.{own_declarators}
use Rattle.js_resolver.specs.NodeForms.{fresh}
use Rattle.js_resolver.proofs.fresh.push_declarators.Given as goal

abbrev pub invariant-loop-declarator : goal.invariant-loop-declarator
invariant-loop-declarator l =
    l.slots.items ++ fresh l.tables (own_declarators 0 false l.kind (declarators_of (map plain_declarator (drop l.declarator-index l.declarators))))
    ≡ l.initial.slots.items ++ fresh l.tables (own_declarators 0 false l.kind (declarators_of (map plain_declarator l.declarators)))
