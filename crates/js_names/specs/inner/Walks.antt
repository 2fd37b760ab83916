-- What a walk over a tree adds, and which scopes it enters and leaves.
use Rattle.std.specs.Prelude.{◌≡◌, List, [], ◌∷◌, ◌++◌, map, take, length, ◌-◌}
use Rattle.js_names.specs.declared.scope.Scope.{Scope as Held}
use Rattle.js_names.specs.declared.scope.Walk.{Walk}
use Rattle.js_tree.specs.declared.tree.DeclareKind.{DeclareKind}
use Rattle.js_names.specs.Scopes.{Scope, for_of_role}
use Rattle.js_names.specs.declared.mention.Around.{Around}
use Rattle.js_names.specs.declared.mention.What.{What}
use Rattle.js_tree.specs.declared.tree.Name.{Name}
use Rattle.js_names.specs.Unresolved.{Unresolved, one_mention}
use Rattle.js_names.specs.Mentions.{look_up}
use Rattle.js_names.specs.Views.{scopes_of, mention_of}

abbrev pub scopes_in : Walk → List Scope
scopes_in w = scopes_of w.scopes.items

-- the walk over a form: the scopes are as before, and the mentions of the form stand at the end
abbrev pub Adds : Walk → Walk → List Unresolved → Type 0
Adds old new added =
    (new.scopes.items ≡ old.scopes.items)
    × (map mention_of new.mentions.items ≡ map mention_of old.mentions.items ++ map look_up added)

-- one more scope is the innermost
abbrev pub Entered : Walk → Walk → Held → Type 0
Entered old new scope =
    (new.scopes.items ≡ old.scopes.items ++ scope ∷ []) × (new.mentions.items ≡ old.mentions.items)

-- a scope that stands for this one is the innermost
abbrev pub Enters : Walk → Walk → Scope → Type 0
Enters old new scope =
    (scopes_in new ≡ scope ∷ scopes_in old)
    × (new.mentions.items ≡ old.mentions.items)
    × (take (length new.scopes.items - 1) new.scopes.items ≡ old.scopes.items)

-- and under it stands the name of a `for` over a list
abbrev pub EntersForOf : Walk → Walk → Around → DeclareKind → Name → Scope → Type 0
EntersForOf old new a kind name scope =
    (scopes_in new ≡ scope ∷ scopes_in old)
    × (map mention_of new.mentions.items
    ≡ map mention_of old.mentions.items
    ++ map look_up (one_mention (scope ∷ scopes_in old) a (What.Declares (for_of_role kind)) name))
    × (take (length new.scopes.items - 1) new.scopes.items ≡ old.scopes.items)

-- the innermost scope is gone
abbrev pub Left : Walk → Walk → Type 0
Left old new =
    (new.scopes.items ≡ take (length old.scopes.items - 1) old.scopes.items)
    × (new.mentions.items ≡ old.mentions.items)
