-- The law of what a block keeps: a mention is looked up as if each block kept every `var` in it.
use Rattle.std.specs.Prelude.{◌≡◌, ℕ, false, true, List, [], ◌∷◌, ◌++◌, is_some}
use Rattle.std.specs.List.{AllByRecursion}
use Rattle.js_tree.specs.declared.tree.Name.{Name}
use Rattle.js_tree.specs.Plain.{PlainItem}
use Rattle.js_names.specs.declared.mention.What.{What}
use Rattle.js_names.specs.declared.mention.What.TheVariants.{Declares}
use Rattle.js_names.specs.declared.mention.Around.{Around}
use Rattle.js_names.specs.Entries.{Entry}
use Rattle.js_names.specs.Scopes.{Scope, named, first, inner_scope, scope_with}
use Rattle.js_names.specs.Unresolved.{Unresolved, mention_in, unresolved_mentions}
use Rattle.js_names.specs.Mentions.{is_var, look_up}
use Rattle.js_names.specs.Lexicals.{ScopedItems}

-- what a mention declares, but for a `var`, is one of these names
abbrev pub IsOwn : List Entry → What → Name → Type 0
IsOwn own (Declares role) name = is_var role ≡ false → is_some (first (named name.text own)) ≡ true
IsOwn own _ name = Unit {0}

-- at each mention directly in such a scope, which declares its own names, and at each mention under more scopes in it
abbrev pub KeepsEnough : Type 0
KeepsEnough =
    (own vars : List Entry) (owner : ℕ) (inside outside : List Scope)
    (around : Around) (what : What) (name : Name)
    → (inside ≡ [] → IsOwn own what name)
    → look_up (mention_in (inside ++ inner_scope own vars owner ∷ outside) around what name)
    ≡ look_up (mention_in (inside ++ scope_with own vars false owner ∷ outside) around what name)

-- a mention under such a scope is looked up as if the scope kept all
abbrev pub IsLookedUpAlike : Unresolved → Type 0
IsLookedUpAlike s =
    (own vars : List Entry) (owner : ℕ) (inside outside : List Scope)
    → s.scopes ≡ inside ++ inner_scope own vars owner ∷ outside
    → look_up s
    ≡ look_up
    (mention_in (inside ++ scope_with own vars false owner ∷ outside) s.around s.what s.name)

-- so is each mention of a program
abbrev pub ProgramsKeepEnough : Type 0
ProgramsKeepEnough =
    (items : List PlainItem)
    → ScopedItems items
    → AllByRecursion IsLookedUpAlike (unresolved_mentions items)
