-- What is known of the mentions of a program, and of the declaration that a declared name stands for.
use Rattle.std.proofs.Common.{◌≡◌, ℕ, List, [], ◌∷◌, Option, Some, Bool, true, false, ◌||◌}
use Rattle.js_names.specs.declared.mention.Declared.{Declared}
use Rattle.js_names.specs.declared.mention.What.{What}
use Rattle.js_names.specs.Entries.{top}
use Rattle.js_names.specs.Scopes.{Scope}
use Rattle.js_names.specs.Unresolved.{Unresolved}
use Rattle.js_names.specs.Mentions.{Mention, look_up, declared_at, is_function, is_var}
use Rattle.js_resolver.proofs.sound.Lists.{HasMention}

-- mentions of a program
abbrev pub AllHave : List Mention → List Unresolved → Type 0
AllHave ps [] = Unit {0}
AllHave ps (s ∷ ss) = HasMention (look_up s) ps × AllHave ps ss

-- whether the innermost scope is a whole function's, or the program's
abbrev pub in_whole : List Scope → Bool
in_whole [] = true
in_whole (s ∷ ss) = s.whole

-- a declaration of the function f: in a block or a `for` it stands in no list of a function or of the program, and a function declares no functions
pub record IsKept (f : ℕ) (whole : Bool) (d : Declared) : Type 0 where
  pub owner : d.owner ≡ f
  pub nested : whole ≡ false → (d.direct ≡ false) × (is_function d.role ≡ false)
  pub inside : (f ≡ top → ⊥) → is_function d.role ≡ false

-- a lookup finds a declaration of the function
abbrev pub There : (List ℕ → Option Declared) → ℕ → Bool → List ℕ → Type 0
There look f w q = (d : Declared) × (look q ≡ Some d) × IsKept f w d

-- the name of a declaration is found
abbrev pub IsFound : What → Unresolved → Type 0
IsFound (What.Declares role) s = There (declared_at (What.Declares role) s.scopes) s.around.owner (is_var role || in_whole s.scopes) s.name.text
IsFound _ s = Unit {0}

abbrev pub AllFound : List Unresolved → Type 0
AllFound [] = Unit {0}
AllFound (s ∷ ss) = IsFound s.what s × AllFound ss
