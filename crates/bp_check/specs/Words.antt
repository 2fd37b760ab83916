-- The methods of values.
use Rattle.std.specs.Prelude.{ℕ, Bool, ◌||◌, List, [], ◌∷◌, codes, is_some}
use Rattle.std.specs.Str.{bytes_eq}
use Rattle.js_ops.specs.Methods.{method_named}

-- the methods of lists, of texts, and of events and sets
abbrev pub methods : List (List ℕ)
methods =
    codes "concat" ∷ codes "forEach" ∷ codes "startsWith" ∷ codes "endsWith" ∷ codes "or" ∷ codes "and"
    ∷ codes "xor" ∷ codes "negate" ∷ []

-- `forEach` is the one method that calls a function
abbrev pub is_method : List ℕ → Bool
is_method word = bytes_eq word (codes "forEach") || is_some (method_named word)
