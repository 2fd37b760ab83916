-- Mentions, looked up: the declaration that the name of each stands for, and whether it clashes with an earlier one.
use Rattle.std.specs.Prelude.{ℕ, Bool, true, false, not, ◌&&◌, ◌||◌, nat_lt, List, [], ◌∷◌, ◌++◌, Option, Some, None, map, if◌then◌else◌}
use Rattle.js_tree.specs.declared.tree.Name.{Name}
use Rattle.js_tree.specs.Plain.{PlainItem}
use Rattle.js_names.specs.declared.mention.Role.{Role}
use Rattle.js_names.specs.declared.mention.Role.TheVariants.{Parameter, Const, Var, Function}
use Rattle.js_names.specs.declared.mention.Declared.{Declared}
use Rattle.js_names.specs.declared.mention.What.{What}
use Rattle.js_names.specs.declared.mention.What.TheVariants.{Declares, Reads, Assigns}
use Rattle.js_names.specs.declared.mention.Around.{Around}
use Rattle.js_names.specs.Scopes.{Scope}
use Rattle.js_names.specs.Forms.{is_reserved}
use Rattle.js_names.specs.Unresolved.{Unresolved, unresolved_mentions}

-- where a name stands in the text, or a word of the language that has rules, with what the rules ask of it
pub record Mention : Type 0 where
  pub what : What
  pub name : Name
  pub around : Around
  pub declared : Option Declared  -- what the name stands for
  pub functions : List ℕ  -- the functions around, the innermost first, and the top level last
  pub clashes : Bool  -- its name has an earlier declaration that it clashes with, or can't be declared

abbrev pub or_else : {A : Type 0} → Option A → Option A → Option A
or_else None o = o
or_else (Some x) o = Some x

abbrev pub test_of : {A : Type 0} → Option A → (A → Bool) → Bool
test_of None t = false
test_of (Some x) t = t x

abbrev pub is_parameter : Role → Bool
is_parameter Parameter = true
is_parameter _ = false

abbrev pub is_const : Role → Bool
is_const Const = true
is_const _ = false

abbrev pub is_var : Role → Bool
is_var Var = true
is_var _ = false

abbrev pub is_function : Role → Bool
is_function Function = true
is_function _ = false

-- the declaration that stands first in the text
abbrev pub earlier : Option Declared → Option Declared → Option Declared
earlier None o = o
earlier (Some d) None = Some d
earlier (Some d) (Some e) = if nat_lt e.offset d.offset then Some e else Some d

-- the declaration of a name in one scope, the first where there are more: a `var` belongs to the function,
-- and not to a block in it
abbrev pub found_here : Scope → List ℕ → Option Declared
found_here s q = if s.whole then earlier (s.own q) (s.vars q) else s.own q

-- the innermost declaration of a name
unfoldable pub found : List Scope → List ℕ → Option Declared
found [] q = None
found (s ∷ ss) q = or_else (found_here s q) (found ss q)

-- its declaration in the innermost function, or in the program
unfoldable pub found_var : List Scope → List ℕ → Option Declared
found_var [] q = None
found_var (s ∷ ss) q = if s.whole then found_here s q else found_var ss q

-- the function that begins with a scope
abbrev pub owner_in : Scope → List ℕ
owner_in s = if s.whole then s.owner ∷ [] else []

-- the functions around
unfoldable pub functions_of : List Scope → List ℕ
functions_of [] = []
functions_of (s ∷ ss) = owner_in s ++ functions_of ss

abbrev pub is_earlier : Option Declared → ℕ → Bool
is_earlier o p = test_of o (λ d. nat_lt d.offset p)

-- the innermost scope declares the name earlier, itself or by a `var` in it
unfoldable pub repeated : List Scope → List ℕ → ℕ → Bool
repeated [] q p = false
repeated (s ∷ ss) q p = is_earlier (s.own q) p || is_earlier (s.vars q) p

-- a scope from here to the whole function declares the name earlier, and not as a parameter
unfoldable pub blocked : List Scope → List ℕ → ℕ → Bool
blocked [] q p = false
blocked (s ∷ ss) q p =
    test_of (s.own q) (λ d. nat_lt d.offset p && not (is_parameter d.role))
    || (not s.whole && blocked ss q p)

abbrev pub clashes : What → List Scope → Name → Bool
clashes (Declares role) scopes name =
    is_reserved name.text
    || (if is_var role then blocked scopes name.text name.spot.at
    else repeated scopes name.text name.spot.at)
clashes _ scopes name = false

abbrev pub declared_at : What → List Scope → List ℕ → Option Declared
declared_at (Declares role) scopes q = if is_var role then found_var scopes q else found scopes q
declared_at Reads scopes q = found scopes q
declared_at Assigns scopes q = found scopes q
declared_at _ scopes q = None

-- a mention, its name looked up in the scopes around it
unfoldable pub look_up : Unresolved → Mention
look_up s = record {
  what = s.what;
  name = s.name;
  around = s.around;
  declared = declared_at s.what s.scopes s.name.text;
  functions = functions_of s.scopes;
  clashes = clashes s.what s.scopes s.name;
}

-- the mentions of a program in text order
unfoldable pub mentions : List PlainItem → List Mention
mentions items = map look_up (unresolved_mentions items)
