-- Constants, captures and slots, from the mentions of a program.
use Rattle.std.specs.Prelude.{ℕ, Bool, true, false, not, ◌&&◌, ◌||◌, nat_eq, nat_le, List, [], ◌∷◌, ◌++◌, Option, Some, None, map, fold, length, if◌then◌else◌}
use Rattle.std.specs.List.{list_any, filter_map, flat_map}
use Rattle.js_names.specs.declared.mention.Role.TheVariants.{Parameter}
use Rattle.js_names.specs.declared.mention.Declared.{Declared}
use Rattle.js_names.specs.declared.mention.What.{What}
use Rattle.js_names.specs.declared.mention.What.TheVariants.{Declares, Reads, Assigns, Begins}
use Rattle.js_names.specs.Entries.{top}
use Rattle.js_names.specs.Mentions.{Mention, is_parameter, is_var, is_function}

abbrev pub is_assignment : What → Bool
is_assignment Assigns = true
is_assignment _ = false

abbrev pub is_use : What → Bool
is_use Reads = true
is_use Assigns = true
is_use _ = false

abbrev pub is_among : ℕ → List ℕ → Bool
is_among x xs = list_any (nat_eq x) xs

-- the list, with x at its end unless it has x
abbrev pub joins : List ℕ → ℕ → List ℕ
joins xs x = if is_among x xs then xs else xs ++ x ∷ []

-- each element where it first stands
abbrev pub first_uses : List ℕ → List ℕ
first_uses xs = fold joins [] xs

-- a variable is named by the offset of its declared name

abbrev pub offset_in : Option Declared → Option ℕ
offset_in None = None
offset_in (Some d) = Some d.offset

abbrev pub assigned_at : Mention → Option ℕ
assigned_at p = if is_assignment p.what then offset_in p.declared else None

-- the variables that something assigns or updates
unfoldable pub assigned_in : List Mention → List ℕ
assigned_in ps = first_uses (filter_map assigned_at ps)

-- a function declaration, or a variable declared directly in the program's list that nothing assigns
abbrev pub is_constant : List ℕ → Declared → Bool
is_constant assigned d =
    is_function d.role || (nat_eq d.owner top && (d.direct && not (is_among d.offset assigned)))

-- its value can be copied where an inner function begins
abbrev pub can_copy : List ℕ → Declared → ℕ → Bool
can_copy assigned d begins =
    (not (is_var d.role) || d.direct) && (not (is_among d.offset assigned) && nat_le d.end begins)

-- it belongs to an outer function or to the top level, and is not a constant
abbrev pub is_outer : List ℕ → Mention → Declared → Bool
is_outer assigned p d = not (nat_eq d.owner p.around.owner) && not (is_constant assigned d)

-- a variable that a function holds in a slot
pub record Holding : Type 0 where
  pub function : ℕ
  pub variable : ℕ

abbrev pub hold : ℕ → ℕ → Holding
hold function variable = record { function = function; variable = variable }

-- the variables that a function holds
abbrev pub held_by : ℕ → List Holding → List ℕ
held_by f [] = []
held_by f (h ∷ hs) = if nat_eq h.function f then h.variable ∷ held_by f hs else held_by f hs

-- the parameter that a mention declares
abbrev pub parameter_at : What → Mention → List Holding
parameter_at (Declares Parameter) p = hold p.around.owner p.name.spot.at ∷ []
parameter_at _ p = []

-- the functions inside that of the declaration
abbrev pub inside : ℕ → List ℕ → List ℕ
inside owner [] = []
inside owner (f ∷ fs) = if nat_eq f owner then [] else f ∷ inside owner fs

abbrev pub holds_all : ℕ → List ℕ → List Holding
holds_all v fs = map (λ f. hold f v) fs

-- a mention uses a variable of an outer function that can be copied
abbrev pub copies : List ℕ → Mention → Declared → Bool
copies assigned p d = is_use p.what && (is_outer assigned p d && can_copy assigned d p.around.owner)

-- a variable is copied into each function between its own and the one that uses it
abbrev pub captures_of : List ℕ → Mention → Option Declared → List Holding
captures_of assigned p None = []
captures_of assigned p (Some d) =
    if copies assigned p d then holds_all d.offset (inside d.owner p.functions) else []

-- the variable that a mention declares: a `var` may name a parameter, and then it declares none
abbrev pub variable_at : What → Option Declared → Option Declared
variable_at (Declares role) (Some d) = if is_parameter d.role then None else Some d
variable_at _ _ = None

abbrev pub variable_of : List ℕ → Option Declared → List Holding
variable_of assigned None = []
variable_of assigned (Some d) = if is_constant assigned d then [] else hold d.owner d.offset ∷ []

abbrev pub parameter_in : Mention → List Holding
parameter_in p = parameter_at p.what p

abbrev pub captures_in : List ℕ → Mention → List Holding
captures_in assigned p = captures_of assigned p p.declared

abbrev pub variable_in : List ℕ → Mention → List Holding
variable_in assigned p = variable_of assigned (variable_at p.what p.declared)

-- what the functions hold: their parameters, then their captures, then their other variables that are no constants
unfoldable pub holdings : List ℕ → List Mention → List Holding
holdings assigned ps =
    flat_map parameter_in ps
    ++ (flat_map (captures_in assigned) ps ++ flat_map (variable_in assigned) ps)

-- the variable of each slot of a function
unfoldable pub slots_of : List ℕ → ℕ → List Mention → List ℕ
slots_of assigned f ps = first_uses (held_by f (holdings assigned ps))

-- the variables that a function copies from around it, for itself or for functions in it, in the order of
-- their first uses
unfoldable pub captures : List ℕ → ℕ → List Mention → List ℕ
captures assigned f ps = first_uses (held_by f (flat_map (captures_in assigned) ps))

-- the `var` that a mention declares
abbrev pub var_of : List ℕ → Option Declared → List Holding
var_of assigned None = []
var_of assigned (Some d) = if is_var d.role then variable_of assigned (Some d) else []

abbrev pub var_in : List ℕ → Mention → List Holding
var_in assigned p = var_of assigned (variable_at p.what p.declared)

-- the `var`s of a function that are not constants, in the order of their first declarations
unfoldable pub vars_of : List ℕ → ℕ → List Mention → List ℕ
vars_of assigned f ps = first_uses (held_by f (flat_map (var_in assigned) ps))

-- how many slots each function needs
unfoldable pub slot_count : List ℕ → List Mention → ℕ → ℕ
slot_count assigned ps f = length (slots_of assigned f ps)

abbrev pub constant_in : List ℕ → Option Declared → Option ℕ
constant_in assigned None = None
constant_in assigned (Some d) = if is_constant assigned d then Some d.offset else None

abbrev pub constant_at : List ℕ → Mention → Option ℕ
constant_at assigned p = constant_in assigned (variable_at p.what p.declared)

-- the constants, in the order of their declarations
unfoldable pub constants_of : List ℕ → List Mention → List ℕ
constants_of assigned ps = first_uses (filter_map (constant_at assigned) ps)

abbrev pub is_begin : What → Bool
is_begin Begins = true
is_begin _ = false

-- the function that begins here
abbrev pub function_at : Mention → Option ℕ
function_at p = if is_begin p.what && not (nat_eq p.around.owner top) then Some p.around.owner else None

-- the functions, in the order of their first tokens
unfoldable pub functions_in : List Mention → List ℕ
functions_in ps = first_uses (filter_map function_at ps)
