-- What each name of a program stands for, and what a function holds, from the mentions of the program.
use Rattle.std.specs.Prelude.{ℕ, nat_eq, List, [], ◌∷◌, Option, Some, None, map, length, position, unwrap_or, if◌then◌else◌}
use Rattle.js_program.specs.declared.node.Variable.{Variable}
use Rattle.js_program.specs.declared.node.Variable.TheVariants.{Slot, Constant}
use Rattle.js_program.specs.PlainProgram.{PlainBody, PlainContent}
use Rattle.js_names.specs.declared.mention.Declared.{Declared}
use Rattle.js_names.specs.Entries.{top}
use Rattle.js_names.specs.Mentions.{Mention, or_else}
use Rattle.js_names.specs.Slots.{assigned_in, is_constant, is_begin, captures, vars_of, slots_of, constants_of, functions_in}

-- where a number stands in a list
abbrev pub index_in : List ℕ → ℕ → ℕ
index_in xs x = unwrap_or (position (nat_eq x) xs) 0

-- a variable as a function with these slots names it
abbrev pub variable_with : List ℕ → List ℕ → List ℕ → Declared → Variable
variable_with assigned constants slots d =
    if is_constant assigned d then Constant (index_in constants d.offset)
    else Slot (index_in slots d.offset)

abbrev pub named_by : List ℕ → List ℕ → List ℕ → Option Declared → Option Variable
named_by assigned constants slots None = None
named_by assigned constants slots (Some d) = Some (variable_with assigned constants slots d)

-- what the name of a mention stands for
abbrev pub named_there : List ℕ → List ℕ → (ℕ → List ℕ) → Mention → Option Variable
named_there assigned constants slots p = named_by assigned constants (slots p.around.owner) p.declared

-- what mentions know of a key, by the first of them that knows something

abbrev pub known_here : {A : Type 0} → (Mention → ℕ) → (Mention → Option A) → ℕ → Mention → Option A
known_here key value q p = if nat_eq (key p) q then value p else None

abbrev pub known_in :
    {A : Type 0} → (Mention → ℕ) → (Mention → Option A) → ℕ → List Mention → Option A
known_in key value q [] = None
known_in key value q (p ∷ ps) = or_else (known_here key value q p) (known_in key value q ps)

abbrev pub name_key : Mention → ℕ
name_key p = p.name.spot.at

abbrev pub owner_key : Mention → ℕ
owner_key p = p.around.owner

abbrev pub named : List Mention → Mention → Option Variable
named ps p =
    let assigned = assigned_in ps in
    named_there assigned (constants_of assigned ps) (λ f. slots_of assigned f ps) p

-- what the name at an offset of the text stands for
unfoldable pub named_at : List Mention → ℕ → Variable
named_at ps at = unwrap_or (known_in name_key (named ps) at ps) (Slot 0)

-- the slot of a variable: nothing that is assigned, updated or not yet declared is a constant, where no rule
-- of names is broken
abbrev pub slot_of : Variable → ℕ
slot_of (Slot n) = n
slot_of (Constant n) = 0

-- the slot that the name at an offset of the text stands for
abbrev pub slot_at : List Mention → ℕ → ℕ
slot_at ps at = slot_of (named_at ps at)

abbrev pub first_some : {A : Type 0} → A → List (Option A) → A
first_some a [] = a
first_some a (None ∷ os) = first_some a os
first_some a (Some b ∷ os) = b

-- the number of the function that begins at an offset of the text
unfoldable pub code_at : List Mention → ℕ → ℕ
code_at ps at = index_in (functions_in ps) at

abbrev pub second : ℕ → List ℕ → ℕ
second x (f ∷ g ∷ gs) = g
second x _ = x

-- the function around the one that begins here
abbrev pub around_there : Mention → Option ℕ
around_there p = if is_begin p.what then Some (second top p.functions) else None

-- the function around a function
unfoldable pub around_of : List Mention → ℕ → ℕ
around_of ps f = unwrap_or (known_in owner_key around_there f ps) top

-- the slots of some variables
abbrev pub slots_among : List ℕ → List ℕ → List ℕ
slots_among slots variables = map (index_in slots) variables

-- the slots of a function's `var`s
abbrev pub var_slots : List Mention → ℕ → List ℕ
var_slots ps f =
    let assigned = assigned_in ps in slots_among (slots_of assigned f ps) (vars_of assigned f ps)

-- for each captured value, its slot in the function around
abbrev pub capture_slots : List Mention → ℕ → List ℕ
capture_slots ps f =
    let assigned = assigned_in ps in
    slots_among (slots_of assigned (around_of ps f) ps) (captures assigned f ps)

-- the function f, with what a call of it runs
unfoldable pub body_of : List Mention → ℕ → ℕ → PlainContent → ℕ → PlainBody
body_of ps f parameters content line = record {
  parameters = parameters;
  slots = length (slots_of (assigned_in ps) f ps);
  captures = capture_slots ps f;
  vars = var_slots ps f;
  content = content;
  line = line;
}

-- the line of the first mention, which is the first token of the program
abbrev pub first_line : List Mention → ℕ
first_line [] = 1
first_line (p ∷ ps) = p.name.spot.line
