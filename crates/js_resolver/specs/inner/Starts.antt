-- What a map knows of the constants of a program.
use Rattle.std.specs.Prelude.{◌≡◌, ℕ, nat_eq, List, [], ◌∷◌, Option, None, option_map}
use Rattle.indexmap.specs.IndexMap.{get}
use Rattle.js_program.specs.declared.node.ConstantStart.{ConstantStart}
use Rattle.js_program.specs.PlainProgram.{PlainConstant}
use Rattle.js_program.specs.Views.{plain_constant}
use Rattle.js_names.specs.Mentions.{or_else}
use Rattle.js_resolver.specs.inner.Tables.{Known}

abbrev pub start_in : Known ConstantStart → ℕ → Option PlainConstant
start_in m q = option_map plain_constant (get nat_eq m q)

-- the first that is there
abbrev pub first_of : {A : Type 0} → List (Option A) → Option A
first_of [] = None
first_of (o ∷ os) = or_else o (first_of os)

-- a map took in what is known of each constant, unless it knew something
abbrev pub NotesStart : Known ConstantStart → Known ConstantStart → (ℕ → Option PlainConstant) → Type 0
NotesStart old new known = (q : ℕ) → start_in new q ≡ or_else (start_in old q) (known q)
