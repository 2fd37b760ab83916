-- Where the text of a program begins.
use Rattle.std.specs.Prelude.{List, [], ◌∷◌}
use Rattle.js_tree.specs.declared.tree.Spot.{Spot}
use Rattle.js_tree.specs.Plain.{PlainItem, statement, function_of}

-- the first token of a program, or the begin of line 1 where there is none
abbrev pub program_spot : List PlainItem → Spot
program_spot [] = record { at = 0; line = 1 }
program_spot (statement spot s ∷ items) = spot
program_spot (function_of spot name names ss ∷ items) = spot
