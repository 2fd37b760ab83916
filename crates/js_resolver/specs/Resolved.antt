-- The resolved program of a tree.
use Rattle.std.specs.Prelude.{ℕ, nat_eq, List, Option, Some, None, map, if◌then◌else◌}
use Rattle.js_tree.specs.Plain.{PlainItem, statement, function_of}
use Rattle.js_program.specs.PlainProgram.{PlainProgram, PlainConstant, of_function, undeclared, unset, statements}
use Rattle.js_names.specs.declared.mention.Declared.{Declared}
use Rattle.js_names.specs.declared.mention.NameFault.{NameFault}
use Rattle.js_names.specs.Entries.{top}
use Rattle.js_names.specs.Mentions.{Mention, mentions, is_var}
use Rattle.js_names.specs.Slots.{assigned_in, constants_of}
use Rattle.js_names.specs.Rules.{name_fault}
use Rattle.js_resolver.specs.Variables.{code_at, body_of, first_some, first_line}
use Rattle.js_resolver.specs.Nodes.{items_piece}

-- a function declaration whose name stands at an offset is a constant with its value from the start
abbrev pub function_named : List Mention → ℕ → PlainItem → Option PlainConstant
function_named ps v (statement spot s) = None
function_named ps v (function_of spot name names ss) =
    if nat_eq name.spot.at v then Some (of_function (code_at ps spot.at)) else None

abbrev pub constant_there : ℕ → Option Declared → Option PlainConstant
constant_there v None = None
constant_there v (Some d) =
    if nat_eq d.offset v then Some (if is_var d.role then unset else undeclared) else None

abbrev pub constant_of : List PlainItem → List Mention → ℕ → PlainConstant
constant_of items ps v =
    first_some (first_some undeclared (map (λ (p : Mention). constant_there v p.declared) ps))
    (map (function_named ps v) items)

-- the program of these items, whose mentions these are
abbrev pub program_from : List PlainItem → List Mention → PlainProgram
program_from items ps =
    let x = items_piece ps 0 items in
    record {
      nodes = x.nodes;
      functions = x.functions;
      constants = map (constant_of items ps) (constants_of (assigned_in ps) ps);
      top = body_of ps top 0 (statements x.parts) (first_line ps);
    }

-- the program of a tree
unfoldable pub program_of_tree : List PlainItem → PlainProgram
program_of_tree items = program_from items (mentions items)

abbrev pub unless_fault : Option NameFault → PlainProgram → Option PlainProgram
unless_fault None p = Some p
unless_fault (Some f) p = None

-- the program, exactly where no rule of names is broken
unfoldable pub resolved : List PlainItem → Option PlainProgram
resolved items = unless_fault (name_fault items) (program_of_tree items)
