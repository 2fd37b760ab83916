-- The parts of a resolved program.
use Rattle.std.specs.Prelude.{map}
use Rattle.js_program.specs.PlainProgram.{PlainProgram}
use Rattle.js_program.specs.Views.{plain_node, plain_body, plain_constant}
use Rattle.js_program.specs.Views as v
use Rattle.js_resolver.specs.declared.program.Parts.{Parts}

abbrev pub plain_parts : Parts → PlainProgram
plain_parts p =
    v.program_with (map plain_node p.nodes.items) (map plain_body p.functions.items)
    (map plain_constant p.constants.items) (plain_body p.top)
