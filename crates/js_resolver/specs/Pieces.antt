-- The nodes and functions of forms that stand one after the other.
use Rattle.std.specs.Prelude.{ℕ, ◌+◌, List, [], ◌∷◌, ◌++◌, length, get_or}
use Rattle.js_tree.specs.declared.tree.Name.{Name}
use Rattle.js_tree.specs.declared.tree.Spot.{Spot}
use Rattle.js_program.specs.PlainProgram as n
use Rattle.js_program.specs.PlainProgram.{PlainNode, PlainNodeForm, PlainBody, PlainContent}
use Rattle.js_names.specs.Mentions.{Mention}
use Rattle.js_resolver.specs.Variables.{body_of}

-- the nodes of some forms that stand one after the other, the functions in them, and the forms' own numbers
pub record Piece : Type 0 where
  pub nodes : List PlainNode
  pub functions : List PlainBody
  pub parts : List ℕ

abbrev pub none : Piece
none = record { nodes = []; functions = []; parts = [] }

abbrev pub beside : Piece → Piece → Piece
beside x y = record {
  nodes = x.nodes ++ y.nodes;
  functions = x.functions ++ y.functions;
  parts = x.parts ++ y.parts;
}

-- the number after the nodes of a piece that begins at b
abbrev pub after : ℕ → Piece → ℕ
after b x = b + length x.nodes

-- the form that these are the parts of: its own node comes last
abbrev pub closed : ℕ → ℕ → (List ℕ → PlainNodeForm) → Piece → Piece
closed b line form x = record {
  nodes = x.nodes ++ record { line = line; form = form x.parts } ∷ [];
  functions = x.functions;
  parts = after b x ∷ [];
}

-- the number of the part that stands at this place among the parts; each form has as many parts as are asked for
abbrev pub part : ℕ → List ℕ → ℕ
part k parts = get_or parts k 0

-- a function, whose statements are not parts of it
abbrev pub function_piece :
    List Mention → Spot → List Name → (List ℕ → PlainContent) → Piece → Piece
function_piece ps spot names content x = record {
  nodes = x.nodes;
  functions = body_of ps spot.at (length names) (content x.parts) spot.line ∷ x.functions;
  parts = [];
}

abbrev pub one_value : List ℕ → PlainContent
one_value parts = n.one_value (part 0 parts)
