-- The numbers that a sound program names are numbers of nodes.
use Rattle.std.proofs.Common.{◌≡◌, ℕ, [], length, Option, Some, None, refl, ap}
use Rattle.std.specs.Prelude.{slice_get, unwrap_or}
use Rattle.js_program.specs.PlainProgram as p
use Rattle.js_program.specs.PlainProgram.{PlainProgram, PlainNode, PlainNodeForm, PlainContent, PlainBody, parts_of, content_parts}
use Rattle.js_program.specs.Sound.{IsSound}
use Rattle.js_program.proofs.Order.{part_there}
use Rattle.js_program.proofs.Bodies.{BodyFits, top_body, function_body, content_below}
use Rattle.js_meaning.specs.Calls.{no_body}
use Rattle.js_frames.specs.declared.frame.Sequence.{Sequence}
use Rattle.js_frames.specs.declared.frame.Sequence.TheVariants.{Block, Function, Top}
use Rattle.js_frames.specs.Frames.{statements_of, statements_in, block_of, block_in}
use Rattle.js_frames.specs.Fits.{AreNodes}

-- the parts of a node
pub parts_there : (program : PlainProgram) (n : ℕ) (x : PlainNode) → IsSound program → slice_get program.nodes n ≡ Some x → AreNodes program (parts_of x.form)
parts_there program n x sound at k m e = part_there program n x k m sound at e

nowhere : (program : PlainProgram) → AreNodes program []
nowhere program k n e = cc

in_block : (program : PlainProgram) (form : PlainNodeForm) → AreNodes program (parts_of form) → AreNodes program (block_in form)
in_block program (p.block slots ns) h = h
in_block program _ h = nowhere program

in_block_of : (program : PlainProgram) (n : ℕ) (o : Option PlainNode) → IsSound program → slice_get program.nodes n ≡ o → AreNodes program (block_of o)
in_block_of program n None sound at = nowhere program
in_block_of program n (Some x) sound at = in_block program x.form (parts_there program n x sound at)

-- what a body begins with
pub content_there : (program : PlainProgram) (constants : ℕ) (b : PlainBody) → BodyFits program constants b → AreNodes program (content_parts b.content)
content_there program constants b h k n e = content_below program constants b k n h e

in_content : (program : PlainProgram) (content : PlainContent) → AreNodes program (content_parts content) → AreNodes program (statements_in content)
in_content program (p.statements ns) h = h
in_content program (p.one_value n) h = nowhere program

in_function : (program : PlainProgram) (code : ℕ) (o : Option PlainBody) → IsSound program → slice_get program.functions code ≡ o → AreNodes program (statements_in (let b = unwrap_or o no_body in b.content))
in_function program code None sound at = nowhere program
in_function program code (Some b) sound at = in_content program b.content (content_there program 0 b (function_body program code b sound at))

-- the statements that are done in order
pub statements_there : (program : PlainProgram) (which : Sequence) → IsSound program → AreNodes program (statements_of program which)
statements_there program (Block n) sound = in_block_of program n (slice_get program.nodes n) sound refl
statements_there program (Function code) sound = in_function program code (slice_get program.functions code) sound refl
statements_there program Top sound = in_content program (let b = program.top in b.content) (content_there program (length program.constants) program.top (top_body program sound))

-- and for a body that is called
pub function_parts : (program : PlainProgram) (code : ℕ) (b : PlainBody) → IsSound program → slice_get program.functions code ≡ Some b → AreNodes program (content_parts b.content)
function_parts program code b sound at = content_there program 0 b (function_body program code b sound at)

pub top_parts : (program : PlainProgram) → IsSound program → AreNodes program (content_parts (let b = program.top in b.content))
top_parts program sound = content_there program (length program.constants) program.top (top_body program sound)

-- the statements of a function that is found
pub function_statements : (program : PlainProgram) (code : ℕ) (b : PlainBody) → slice_get program.functions code ≡ Some b → statements_of program (Function code) ≡ statements_in (let q = b in q.content)
function_statements program code b at = ap (λ o. statements_in (let q = unwrap_or o no_body in q.content)) at
