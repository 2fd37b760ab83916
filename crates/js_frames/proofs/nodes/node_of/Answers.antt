use Rattle.std.proofs.Common.{sym, ap, ◌∙◌}
use Rattle.std.specs.Prelude.{slice_get}
use Rattle.js_program.specs.PlainProgram.{PlainProgram}
use Rattle.js_program.specs.Views.{plain_node}
use Rattle.js_frames.proofs.Numbers.{parts_there}
use Rattle.js_frames.proofs.nodes.node_of.Goals as goal

pub returns-clause-parts : goal.returns-clause-parts
returns-clause-parts c = parts_there (let b = c.args.base.now in b.program) c.args.number (plain_node c.node.result.now) c.keeps.ensures (ap (λ (q : PlainProgram). slice_get q.nodes c.args.number) (sym c.program.ensures) ∙ c.node.ensures)
